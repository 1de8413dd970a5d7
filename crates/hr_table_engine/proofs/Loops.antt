-- Loops over tables.
use Rattle.std.proofs.Common.{◌≡◌, ◌<◌, ◌≤◌, ◌⊎◌, inl, inr, nat_lt, ℕ, zero, suc, Bool, true, false, cond, Option, Some, None, List, [], ◌∷◌, ◌++◌, length, get_or, replicate, map, take, drop, refl, ap, sym, ◌∙◌, arith}
use Rattle.std.specs.List.{list_all}
use Rattle.std.specs.Prelude.{slice_set, slice_get, unwrap_or, option_map}
use Rattle.std.proofs.lemmas.Option.{unwrap_or-slice_get}
use Rattle.hr_rel.specs.declared.value.Value.{Value}
use Rattle.std.proofs.lemmas.Bool.{both_ways, false_from_ne_true, cases_eq, eq-eqb, ltb-true, ltb-false}
use Rattle.std.proofs.lemmas.List.{take-append-le, take_all}
use Rattle.hr_statement_laws.proofs.Fitting.{size_set}
use Rattle.hr_table_engine.specs.declared.before.Before.{Before}
use Rattle.hr_table_engine.specs.Undo.{slot_rows, undone, everyone, slot_at, is_of, is_kept_ordered, cleared}
use Rattle.hr_table_engine.specs.Laws.{undone_at}
use Rattle.hr_table_engine.proofs.Slots.{set_there}
use Rattle.hr_table_engine.proofs.Ends.{none_at}

module _ (txn : ℕ) where
  -- some slots, of which the first are cleared
  abbrev pub so_far : ℕ → List (Option Before) → List (Option Before)
  so_far i all = map (cleared txn) (take i all) ++ drop i all

  pub clear_next : (i : ℕ) (slots all : List (Option Before)) (new d : Option Before) → i < length slots → new ≡ cleared txn (get_or slots i d) → slots ≡ so_far i all
      → slice_set slots i new ≡ so_far (suc i) all
  clear_next i [] all new d l f so = absurd (omega (arith, l))
  clear_next zero (w ∷ slots) [] new d l f so = cc
  clear_next zero (w ∷ slots) (p ∷ all) new d l f so =
      let first : w ≡ p = cc in
      let rest : slots ≡ all = cc in
      ap (λ (v : Option Before). v ∷ slots) (f ∙ ap (cleared txn) first) ∙ ap (λ (v : List (Option Before)). cleared txn p ∷ v) rest
  clear_next (suc i) (w ∷ slots) [] new d l f so = cc
  clear_next (suc i) (w ∷ slots) (p ∷ all) new d l f so =
      let first : w ≡ cleared txn p = cc in
      let rest : slots ≡ so_far i all = cc in
      ap (λ (v : List (Option Before)). w ∷ v) (clear_next i slots all new d (omega (arith, l)) f rest) ∙ ap (λ (v : Option Before). v ∷ so_far (suc i) all) first

  pub clear_end : (i : ℕ) (all : List (Option Before)) → length (so_far i all) ≤ i → so_far i all ≡ map (cleared txn) all
  clear_end zero [] l = refl
  clear_end zero (p ∷ all) l = absurd (omega (arith, l))
  clear_end (suc i) [] l = refl
  clear_end (suc i) (p ∷ all) l = ap (λ (v : List (Option Before)). cleared txn p ∷ v) (clear_end i all (omega (arith, l)))

-- ---- one table's changes undone

module _ (txn : ℕ) (old new : List (Option Before)) (at : ℕ) (undo : new ≡ cond (is_of txn (slot_at old at)) (slice_set old at None) old) where
  slot_next : (b : Bool) → is_of txn (slot_at old at) ≡ b → (t : ℕ) → (slot_at new t ≡ slot_at old t) ⊎ (slot_at new t ≡ None)
  slot_next true e t = elim (cases_eq at t) [
    | inl same ↦ inr (ap (λ (l : List (Option Before)). slot_at l t) (whole true e) ∙ ap (slot_at (slice_set old at None)) (sym same) ∙ none_at old at)
    | inr differ ↦ inl (ap (λ (l : List (Option Before)). slot_at l t) (whole true e) ∙ set_there old at t None differ)
  ]
    where
      whole : (b : Bool) → is_of txn (slot_at old at) ≡ b → new ≡ cond b (slice_set old at None) old
      whole b e = undo ∙ ap (λ (c : Bool). cond c (slice_set old at None) old) e
  slot_next false e t = inl (ap (λ (l : List (Option Before)). slot_at l t) (undo ∙ ap (λ (c : Bool). cond c (slice_set old at None) old) e))

  slots_next : (t : ℕ) → (slot_at new t ≡ slot_at old t) ⊎ (slot_at new t ≡ None)
  slots_next t = slot_next (is_of txn (slot_at old at)) refl t

  -- nobody has written more
  pub undo_wrote : (u t : ℕ) → is_of u (slot_at new t) ≡ true → is_of u (slot_at old t) ≡ true
  undo_wrote u t w = elim (slots_next t) [
    | inl same ↦ sym (ap (is_of u) same) ∙ w
    | inr none ↦ cc (ap (is_of u) none)
  ]

  undo_by : (b : Bool) → is_of txn (slot_at old at) ≡ b → is_of txn (slot_at new at) ≡ false
  undo_by true e =
      ap (λ (l : List (Option Before)). is_of txn (slot_at l at)) (undo ∙ ap (λ (c : Bool). cond c (slice_set old at None) old) e) ∙ ap (is_of txn) (none_at old at)
  undo_by false e = ap (λ (l : List (Option Before)). is_of txn (slot_at l at)) (undo ∙ ap (λ (c : Bool). cond c (slice_set old at None) old) e) ∙ e

  pub undo_gone : is_of txn (slot_at new at) ≡ false
  undo_gone = undo_by (is_of txn (slot_at old at)) refl

  size_by : (b : Bool) → length (cond b (slice_set old at None) old) ≡ length old
  size_by true = size_set old at None
  size_by false = refl

  pub undo_size : length new ≡ length old
  undo_size = ap (λ (l : List (Option Before)). length l) undo ∙ size_by (is_of txn (slot_at old at))

  -- the first tables stay without the transaction's changes, and this one too
  pub gone_next : ((t : ℕ) → t < at → is_of txn (slot_at old t) ≡ false) → (t : ℕ) → t < suc at → is_of txn (slot_at new t) ≡ false
  gone_next before t l = elim (cases_eq t at) [
    | inl same ↦ ap (λ (x : ℕ). is_of txn (slot_at new x)) same ∙ undo_gone
    | inr differ ↦ false_from_ne_true (is_of txn (slot_at new t)) (λ w. both_ways (is_of txn (slot_at old t)) (before t (omega (arith, l, differ))) (undo_wrote txn t w))
  ]

  none_by : (t : ℕ) → slot_at old t ≡ None → slot_at new t ≡ None
  none_by t e = elim (slots_next t) [ inl same ↦ same ∙ e | inr none ↦ none ]

  writer_gone : (slot : Option Before) → slot_at old at ≡ slot → option_map (λ (b : Before). b.txn) slot ≡ Some txn → slot_at new at ≡ None
  writer_gone None e h = cc
  writer_gone (Some b) e h =
      let its : b.txn ≡ txn = cc in
      ap (λ (l : List (Option Before)). slot_at l at)
      (undo ∙ ap (λ (c : Bool). cond c (slice_set old at None) old) (ap (is_of txn) e ∙ eq-eqb b.txn txn its)) ∙ none_at old at

  -- the first tables stay without changes, and this one too, where its writer was meant
  pub none_next : option_map (λ (b : Before). b.txn) (slot_at old at) ≡ Some txn → ((t : ℕ) → t < at → slot_at old t ≡ None) → (t : ℕ) → t < suc at → slot_at new t ≡ None
  none_next writer before t l = elim (cases_eq t at) [
    | inl same ↦ ap (slot_at new) same ∙ writer_gone (slot_at old at) refl writer
    | inr differ ↦ none_by t (before t (omega (arith, l, differ)))
  ]

no_writer : (slot : Option Before) → option_map (λ (b : Before). b.txn) slot ≡ None → slot ≡ None
no_writer None h = refl
no_writer (Some b) h = cc

pub none_stays : (slots : List (Option Before)) (at : ℕ) → option_map (λ (b : Before). b.txn) (slot_at slots at) ≡ None → ((t : ℕ) → t < at → slot_at slots t ≡ None)
    → (t : ℕ) → t < suc at → slot_at slots t ≡ None
none_stays slots at none before t l = elim (cases_eq t at) [
  | inl same ↦ ap (slot_at slots) same ∙ no_writer (slot_at slots at) none
  | inr differ ↦ before t (omega (arith, l, differ))
]

-- ---- all tables

beyond : (slots : List (Option Before)) (t : ℕ) → length slots ≤ t → slot_at slots t ≡ None
beyond [] t l = refl
beyond (slot ∷ slots) zero l = absurd (omega (arith, l))
beyond (slot ∷ slots) (suc t) l = beyond slots t (omega (arith, l))

pub gone_all : (txn : ℕ) (slots : List (Option Before)) (n : ℕ) → length slots ≤ n → ((t : ℕ) → t < n → is_of txn (slot_at slots t) ≡ false) → (t : ℕ) → is_of txn (slot_at slots t) ≡ false
gone_all txn slots n l before t = by_place (nat_lt t n) refl
  where
    by_place : (b : Bool) → nat_lt t n ≡ b → is_of txn (slot_at slots t) ≡ false
    by_place true e = before t (ltb-true t n e)
    by_place false e = ap (is_of txn) (beyond slots t (omega (arith, l, ltb-false t n e)))

pub none_all : (slots : List (Option Before)) (n : ℕ) → length slots ≤ n → ((t : ℕ) → t < n → slot_at slots t ≡ None) → (t : ℕ) → slot_at slots t ≡ None
none_all slots n l before t = by_place (nat_lt t n) refl
  where
    by_place : (b : Bool) → nat_lt t n ≡ b → slot_at slots t ≡ None
    by_place true e = before t (ltb-true t n e)
    by_place false e = beyond slots t (omega (arith, l, ltb-false t n e))

-- what is written through a slice of all of a list
pub put_whole : (n : ℕ) (old new : List (Option Before)) → length new ≡ n → take n (new ++ drop (length new) old) ≡ new
put_whole n old new e = take-append-le n new (drop (length new) old) (omega (arith, e)) ∙ take_all n new (omega (arith, e))

-- ---- the committed rows of a table

pub item_is : {X : Type 0} (xs : List X) (at : ℕ) (cell d : X) → at < length xs → cell ≡ get_or xs at cell → get_or xs at d ≡ cell
item_is [] at cell d l e = absurd (omega (arith, l))
item_is (x ∷ xs) zero cell d l e = sym e
item_is (x ∷ xs) (suc at) cell d l e = item_is xs at cell d (omega (arith, l)) e

module _ (slots : List (Option Before)) (tables : List (List (List Value))) (at : ℕ) (sized : length slots ≡ length tables) where
  pub kept_rows : (b : Before) → slot_at slots at ≡ Some b → b.rows ≡ get_or (undone everyone slots tables) at []
  kept_rows b here =
      sym (ap (λ (o : Option Before). slot_rows everyone o (unwrap_or (slice_get tables at) [])) here) ∙ sym (undone_at everyone slots tables at sized)
      ∙ unwrap_or-slice_get (undone everyone slots tables) at []

  pub plain_rows : (rows : List (List Value)) → slot_at slots at ≡ None → get_or tables at [] ≡ rows → rows ≡ get_or (undone everyone slots tables) at []
  plain_rows rows none is =
      sym (ap (λ (o : Option Before). slot_rows everyone o (unwrap_or (slice_get tables at) [])) none ∙ unwrap_or-slice_get tables at [] ∙ is) ∙ sym (undone_at everyone slots tables at sized)
      ∙ unwrap_or-slice_get (undone everyone slots tables) at []

-- ---- a store in which nobody has changed anything

abbrev pub nobody : ℕ → List (Option Before)
nobody n = replicate n None

pub size_none : (n : ℕ) → length (nobody n) ≡ n
size_none zero = refl
size_none (suc n) = ap suc (size_none n)

pub all_none : (n : ℕ) → list_all is_kept_ordered (nobody n) ≡ true
all_none zero = refl
all_none (suc n) = all_none n

pub slots_none : (n t : ℕ) → slot_at (nobody n) t ≡ None
slots_none zero t = refl
slots_none (suc n) zero = refl
slots_none (suc n) (suc t) = slots_none n t

pub undone_none : (tables : List (List (List Value))) → undone everyone (nobody (length tables)) tables ≡ tables
undone_none [] = refl
undone_none (rows ∷ tables) = ap (λ (l : List (List (List Value))). rows ∷ l) (undone_none tables)
