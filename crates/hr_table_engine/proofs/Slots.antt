-- Slots, one by one, and databases without changes.
use Rattle.std.proofs.Common.{◌≡◌, ◌⊎◌, inl, inr, ℕ, zero, suc, ℤ, Bool, true, false, cond, ◌&&◌, ◌||◌, ◌==◌, Option, Some, None, List, [], ◌∷◌, length, map, refl, ap, subst, ◌∙◌, arith}
use Rattle.std.specs.Prelude.{◌≢◌, unwrap_or, slice_get, slice_set}
use Rattle.std.specs.List.{list_all}
use Rattle.std.proofs.lemmas.Bool.{and_from, and_parts, or_left, or_cases, eq-eqb, eqb-true, cases_eq}
use Rattle.hr_rel.specs.declared.value.Value.{Value}
use Rattle.hr_rel.specs.declared.stmt.Stmt.{Stmt}
use Rattle.hr_rel.specs.declared.stmt.Stmt.TheVariants as stmt
use Rattle.hr_rel.specs.Database.{Database}
use Rattle.hr_rel.specs.Kinds.{fits_i64}
use Rattle.hr_rel.specs.Holds.{is_ordered, IsOrdered}
use Rattle.hr_parts.specs.Parts.{is_in, covers, written}
use Rattle.hr_parts.specs.Footprints.{whole, table_parts, least_key, greatest_key}
use Rattle.std.specs.Prelude.{int_le}
use Rattle.hr_parts.proofs.WholeTables.{not_below, not_above}
use Rattle.hr_table_engine.specs.declared.before.Before.{Before}
use Rattle.hr_table_engine.specs.Undo.{slot_rows, undone, database_without, slot_at, is_open, is_kept_ordered, written_table, saved_of, kept}

-- ---- one slot

set_here : (slots : List (Option Before)) (i : ℕ) (x : Option Before) → is_open (slice_get slots i) ≡ true → slot_at (slice_set slots i x) i ≡ x
set_here [] i x h = cc
set_here (slot ∷ slots) zero x h = refl
set_here (slot ∷ slots) (suc i) x h = set_here slots i x h

pub set_there : (slots : List (Option Before)) (i t : ℕ) (x : Option Before) → i ≢ t → slot_at (slice_set slots i x) t ≡ slot_at slots t
set_there [] i t x differ = refl
set_there (slot ∷ slots) zero zero x differ = absurd (differ refl)
set_there (slot ∷ slots) zero (suc t) x differ = refl
set_there (slot ∷ slots) (suc i) zero x differ = refl
set_there (slot ∷ slots) (suc i) (suc t) x differ = set_there slots i t x (λ e. differ (ap suc e))

open_none : (o : Option (Option Before)) → is_open o ≡ true → unwrap_or o None ≡ None
open_none None h = cc
open_none (Some None) h = refl
open_none (Some (Some b)) h = cc

-- rows that are now kept for a transaction, and weren't
pub record New (slots : List (Option Before)) (tables : List (List (List Value))) (txn : ℕ) (w : Option ℕ) (t : ℕ) (now : List (Option Before)) : Type 0 where
  pub changed : w ≡ Some t
  pub before : slot_at slots t ≡ None
  pub after : slot_at now t ≡ Some (record { txn = txn; rows = unwrap_or (slice_get tables t) [] })

pub slot_now : (slots : List (Option Before)) (tables : List (List (List Value))) (txn : ℕ) (w : Option ℕ) (t : ℕ)
    → (slot_at (kept txn (saved_of slots tables w) slots) t ≡ slot_at slots t) ⊎ New slots tables txn w t (kept txn (saved_of slots tables w) slots)
slot_now slots tables txn None t = inl refl
slot_now slots tables txn (Some i) t = by_open (is_open (slice_get slots i)) refl
  where
    by_open : (b : Bool) → is_open (slice_get slots i) ≡ b
        → (slot_at (kept txn (cond b (Some (i, unwrap_or (slice_get tables i) [])) None) slots) t ≡ slot_at slots t)
        ⊎ New slots tables txn (Some i) t (kept txn (cond b (Some (i, unwrap_or (slice_get tables i) [])) None) slots)
    by_open false e = inl refl
    by_open true e = elim (cases_eq i t) [
      | inl same ↦
          inr (subst (λ (x : ℕ). New slots tables txn (Some i) x (slice_set slots i (Some (record { txn = txn; rows = unwrap_or (slice_get tables i) [] })))) same record {
            changed = refl;
            before = open_none (slice_get slots i) e;
            after = set_here slots i _ e;
          })
      | inr differ ↦ inl (set_there slots i t _ differ)
    ]

-- where a changed table isn't kept, it isn't there
not_open_none : (o : Option (Option Before)) → is_open o ≡ false → unwrap_or o None ≡ None → o ≡ None
not_open_none None h e = refl
not_open_none (Some None) h e = cc
not_open_none (Some (Some b)) h e = cc

pub not_there : (slots : List (Option Before)) (tables : List (List (List Value))) (txn t : ℕ) → slot_at (kept txn (saved_of slots tables (Some t)) slots) t ≡ None → slice_get slots t ≡ None
not_there slots tables txn t = by_open (is_open (slice_get slots t)) refl
  where
    by_open : (b : Bool) → is_open (slice_get slots t) ≡ b → slot_at (kept txn (cond b (Some (t, unwrap_or (slice_get tables t) [])) None) slots) t ≡ None → slice_get slots t ≡ None
    by_open false e h = not_open_none (slice_get slots t) e h
    by_open true e h = let here = set_here slots t (Some (record { txn = txn; rows = unwrap_or (slice_get tables t) [] })) e in cc

pub no_rows : (slots : List (Option Before)) (tables : List (List (List Value))) (t : ℕ) → length slots ≡ length tables → slice_get slots t ≡ None → unwrap_or (slice_get tables t) [] ≡ []
no_rows [] [] t e h = refl
no_rows [] (rows ∷ tables) t e h = absurd (omega (arith, e))
no_rows (slot ∷ slots) [] t e h = absurd (omega (arith, e))
no_rows (slot ∷ slots) (rows ∷ tables) zero e h = cc
no_rows (slot ∷ slots) (rows ∷ tables) (suc t) e h = no_rows slots tables t (omega (arith, e)) h

-- ---- which rows a statement changes

all_in : (i t : ℕ) (k : ℤ) → i ≡ t → fits_i64 k ≡ true → (is_in t k (whole true i) || false) ≡ true
all_in i t k e fit =
    or_left (is_in t k (whole true i)) false
    (and_from ((i == t) && int_le least_key k) (int_le k greatest_key) (and_from (i == t) (int_le least_key k) (eq-eqb i t e) (not_below k fit)) (not_above k fit))

same_some : (i t : ℕ) → Some i ≡ Some t → i ≡ t
same_some i t e = cc

pub written_covers : (s : Stmt) (t : ℕ) (k : ℤ) → written_table s ≡ Some t → fits_i64 k ≡ true → covers (written (table_parts s)) t k ≡ true
written_covers (stmt.Select s) t k e fit = cc
written_covers (stmt.Insert s) t k e fit = all_in s.table t k (same_some s.table t e) fit
written_covers (stmt.Update s) t k e fit = all_in s.table t k (same_some s.table t e) fit
written_covers (stmt.Delete s) t k e fit = all_in s.table t k (same_some s.table t e) fit

none_written : (ts : List ℕ) (t : ℕ) (k : ℤ) → covers (written (map (whole false) ts)) t k ≡ false
none_written [] t k = refl
none_written (u ∷ ts) t k = none_written ts t k

in_one : (i t : ℕ) (k : ℤ) → (is_in t k (whole true i) || false) ≡ true → Some i ≡ Some t
in_one i t k h = elim (or_cases (is_in t k (whole true i)) false h) [
  | inl here ↦ ap Some (eqb-true i t (and_parts (i == t) (int_le least_key k) (and_parts ((i == t) && int_le least_key k) (int_le k greatest_key) here).0).0)
  | inr never ↦ cc
]

pub covers_which : (s : Stmt) (t : ℕ) (k : ℤ) → covers (written (table_parts s)) t k ≡ true → written_table s ≡ Some t
covers_which (stmt.Select s) t k h = cc (none_written s.tables t k)
covers_which (stmt.Insert s) t k h = in_one s.table t k h
covers_which (stmt.Update s) t k h = in_one s.table t k h
covers_which (stmt.Delete s) t k h = in_one s.table t k h

-- ---- databases in order

pub undone_size : (undoes : ℕ → Bool) (slots : List (Option Before)) (tables : List (List (List Value))) → length slots ≡ length tables → length (undone undoes slots tables) ≡ length tables
undone_size undoes [] [] e = refl
undone_size undoes [] (rows ∷ tables) e = absurd (omega (arith, e))
undone_size undoes (slot ∷ slots) [] e = refl
undone_size undoes (slot ∷ slots) (rows ∷ tables) e = ap suc (undone_size undoes slots tables (omega (arith, e)))

slot_ordered : (undoes : ℕ → Bool) (slot : Option Before) (rows : List (List Value)) → is_kept_ordered slot ≡ true → is_ordered rows ≡ true → is_ordered (slot_rows undoes slot rows) ≡ true
slot_ordered undoes None rows h o = o
slot_ordered undoes (Some b) rows h o = by_undo (undoes b.txn)
  where
    by_undo : (c : Bool) → is_ordered (cond c b.rows rows) ≡ true
    by_undo true = h
    by_undo false = o

all_ordered : (undoes : ℕ → Bool) (slots : List (Option Before)) (tables : List (List (List Value))) → list_all is_kept_ordered slots ≡ true → list_all is_ordered tables ≡ true
    → list_all is_ordered (undone undoes slots tables) ≡ true
all_ordered undoes [] tables h o = refl
all_ordered undoes (slot ∷ slots) [] h o = refl
all_ordered undoes (slot ∷ slots) (rows ∷ tables) h o =
    let kept_ones = and_parts (is_kept_ordered slot) (list_all is_kept_ordered slots) h in
    let in_place = and_parts (is_ordered rows) (list_all is_ordered tables) o in
    and_from (is_ordered (slot_rows undoes slot rows)) (list_all is_ordered (undone undoes slots tables)) (slot_ordered undoes slot rows kept_ones.0 in_place.0) (all_ordered undoes slots tables kept_ones.1 in_place.1)

pub without_ordered : (undoes : ℕ → Bool) (slots : List (Option Before)) (db : Database) → length slots ≡ length db.tables → list_all is_kept_ordered slots ≡ true → IsOrdered db
    → IsOrdered (database_without undoes slots db)
without_ordered undoes slots db e h o = record {
  sound = o.sound;
  tables = undone_size undoes slots db.tables e ∙ o.tables;
  ordered = all_ordered undoes slots db.tables h o.ordered;
}

pub all_put : (p : Option Before → Bool) (slots : List (Option Before)) (i : ℕ) (x : Option Before) → list_all p slots ≡ true → p x ≡ true → list_all p (slice_set slots i x) ≡ true
all_put p [] i x h k = refl
all_put p (slot ∷ slots) zero x h k = and_from (p x) (list_all p slots) k (and_parts (p slot) (list_all p slots) h).1
all_put p (slot ∷ slots) (suc i) x h k =
    let both = and_parts (p slot) (list_all p slots) h in
    and_from (p slot) (list_all p (slice_set slots i x)) both.0 (all_put p slots i x both.1 k)
