-- What a statement makes of what is committed and seen.
use Rattle.std.proofs.Common.{◌≡◌, inl, inr, ℕ, ℤ, Bool, true, false, cond, not, ◌==◌, Option, Some, None, List, [], ◌∷◌, length, refl, ap, subst, sym, ◌∙◌}
use Rattle.std.specs.Prelude.{◌≢◌, unwrap_or, slice_get}
use Rattle.std.specs.List.{list_all, find}
use Rattle.std.proofs.lemmas.Bool.{both_ways, false_from_ne_true, eq-eqb, ne_eqb, eqb-true}
use Rattle.hr_rel.specs.declared.value.Value.{Value}
use Rattle.hr_rel.specs.declared.answer.Answer.{Answer}
use Rattle.hr_rel.specs.declared.catalog.Catalog.{Catalog}
use Rattle.hr_rel.specs.declared.stmt.Stmt.{Stmt}
use Rattle.hr_rel.specs.Database.{Database, rows_of}
use Rattle.hr_rel.specs.Kinds.{fits_i64}
use Rattle.hr_rel.specs.Holds.{IsOrdered}
use Rattle.hr_meaning.specs.Insert.{has_key}
use Rattle.hr_meaning.specs.Exec.{exec}
use Rattle.hr_meaning.specs.SameAnswer.{SameAnswer}
use Rattle.hr_engine.proofs.SameAnswers.{same_itself}
use Rattle.hr_statement_laws.proofs.Shape.{keeps_catalog}
use Rattle.hr_statement_laws.proofs.Ordered.{keeps_order}
use Rattle.hr_statement_laws.proofs.Fitting.{size_set}
use Rattle.hr_parts.specs.Parts.{covers, written, row_at, Agree, Within}
use Rattle.hr_parts.specs.Footprints.{table_parts}
use Rattle.hr_parts.proofs.Cover.{written_covered}
use Rattle.hr_parts.proofs.Lists.{covered_within}
use Rattle.hr_parts.proofs.Statements.{in_order}
use Rattle.hr_parts.proofs.Together.{same_database}
use Rattle.hr_parts.proofs.WholeTables.{tables_cover}
use Rattle.hr_lock_engine.specs.Views.{IsView, AreFree, Sees, OthersSee, WroteWithin}
use Rattle.hr_lock_engine.proofs.Stores.{no_row}
use Rattle.hr_table_engine.specs.declared.before.Before.{Before}
use Rattle.hr_table_engine.specs.Undo.{slot_rows, database_without, everyone, others_than, committed_in, seen_in, wrote_in, slot_at, is_of, is_open, is_kept_ordered, written_table, saved_of, kept}
use Rattle.hr_table_engine.specs.Laws.{rows_without}
use Rattle.hr_table_engine.proofs.Slots.{New, slot_now, not_there, no_rows, written_covers, covers_which, without_ordered, all_put}

-- what holds of equal slots and databases
pub at_now : (P : List (Option Before) → Database → Type 0) (new slots : List (Option Before)) (now db : Database) → new ≡ slots → now ≡ db → P slots db → P new now
at_now P new slots now db e f p = subst (λ (x : List (Option Before)). P x now) (sym e) (subst (λ (y : Database). P slots y) (sym f) p)

-- the only answer of one
first_answer : (a b : Answer) → a ∷ [] ≡ b ∷ [] → a ≡ b
first_answer a b e = cc

module _ (slots : List (Option Before)) (db : Database) (sized : length slots ≡ length db.tables) (ordered : IsOrdered db) (are_kept : list_all is_kept_ordered slots ≡ true) (txn : ℕ) (s : Stmt) where
  abbrev after : Database
  after = (exec db s).after

  abbrev now : List (Option Before)
  now = kept txn (saved_of slots db.tables (written_table s)) slots

  -- ---- what stays true of the store

  same_size : length after.tables ≡ length db.tables
  same_size = (keeps_order db s ordered).tables ∙ ap (λ (c : Catalog). length c.tables) (keeps_catalog db s) ∙ sym ordered.tables

  kept_size : (saved : Option (ℕ × List (List Value))) → length (kept txn saved slots) ≡ length slots
  kept_size None = refl
  kept_size (Some saved) = size_set slots saved.0 _

  pub now_sized : length now ≡ length after.tables
  now_sized = kept_size (saved_of slots db.tables (written_table s)) ∙ sized ∙ sym same_size

  pub now_ordered : IsOrdered after
  now_ordered = keeps_order db s ordered

  kept_by : (w : Option ℕ) → list_all is_kept_ordered (kept txn (saved_of slots db.tables w) slots) ≡ true
  kept_by None = are_kept
  kept_by (Some t) = by_open (is_open (slice_get slots t))
    where
      by_open : (b : Bool) → list_all is_kept_ordered (kept txn (cond b (Some (t, unwrap_or (slice_get db.tables t) [])) None) slots) ≡ true
      by_open true = all_put is_kept_ordered slots t (Some (record { txn = txn; rows = rows_of db t })) are_kept (in_order db ordered t)
      by_open false = are_kept

  pub now_kept : list_all is_kept_ordered now ≡ true
  now_kept = kept_by (written_table s)

  -- ---- rows

  footprint : Within (table_parts s) (s ∷ [])
  footprint = covered_within (table_parts s) s (tables_cover s)

  frame : (t : ℕ) (k : ℤ) → covers (written (table_parts s)) t k ≡ false → row_at after t k ≡ row_at db t k
  frame t k out = footprint.frame db ordered t k out

  -- a changed table whose rows aren't kept isn't there
  not_kept : (t : ℕ) (w : Option ℕ) → written_table s ≡ w → w ≡ Some t → slot_at now t ≡ None → rows_of after t ≡ rows_of db t
  not_kept t w e f none =
      let gone : slice_get slots t ≡ None = not_there slots db.tables txn t (ap (λ (o : Option ℕ). slot_at (kept txn (saved_of slots db.tables o) slots) t) (sym (e ∙ f)) ∙ none) in
      no_rows slots after.tables t (sized ∙ sym same_size) gone ∙ sym (no_rows slots db.tables t sized gone)

  module _ (free : AreFree (wrote_in slots) txn (table_parts s)) where
    not_mine : (t : ℕ) (k : ℤ) (b : Before) → fits_i64 k ≡ true → slot_at slots t ≡ Some b → b.txn ≢ txn → covers (table_parts s) t k ≡ false
    not_mine t k b fit e differ =
        false_from_ne_true (covers (table_parts s) t k) (λ c. both_ways (wrote_in slots b.txn t k) (free b.txn t k differ fit c) (ap (is_of b.txn) e ∙ eq-eqb b.txn b.txn refl))

    -- once the changes of the writer are undone, the rows are as before
    module _ (undoes : ℕ → Bool) (undoes_it : undoes txn ≡ true) (t : ℕ) (k : ℤ) (fit : fits_i64 k ≡ true) where
      abbrev found : Option Before → List (List Value) → Option (List Value)
      found o rows = find (has_key k) (slot_rows undoes o rows)

      in_place : (c : Bool) → covers (written (table_parts s)) t k ≡ c → slot_at now t ≡ None → row_at after t k ≡ row_at db t k
      in_place true c none = ap (find (has_key k)) (not_kept t (written_table s) refl (covers_which s t k c) none)
      in_place false c none = frame t k c

      by_undo : (b : Before) (c : Bool) → undoes b.txn ≡ c → slot_at slots t ≡ Some b → find (has_key k) (cond c b.rows (rows_of after t)) ≡ find (has_key k) (cond c b.rows (rows_of db t))
      by_undo b true u e = refl
      by_undo b false u e =
          frame t k (false_from_ne_true (covers (written (table_parts s)) t k)
          (λ w. both_ways (covers (table_parts s) t k) (not_mine t k b fit e (λ same. both_ways (undoes txn) (ap undoes (sym same) ∙ u) undoes_it)) (written_covered t k (table_parts s) w)))

      by_slot : (o : Option Before) → slot_at slots t ≡ o → slot_at now t ≡ o → found o (rows_of after t) ≡ found o (rows_of db t)
      by_slot None e f = in_place (covers (written (table_parts s)) t k) refl f
      by_slot (Some b) e f = by_undo b (undoes b.txn) refl e

      new_slot : New slots db.tables txn (written_table s) t now → found (slot_at now t) (rows_of after t) ≡ found (slot_at slots t) (rows_of db t)
      new_slot new =
          ap (λ (o : Option Before). found o (rows_of after t)) new.after ∙ ap (λ (c : Bool). find (has_key k) (cond c (rows_of db t) (rows_of after t))) undoes_it
          ∙ sym (ap (λ (o : Option Before). found o (rows_of db t)) new.before)

      same_found : found (slot_at now t) (rows_of after t) ≡ found (slot_at slots t) (rows_of db t)
      same_found = elim (slot_now slots db.tables txn (written_table s) t) [
        | inl same ↦
            ap (λ (o : Option Before). found o (rows_of after t)) same ∙ by_slot (slot_at slots t) refl same
        | inr new ↦ new_slot new
      ]

    module _ (undoes : ℕ → Bool) (undoes_it : undoes txn ≡ true) (t : ℕ) (k : ℤ) where
      by_key : (fit : Bool) → fits_i64 k ≡ fit → row_at (database_without undoes now after) t k ≡ row_at (database_without undoes slots db) t k
      by_key true fit =
          ap (find (has_key k)) (rows_without undoes now after t now_sized) ∙ same_found undoes undoes_it t k fit ∙ sym (ap (find (has_key k)) (rows_without undoes slots db t sized))
      by_key false unfit =
          no_row (database_without undoes now after) (without_ordered undoes now after now_sized now_kept now_ordered) t k unfit
          ∙ sym (no_row (database_without undoes slots db) (without_ordered undoes slots db sized are_kept ordered) t k unfit)

      same_row : row_at (database_without undoes now after) t k ≡ row_at (database_without undoes slots db) t k
      same_row = by_key (fits_i64 k) refl

    -- what is committed stays
    pub run_base : committed_in now after ≡ committed_in slots db
    run_base =
        same_database (committed_in now after) (committed_in slots db) (without_ordered everyone now after now_sized now_kept now_ordered) (without_ordered everyone slots db sized are_kept ordered)
        (keeps_catalog db s) (λ t k. same_row everyone refl t k)

    -- the others see what they saw
    pub run_others : OthersSee txn (seen_in slots db) (seen_in now after)
    run_others u t k differ = same_row (others_than u) (ap not (ne_eqb txn u (λ e. differ (sym e)))) t k

    -- ---- what the writer sees

    own_rows : (o : Option Before) (rows : List (List Value)) → ((b : Before) → o ≡ Some b → b.txn ≡ txn) → slot_rows (others_than txn) o rows ≡ rows
    own_rows None rows own = refl
    own_rows (Some b) rows own = ap (λ (c : Bool). cond (not c) b.rows rows) (eq-eqb b.txn txn (own b refl))

    own_slot : (t : ℕ) (k : ℤ) → fits_i64 k ≡ true → covers (table_parts s) t k ≡ true → (b : Before) → slot_at slots t ≡ Some b → b.txn ≡ txn
    own_slot t k fit c b e = by_test (b.txn == txn) refl
      where
        by_test : (d : Bool) → (b.txn == txn) ≡ d → b.txn ≡ txn
        by_test true h = eqb-true b.txn txn h
        by_test false h = absurd (both_ways (covers (table_parts s) t k) (not_mine t k b fit e (λ same. both_ways (b.txn == txn) h (eq-eqb b.txn txn same))) c)

    seen_before : (t : ℕ) (k : ℤ) → fits_i64 k ≡ true → covers (table_parts s) t k ≡ true → seen_in slots db txn t k ≡ row_at db t k
    seen_before t k fit c = ap (find (has_key k)) (rows_without (others_than txn) slots db t sized ∙ own_rows (slot_at slots t) (rows_of db t) (own_slot t k fit c))

    own_now : (t : ℕ) (k : ℤ) → fits_i64 k ≡ true → covers (table_parts s) t k ≡ true → slot_rows (others_than txn) (slot_at now t) (rows_of after t) ≡ rows_of after t
    own_now t k fit c = elim (slot_now slots db.tables txn (written_table s) t) [
      | inl same ↦
          ap (λ (o : Option Before). slot_rows (others_than txn) o (rows_of after t)) same ∙ own_rows (slot_at slots t) (rows_of after t) (own_slot t k fit c)
      | inr new ↦
          ap (λ (o : Option Before). slot_rows (others_than txn) o (rows_of after t)) new.after ∙ ap (λ (d : Bool). cond (not d) (rows_of db t) (rows_of after t)) (eq-eqb txn txn refl)
    ]

    seen_after : (t : ℕ) (k : ℤ) → fits_i64 k ≡ true → covers (table_parts s) t k ≡ true → seen_in now after txn t k ≡ row_at after t k
    seen_after t k fit c = ap (find (has_key k)) (rows_without (others_than txn) now after t now_sized ∙ own_now t k fit c)

    module _ (d : Database) (view : IsView (committed_in slots db) (seen_in slots db txn) d) where
      agree : Agree (table_parts s) d db
      agree = record {
        catalog = view.catalog;
        rows = λ t k c. by_fit t k c (fits_i64 k) refl;
      }
        where
          by_fit : (t : ℕ) (k : ℤ) → covers (table_parts s) t k ≡ true → (fit : Bool) → fits_i64 k ≡ fit → row_at d t k ≡ row_at db t k
          by_fit t k c true fit = sym (view.rows t k) ∙ seen_before t k fit c
          by_fit t k c false unfit = no_row d view.ordered t k unfit ∙ sym (no_row db ordered t k unfit)

      pub run_answer : (a : Answer) → a ≡ (exec db s).answer → SameAnswer (exec d s).answer a
      run_answer a e =
          let same = first_answer (exec d s).answer (exec db s).answer (footprint.answers d db view.ordered ordered agree) in
          subst (λ (x : Answer). SameAnswer x a) (e ∙ sym same) (same_itself a)

      uncovered : (t : ℕ) (k : ℤ) → covers (table_parts s) t k ≡ false → covers (written (table_parts s)) t k ≡ false
      uncovered t k out = false_from_ne_true (covers (written (table_parts s)) t k) (λ w. both_ways (covers (table_parts s) t k) out (written_covered t k (table_parts s) w))

      -- a table that isn't covered: its slot and its row stay
      same_seen : (t : ℕ) (k : ℤ) → fits_i64 k ≡ true → covers (table_parts s) t k ≡ false → seen_in now after txn t k ≡ seen_in slots db txn t k
      same_seen t k fit out = elim (slot_now slots db.tables txn (written_table s) t) [
        | inl same ↦
            ap (find (has_key k)) (rows_without (others_than txn) now after t now_sized) ∙ ap (λ (o : Option Before). find (has_key k) (slot_rows (others_than txn) o (rows_of after t))) same
            ∙ either_row (slot_at slots t) ∙ sym (ap (find (has_key k)) (rows_without (others_than txn) slots db t sized))
        | inr new ↦ absurd (both_ways (covers (written (table_parts s)) t k) (uncovered t k out) (written_covers s t k new.changed fit))
      ]
        where
          either_row : (o : Option Before) → find (has_key k) (slot_rows (others_than txn) o (rows_of after t)) ≡ find (has_key k) (slot_rows (others_than txn) o (rows_of db t))
          either_row None = frame t k (uncovered t k out)
          either_row (Some b) = by_undo_here (others_than txn b.txn)
            where
              by_undo_here : (c : Bool) → find (has_key k) (cond c b.rows (rows_of after t)) ≡ find (has_key k) (cond c b.rows (rows_of db t))
              by_undo_here true = refl
              by_undo_here false = frame t k (uncovered t k out)

      by_cover : (t : ℕ) (k : ℤ) → fits_i64 k ≡ true → (c : Bool) → covers (table_parts s) t k ≡ c → seen_in now after txn t k ≡ row_at (exec d s).after t k
      by_cover t k fit true c = seen_after t k fit c ∙ sym ((footprint.results d db view.ordered ordered agree).rows t k c)
      by_cover t k fit false c = same_seen t k fit c ∙ view.rows t k ∙ sym (footprint.frame d view.ordered t k (uncovered t k c))

      own_row : (t : ℕ) (k : ℤ) (fit : Bool) → fits_i64 k ≡ fit → seen_in now after txn t k ≡ row_at (exec d s).after t k
      own_row t k true fit = by_cover t k fit (covers (table_parts s) t k) refl
      own_row t k false unfit =
          no_row (database_without (others_than txn) now after) (without_ordered (others_than txn) now after now_sized now_kept now_ordered) t k unfit
          ∙ sym (no_row (exec d s).after (keeps_order d s view.ordered) t k unfit)

      pub run_after : Sees (seen_in now after) txn (exec d s).after
      run_after t k = own_row t k (fits_i64 k) refl

    pub run_wrote : WroteWithin txn (table_parts s) (wrote_in slots) (wrote_in now)
    run_wrote u t k fit w = elim (slot_now slots db.tables txn (written_table s) t) [
      | inl same ↦ inl (sym (ap (is_of u) same) ∙ w)
      | inr new ↦ inr (sym (eqb-true txn u (sym (ap (is_of u) new.after) ∙ w)), written_covers s t k new.changed fit)
    ]
