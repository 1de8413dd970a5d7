-- What is in a machine once the rows of an interval have been laid into it.
use Rattle.std.proofs.Common.{◌≡◌, ◌⊎◌, ⊎_elim, inl, inr, ◌<◌, ◌+◌, ℕ, ℤ, Bool, true, false, cond, ◌&&◌, ◌||◌, ◌==◌, Option, Some, None, List, [], ◌∷◌, ◌++◌, length, take, drop, get_or, pos, refl, ap, sym, subst, ◌∙◌, arith}
use Rattle.std.specs.Prelude.{nat_lt, int_le, is_some}
use Rattle.std.specs.Option.{option_to_list}
use Rattle.std.specs.Int.{int_max, int_min}
use Rattle.std.proofs.lemmas.Grind.{flat_map-append}
use Rattle.std.specs.List.{find, list_any}
use Rattle.std.proofs.lemmas.Bool.{and_from, and_parts, both_ways, or_left, eqb-true, eq-eqb}
use Rattle.std.proofs.lemmas.List.{take_more, map-append, take-append-drop}
use Rattle.std.proofs.lemmas.List.Folds.{list_any-append}
use Rattle.std.proofs.lemmas.Int.{ints}
use Rattle.hr_rel.specs.declared.value.Value.{Value}
use Rattle.hr_rel.specs.Database.{Database, with_rows}
use Rattle.hr_rel.specs.Holds.{IsOrdered}
use Rattle.hr_meaning.specs.Insert.{has_key}
use Rattle.hr_statement_laws.proofs.Ascending.{Ascending}
use Rattle.hr_parts.specs.Parts.{is_in, covers, row_at}
use Rattle.hr_locks.specs.declared.need.Need.{Need}
use Rattle.hr_plan.specs.declared.span.Span.{Span}
use Rattle.hr_plan.specs.Needs.{part_of, parts_of}
use Rattle.hr_store.specs.declared.cell.Cell.{Cell}
use Rattle.hr_store.specs.declared.store.Store.{Store}
use Rattle.hr_store.specs.Cells.{pending_row, is_pending_of, seen_in}
use Rattle.hr_store.specs.Scans.{Rising}
use Rattle.hr_store.specs.Store.{cell_at, tables_of, is_key_in}
use Rattle.hr_range_engine.specs.Shown.{stands_at, is_sound_at, IsOf, seen_by, rows_by, is_within, row_within, widened}
use Rattle.hr_range_engine.specs.Laws.{its_table}
use Rattle.hr_range_engine.proofs.Found.{rows_ascend, rows_within, past_all, set_at, set_elsewhere, set_nowhere, with_rows_ordered}

seen_stands : (tables t : ℕ) (k : ℤ) (u : ℕ) (c : Cell) → is_sound_at tables t k c ≡ true → stands_at tables t k (seen_in u c) ≡ true
seen_stands tables t k u c h = by_whom (is_pending_of u c)
  where
    by_whom : (b : Bool) → stands_at tables t k (cond b (pending_row c.pending) c.committed) ≡ true
    by_whom true = (and_parts (stands_at tables t k c.committed) (stands_at tables t k (pending_row c.pending)) h).1
    by_whom false = (and_parts (stands_at tables t k c.committed) (stands_at tables t k (pending_row c.pending)) h).0

none_past : (tables t : ℕ) (k : ℤ) → nat_lt t tables ≡ false → (o : Option (List Value)) → stands_at tables t k o ≡ true → o ≡ None
none_past tables t k e None h = refl
none_past tables t k e (Some row) h = absurd (both_ways (nat_lt t tables) e (its_table tables t k row h))

module _ (m : Database) (ordered : IsOrdered m) (before : Store) (whole : IsOf m.catalog before) (txn t : ℕ) (low high : ℤ) (keys : List ℤ) (rises : Rising keys)
    (found : (k : ℤ) → is_key_in t keys k ≡ (is_within low high k && is_some (seen_by before txn t k))) (rows : List (List Value)) (are : rows ≡ rows_by (seen_by before txn t) keys) where
  sees : (k : ℤ) → stands_at (tables_of before) t k (seen_by before txn t k) ≡ true
  sees k = seen_stands (tables_of before) t k txn (cell_at before t k) (whole.rows t k)

  pub look_ascends : Ascending rows
  look_ascends = subst Ascending (sym are) (rows_ascend (tables_of before) t (seen_by before txn t) sees keys rises)

  pub look_ordered : IsOrdered (with_rows m t rows)
  look_ordered = with_rows_ordered m t rows ordered look_ascends

  size : length m.tables ≡ tables_of before
  size = ordered.tables ∙ sym whole.count

  none_in : (b : Bool) → ◌≡◌ {A = Option (List Value)} (cond b None None) None
  none_in true = refl
  none_in false = refl

  row_by : (k : ℤ) (b : Bool) → nat_lt t (length m.tables) ≡ b → row_at (with_rows m t rows) t k ≡ row_within low high (seen_by before txn t) k
  row_by k true e =
      ap (find (has_key k)) (set_at m.tables t rows e ∙ are) ∙ rows_within (tables_of before) t (seen_by before txn t) sees k low high keys (found k)
  row_by k false e =
      let unseen = none_past (tables_of before) t k (ap (nat_lt t) (sym size) ∙ e) (seen_by before txn t k) (sees k) in
      ap (λ (l : List (List (List Value))). row_at (record { catalog = m.catalog; tables = l }) t k) (set_nowhere m.tables t rows e) ∙ ap (find (has_key k)) (past_all m.tables t e)
      ∙ sym (ap (λ (o : Option (List Value)). cond (is_within low high k) o None) unseen ∙ none_in (is_within low high k))

  pub look_row : (k : ℤ) → row_at (with_rows m t rows) t k ≡ row_within low high (seen_by before txn t) k
  look_row k = row_by k (nat_lt t (length m.tables)) refl

  pub look_elsewhere : (u : ℕ) (k : ℤ) → (t ≡ u → ⊥) → row_at (with_rows m t rows) u k ≡ row_at m u k
  look_elsewhere u k differ = ap (find (has_key k)) (set_elsewhere m.tables t u rows differ)

-- ---- an interval that spans those of all needs of a table

least_left : (a b k : ℤ) → int_le a k ≡ true → int_le (int_min a b) k ≡ true
least_left a b k h = grind (arith, ints)

least_right : (a b k : ℤ) → int_le b k ≡ true → int_le (int_min a b) k ≡ true
least_right a b k h = grind (arith, ints)

greatest_left : (a b k : ℤ) → int_le k a ≡ true → int_le k (int_max a b) ≡ true
greatest_left a b k h = grind (arith, ints)

greatest_right : (a b k : ℤ) → int_le k b ≡ true → int_le k (int_max a b) ≡ true
greatest_right a b k h = grind (arith, ints)

one_more : (needs : List (Need Span)) (i : ℕ) (d : Need Span) → i < length needs → parts_of (take (i + 1) needs) ≡ parts_of (take i needs) ++ part_of (get_or needs i d) ∷ []
one_more needs i d within = ap parts_of (take_more needs i d within) ∙ map-append part_of (take i needs) (get_or needs i d ∷ [])

either : (a b : Bool) → (a || (b || false)) ≡ true → (a ≡ true) ⊎ (b ≡ true)
either true b h = inl refl
either false true h = inr refl
either false false h = cc

-- a key that one more need covers is covered by those before, or by it
pub covered_more : (needs : List (Need Span)) (i : ℕ) (d : Need Span) → i < length needs → (t : ℕ) (k : ℤ) → covers (parts_of (take (i + 1) needs)) t k ≡ true
    → (covers (parts_of (take i needs)) t k ≡ true) ⊎ (is_in t k (part_of (get_or needs i d)) ≡ true)
covered_more needs i d within t k h =
    either (covers (parts_of (take i needs)) t k) (is_in t k (part_of (get_or needs i d)))
    (sym (list_any-append (is_in t k) (parts_of (take i needs)) (part_of (get_or needs i d) ∷ [])) ∙ sym (ap (list_any (is_in t k)) (one_more needs i d within)) ∙ h)

-- the needs so far cover no more than all
pub covered_all : (needs : List (Need Span)) (i t : ℕ) (k : ℤ) → covers (parts_of (take i needs)) t k ≡ true → covers (parts_of needs) t k ≡ true
covered_all needs i t k h =
    ap (λ (l : List (Need Span)). covers (parts_of l) t k) (sym (take-append-drop i needs)) ∙ ap (list_any (is_in t k)) (map-append part_of (take i needs) (drop i needs))
    ∙ list_any-append (is_in t k) (parts_of (take i needs)) (parts_of (drop i needs)) ∙ or_left (covers (parts_of (take i needs)) t k) (covers (parts_of (drop i needs)) t k) h

module _ (need : Need Span) (t : ℕ) (k : ℤ) (h : is_in t k (part_of need) ≡ true) where
  pub of_table : need.name.table ≡ t
  of_table = eqb-true need.name.table t (and_parts (need.name.table == t) (int_le need.name.low k) (and_parts ((need.name.table == t) && int_le need.name.low k) (int_le k need.name.high) h).0).0

  pub in_span : is_within need.name.low need.name.high k ≡ true
  in_span =
      let both = and_parts ((need.name.table == t) && int_le need.name.low k) (int_le k need.name.high) h in
      and_from (int_le need.name.low k) (int_le k need.name.high) (and_parts (need.name.table == t) (int_le need.name.low k) both.0).1 both.1

pub wider_old : (low high a b k : ℤ) → is_within low high k ≡ true → is_within (int_min low a) (int_max high b) k ≡ true
wider_old low high a b k h =
    let both = and_parts (int_le low k) (int_le k high) h in
    and_from (int_le (int_min low a) k) (int_le k (int_max high b)) (least_left low a k both.0) (greatest_left high b k both.1)

pub wider_new : (low high a b k : ℤ) → is_within a b k ≡ true → is_within (int_min low a) (int_max high b) k ≡ true
wider_new low high a b k h =
    let both = and_parts (int_le a k) (int_le k b) h in
    and_from (int_le (int_min low a) k) (int_le k (int_max high b)) (least_right low a k both.0) (greatest_right high b k both.1)

widened_table : (span other : Span) → (widened span other).table ≡ span.table
widened_table span other = by_table (span.table == other.table)
  where
    by_table : (b : Bool) → (cond b (record { table = span.table; low = int_min span.low other.low; high = int_max span.high other.high }) span).table ≡ span.table
    by_table true = refl
    by_table false = refl

-- an interval that is widened has what it had, and what is in the other one of its table
widened_old : (span other : Span) (k : ℤ) → is_within span.low span.high k ≡ true → is_within (widened span other).low (widened span other).high k ≡ true
widened_old span other k h = by_table (span.table == other.table)
  where
    by_table : (b : Bool) → is_within (cond b (record { table = span.table; low = int_min span.low other.low; high = int_max span.high other.high }) span).low
        (cond b (record { table = span.table; low = int_min span.low other.low; high = int_max span.high other.high }) span).high k ≡ true
    by_table true = wider_old span.low span.high other.low other.high k h
    by_table false = h

widened_new : (span other : Span) (k : ℤ) → span.table ≡ other.table → is_within other.low other.high k ≡ true → is_within (widened span other).low (widened span other).high k ≡ true
widened_new span other k same h = by_table (span.table == other.table) (eq-eqb span.table other.table same)
  where
    by_table : (b : Bool) → b ≡ true → is_within (cond b (record { table = span.table; low = int_min span.low other.low; high = int_max span.high other.high }) span).low
        (cond b (record { table = span.table; low = int_min span.low other.low; high = int_max span.high other.high }) span).high k ≡ true
    by_table true e = wider_new span.low span.high other.low other.high k h
    by_table false e = cc

module _ (needs : List (Need Span)) (i : ℕ) (d : Need Span) (within : i < length needs) where
  abbrev need : Need Span
  need = get_or needs i d

  pub wide_table : (t : ℕ) (span new : Span) → new ≡ widened span need.name → span.table ≡ t → new.table ≡ t
  wide_table t span new is its = ap (λ (s : Span). s.table) is ∙ widened_table span need.name ∙ its

  pub wide_more : (t : ℕ) (span new : Span) → new ≡ widened span need.name → span.table ≡ t
      → ((k : ℤ) → covers (parts_of (take i needs)) t k ≡ true → is_within span.low span.high k ≡ true)
      → (k : ℤ) → covers (parts_of (take (i + 1) needs)) t k ≡ true → is_within new.low new.high k ≡ true
  wide_more t span new is its before k h =
      subst (λ (s : Span). is_within s.low s.high k ≡ true) (sym is) (⊎_elim (λ old. widened_old span need.name k (before k old))
      (λ one. widened_new span need.name k (its ∙ sym (of_table need t k one)) (in_span need t k one)) (covered_more needs i d within t k h))

  -- one need more is looked at
  pub look_more : (f g : ℕ → ℤ → Option (List Value)) → ((t : ℕ) (k : ℤ) → g t k ≡ f t k) → (m new : Database) (span : Span) → span.table ≡ need.name.table
      → ((k : ℤ) → covers (parts_of needs) need.name.table k ≡ true → is_within span.low span.high k ≡ true)
      → ((k : ℤ) → row_at new span.table k ≡ row_within span.low span.high (g span.table) k)
      → ((t : ℕ) (k : ℤ) → (span.table ≡ t → ⊥) → row_at new t k ≡ row_at m t k)
      → ((t : ℕ) (k : ℤ) → covers (parts_of (take i needs)) t k ≡ true → row_at m t k ≡ f t k)
      → (t : ℕ) (k : ℤ) → covers (parts_of (take (i + 1) needs)) t k ≡ true → row_at new t k ≡ f t k
  look_more f g same m new span its wide rows others looked t k h = by_table (span.table == t) refl
    where
      by_table : (b : Bool) → (span.table == t) ≡ b → row_at new t k ≡ f t k
      by_table true e =
          let at : span.table ≡ t = eqb-true span.table t e in
          let all : covers (parts_of needs) need.name.table k ≡ true = ap (λ (x : ℕ). covers (parts_of needs) x k) (sym its ∙ at) ∙ covered_all needs (i + 1) t k h in
          subst (λ (x : ℕ). row_at new x k ≡ f x k) at (rows k ∙ ap (λ (b : Bool). cond b (g span.table k) None) (wide k all) ∙ same span.table k)
      by_table false e =
          let differ : span.table ≡ t → ⊥ = λ at. both_ways (span.table == t) e (eq-eqb span.table t at) in
          others t k differ ∙ ⊎_elim (λ old. looked t k old) (λ one. absurd (differ (its ∙ of_table need t k one))) (covered_more needs i d within t k h)

-- ---- rows at keys

pub nothing_behind : {X : Type 0} (xs : List X) → xs ++ [] ≡ xs
nothing_behind [] = refl
nothing_behind (x ∷ xs) = ap (λ (l : List _). x ∷ l) (nothing_behind xs)

pub rows_more : (f : ℤ → Option (List Value)) (keys : List ℤ) (i : ℕ) → i < length keys → rows_by f (take (i + 1) keys) ≡ rows_by f (take i keys) ++ option_to_list (f (get_or keys i (pos 0)))
rows_more f keys i within =
    ap (rows_by f) (take_more keys i (pos 0) within) ∙ flat_map-append (λ (k : ℤ). option_to_list (f k)) (take i keys) (get_or keys i (pos 0) ∷ [])
    ∙ ap (λ (l : List (List Value)). rows_by f (take i keys) ++ l) (nothing_behind (option_to_list (f (get_or keys i (pos 0)))))
