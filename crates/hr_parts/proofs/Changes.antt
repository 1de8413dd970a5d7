-- What UPDATE, DELETE and INSERT make of some of the rows of a table, by their keys.
use Rattle.std.proofs.Common.{◌≡◌, ℕ, zero, suc, ◌+◌, ℤ, Bool, true, false, ◌&&◌, ◌||◌, cond, not, nat_lt, nat_le, length, List, [], ◌∷◌, filter, refl, ap, sym, subst, ◌∙◌, arith, lt-ltb, ltb-true}
use Rattle.std.specs.Prelude.{Option, Some, None, Result, Ok, Err, int_lt, insert, unwrap_or, slice_get, slice_set}
use Rattle.std.specs.Option.{option_map, option_or, option_and_then}
use Rattle.std.specs.List.{list_all, list_any, find}
use Rattle.std.proofs.lemmas.Bool.{and_from, and_parts, both_ways, false_from_ne_true}
use Rattle.hr_base.specs.declared.limits.TheConstants.{MAX_COLUMNS}
use Rattle.hr_rel.specs.declared.value.Value.{Value}
use Rattle.hr_rel.specs.declared.value.Value.TheVariants as value
use Rattle.hr_rel.specs.declared.answer.RunError.{RunError}
use Rattle.hr_rel.specs.declared.answer.Answer.TheVariants.{Count}
use Rattle.hr_rel.specs.declared.answer.RunError.TheVariants.{DuplicateKey, Unfit}
use Rattle.hr_rel.specs.declared.catalog.TableDef.{TableDef}
use Rattle.hr_rel.specs.declared.catalog.ColumnDef.{ColumnDef}
use Rattle.hr_rel.specs.declared.stmt.Set.{Set}
use Rattle.hr_rel.specs.declared.stmt.Stmt.{Stmt}
use Rattle.hr_rel.specs.declared.stmt.Stmt.TheVariants as stmt
use Rattle.hr_rel.specs.declared.stmt.UpdateStmt.{UpdateStmt}
use Rattle.hr_rel.specs.Database.{Database, key_of}
use Rattle.hr_rel.specs.Holds.{has_number_key, has_key_column, row_fits, is_ordered, IsOrdered}
use Rattle.hr_rel.specs.Fit.{Entries, column_kind, both_agree, expr_kind, set_fits}
use Rattle.hr_meaning.specs.Truth.{is_kept}
use Rattle.hr_meaning.specs.Value.{and_then, each}
use Rattle.hr_meaning.specs.Insert.{is_number, is_greater, has_key, comes_after, null_refused, duplicate_key, insert_error, put_row, unless, with_row, inserted, place_for}
use Rattle.hr_meaning.specs.Exec.{Outcome, exec, changed, failed, set_value, assigned, updated}
use Rattle.hr_statement_laws.proofs.Ascending.{Ascending, from_test, to_test, all_filtered, put, put_is}
use Rattle.hr_statement_laws.proofs.Ordered.{unless_ok, keeps_order}
use Rattle.hr_parts.specs.Parts.{takes, lies}
use Rattle.hr_parts.proofs.Rows.{all_imply, key_is, found_first, found_later, above_more}

-- ---- an UPDATE keeps keys

key_set : (row : List Value) (c : ℕ) (v : Value) → nat_lt 0 c ≡ true → key_of (slice_set row c v) ≡ key_of row
key_set row zero v e = let none = ltb-true 0 0 e in absurd (omega (arith, none))
key_set [] (suc c) v e = refl
key_set (value.Null ∷ row) (suc c) v e = refl
key_set (value.Int n ∷ row) (suc c) v e = refl
key_set (value.Text t ∷ row) (suc c) v e = refl

abbrev past_key : Set → Bool
past_key a = nat_lt 0 a.column

-- an assignment that fits isn't to the key
pub past_keys : (entries : Entries) (sets : List Set) → list_all (set_fits entries) sets ≡ true → list_all past_key sets ≡ true
past_keys entries sets h = all_imply (set_fits entries) past_key sets (λ a e. (and_parts (past_key a) (both_agree (column_kind entries record { entry = 0; column = a.column }) (expr_kind entries a.value)) e).0) h

same_ok : {X : Type 0} (x y : X) → ◌≡◌ {A = Result X RunError} (Ok x) (Ok y) → x ≡ y
same_ok x y e = cc

module _ (columns : List ColumnDef) (old : List Value) where
  assigned_by : (sets : List Set) (row : List Value) (c : ℕ) (r : Result Value RunError) (new : List Value) → nat_lt 0 c ≡ true
      → ((next : List Value) → assigned columns old sets next ≡ Ok new → key_of new ≡ key_of next) → and_then r (λ v. assigned columns old sets (slice_set row c v)) ≡ Ok new → key_of new ≡ key_of row
  assigned_by sets row c (Err d) new past others e = cc
  assigned_by sets row c (Ok v) new past others e = others (slice_set row c v) e ∙ key_set row c v past

  assigned_keys : (sets : List Set) (row new : List Value) → list_all past_key sets ≡ true → assigned columns old sets row ≡ Ok new → key_of new ≡ key_of row
  assigned_keys [] row new past e = ap key_of (sym (same_ok row new e))
  assigned_keys (a ∷ sets) row new past e =
      let parts = and_parts (past_key a) (list_all past_key sets) past in
      assigned_by sets row a.column (set_value columns old a) new parts.0 (λ next on. assigned_keys sets next new parts.1 on) e

pub updated_keys : (columns : List ColumnDef) (s : UpdateStmt) → list_all past_key s.sets ≡ true → (row new : List Value) → updated columns s row ≡ Ok new → key_of new ≡ key_of row
updated_keys columns s past row new e = by_test (is_kept s.filter (row ∷ [])) e
  where
    by_test : (b : Bool) → cond b (assigned columns row s.sets row) (Ok row) ≡ Ok new → key_of new ≡ key_of row
    by_test true f = assigned_keys columns row s.sets row new past f
    by_test false f = ap key_of (sym (same_ok row new f))

-- ---- the rows of some keys

module _ (c : ℤ → Bool) where
  -- those of a result
  abbrev pub part_of : Result (List (List Value)) RunError → Result (List (List Value)) RunError
  part_of (Ok rows) = Ok (filter (lies c) rows)
  part_of (Err e) = Err e

  abbrev with_first : List Value → Result (List (List Value)) RunError → Result (List (List Value)) RunError
  with_first y r = and_then r (λ ys. Ok (y ∷ ys))

  one_more : (y : List Value) (r : Result (List (List Value)) RunError) → lies c y ≡ true → part_of (with_first y r) ≡ with_first y (part_of r)
  one_more y (Err d) lie = refl
  one_more y (Ok ys) lie = ap (λ b. Ok (cond b (y ∷ filter (lies c) ys) (filter (lies c) ys))) lie

  no_more : (y : List Value) (r : Result (List (List Value)) RunError) → lies c y ≡ false → part_of (with_first y r) ≡ part_of r
  no_more y (Err d) lie = refl
  no_more y (Ok ys) lie = ap (λ b. Ok (cond b (y ∷ filter (lies c) ys) (filter (lies c) ys))) lie

  -- a row of another key isn't one of these
  other_key : (k : ℤ) (row : List Value) → c k ≡ false → lies c row ≡ true → has_key k row ≡ false
  other_key k row e lie = false_from_ne_true (has_key k row) (λ h. both_ways (c k) e (sym (ap (takes c) (key_is row k h)) ∙ lie))

  not_these : (k : ℤ) (row : List Value) → c k ≡ false → has_key k row ≡ true → lies c row ≡ false
  not_these k row e h = ap (takes c) (key_is row k h) ∙ e

-- ---- each row by itself

module _ (c : ℤ → Bool) (f : List Value → Result (List Value) RunError) (keeps : (row new : List Value) → f row ≡ Ok new → key_of new ≡ key_of row)
    (still : (row : List Value) → has_number_key row ≡ true → lies c row ≡ false → f row ≡ Ok row) where
  each_in : (row : List Value) (rows : List (List Value)) (r : Result (List Value) RunError) → f row ≡ r → lies c row ≡ true → part_of c (each f rows) ≡ each f (filter (lies c) rows)
      → part_of c (and_then r (λ y. with_first c y (each f rows))) ≡ and_then r (λ y. with_first c y (each f (filter (lies c) rows)))
  each_in row rows (Err d) was lie rest = refl
  each_in row rows (Ok y) was lie rest = one_more c y (each f rows) (ap (takes c) (keeps row y was) ∙ lie) ∙ ap (with_first c y) rest

  part_by : (row : List Value) (rows : List (List Value)) (b : Bool) → lies c row ≡ b → has_number_key row ≡ true → part_of c (each f rows) ≡ each f (filter (lies c) rows)
      → part_of c (each f (row ∷ rows)) ≡ each f (cond b (row ∷ filter (lies c) rows) (filter (lies c) rows))
  part_by row rows true lie key rest = each_in row rows (f row) refl lie rest
  part_by row rows false lie key rest =
      ap (λ (r : Result (List Value) RunError). part_of c (and_then r (λ y. with_first c y (each f rows)))) (still row key lie) ∙ no_more c row (each f rows) lie ∙ rest

  -- the rows of these keys depend on those alone, and so does the first error
  pub part_each : (rows : List (List Value)) → list_all has_number_key rows ≡ true → part_of c (each f rows) ≡ each f (filter (lies c) rows)
  part_each [] keys = refl
  part_each (row ∷ rows) keys =
      let both = and_parts (has_number_key row) (list_all has_number_key rows) keys in
      part_by row rows (lies c row) refl both.0 (part_each rows both.1)

  module _ (k : ℤ) (out : c k ≡ false) where
    found_one : (row y : List Value) (rows ys : List (List Value)) (b : Bool) → has_key k row ≡ b → has_number_key row ≡ true → f row ≡ Ok y → find (has_key k) ys ≡ find (has_key k) rows
        → find (has_key k) (y ∷ ys) ≡ find (has_key k) (row ∷ rows)
    found_one row y rows ys true e key was rest =
        let same : row ≡ y = same_ok row y (sym (still row key (not_these c k row out e)) ∙ was) in
        ap (λ (z : List Value). find (has_key k) (z ∷ ys)) (sym same) ∙ found_first k row ys e ∙ sym (found_first k row rows e)
    found_one row y rows ys false e key was rest =
        found_later k y ys (ap (is_number k) (keeps row y was) ∙ e) ∙ rest ∙ sym (found_later k row rows e)

    found_by : (row : List Value) (rows : List (List Value)) (r : Result (List Value) RunError) (rest : Result (List (List Value)) RunError) (new : List (List Value)) → f row ≡ r
        → has_number_key row ≡ true → ((more : List (List Value)) → rest ≡ Ok more → find (has_key k) more ≡ find (has_key k) rows)
        → and_then r (λ y. with_first c y rest) ≡ Ok new → find (has_key k) new ≡ find (has_key k) (row ∷ rows)
    found_by row rows (Err d) rest new was key others e = cc
    found_by row rows (Ok y) (Err d) new was key others e = cc
    found_by row rows (Ok y) (Ok ys) new was key others e =
        ap (find (has_key k)) (sym (same_ok (y ∷ ys) new e)) ∙ found_one row y rows ys (has_key k row) refl key was (others ys refl)

    -- a row of another key stays
    pub found_each : (rows new : List (List Value)) → list_all has_number_key rows ≡ true → each f rows ≡ Ok new → find (has_key k) new ≡ find (has_key k) rows
    found_each [] new keys e = ap (find (has_key k)) (sym (same_ok [] new e))
    found_each (row ∷ rows) new keys e =
        let both = and_parts (has_number_key row) (list_all has_number_key rows) keys in
        found_by row rows (f row) (each f rows) new refl both.0 (λ more was. found_each rows more both.1 was) e

-- ---- filters

module _ {X : Type 0} where
  swap_by : (p q : X → Bool) (x : X) (ps qs : List X) (a b : Bool) → p x ≡ a → q x ≡ b → filter p qs ≡ filter q ps → filter p (cond b (x ∷ qs) qs) ≡ filter q (cond a (x ∷ ps) ps)
  swap_by p q x ps qs true true e f rest =
      ap (λ b. cond b (x ∷ filter p qs) (filter p qs)) e ∙ ap (λ l. x ∷ l) rest ∙ sym (ap (λ b. cond b (x ∷ filter q ps) (filter q ps)) f)
  swap_by p q x ps qs true false e f rest = rest ∙ sym (ap (λ b. cond b (x ∷ filter q ps) (filter q ps)) f)
  swap_by p q x ps qs false true e f rest = ap (λ b. cond b (x ∷ filter p qs) (filter p qs)) e ∙ rest
  swap_by p q x ps qs false false e f rest = rest

  pub filters_swap : (p q : X → Bool) (xs : List X) → filter p (filter q xs) ≡ filter q (filter p xs)
  filters_swap p q [] = refl
  filters_swap p q (x ∷ xs) = swap_by p q x (filter p xs) (filter q xs) (p x) (q x) refl refl (filters_swap p q xs)

  module _ (kind wide narrow : X → Bool) (within : (x : X) → kind x ≡ true → narrow x ≡ true → wide x ≡ true) where
    narrow_by : (x : X) (xs : List X) (b : Bool) → wide x ≡ b → kind x ≡ true → filter narrow (filter wide xs) ≡ filter narrow xs
        → filter narrow (cond b (x ∷ filter wide xs) (filter wide xs)) ≡ filter narrow (x ∷ xs)
    narrow_by x xs true e h rest = ap (λ l. cond (narrow x) (x ∷ l) l) rest
    narrow_by x xs false e h rest =
        rest ∙ sym (ap (λ b. cond b (x ∷ filter narrow xs) (filter narrow xs)) (false_from_ne_true (narrow x) (λ n. both_ways (wide x) e (within x h n))))

    -- of what a wider test keeps, a narrower one keeps the same
    pub narrower : (xs : List X) → list_all kind xs ≡ true → filter narrow (filter wide xs) ≡ filter narrow xs
    narrower [] h = refl
    narrower (x ∷ xs) h =
        let both = and_parts (kind x) (list_all kind xs) h in
        narrow_by x xs (wide x) refl both.0 (narrower xs both.1)

module _ (c : ℤ → Bool) (stays : List Value → Bool) (still : (row : List Value) → has_number_key row ≡ true → lies c row ≡ false → stays row ≡ true) (k : ℤ) (out : c k ≡ false) where
  left_by : (row : List Value) (rows : List (List Value)) (b : Bool) → stays row ≡ b → has_number_key row ≡ true → find (has_key k) (filter stays rows) ≡ find (has_key k) rows
      → find (has_key k) (cond b (row ∷ filter stays rows) (filter stays rows)) ≡ find (has_key k) (row ∷ rows)
  left_by row rows true e key rest = ap (cond (has_key k row) (Some row)) rest
  left_by row rows false e key rest =
      rest ∙ sym (found_later k row rows (false_from_ne_true (has_key k row) (λ h. both_ways (stays row) e (still row key (not_these c k row out h)))))

  -- a row of another key isn't deleted
  pub found_left : (rows : List (List Value)) → list_all has_number_key rows ≡ true → find (has_key k) (filter stays rows) ≡ find (has_key k) rows
  found_left [] keys = refl
  found_left (row ∷ rows) keys =
      let both = and_parts (has_number_key row) (list_all has_number_key rows) keys in
      left_by row rows (stays row) refl both.0 (found_left rows both.1)

-- ---- INSERT

module _ (p : List Value → Bool) (row : List Value) where
  at_the_front : (rows : List (List Value)) → list_all p rows ≡ true → put p row rows ≡ row ∷ rows
  at_the_front [] h = refl
  at_the_front (r ∷ rows) h = ap (λ b. cond b (row ∷ r ∷ rows) (r ∷ put p row rows)) (and_parts (p r) (list_all p rows) h).0

  put_found_by : (k : ℤ) (r : List Value) (rows : List (List Value)) (b : Bool) → has_key k row ≡ false → find (has_key k) (put p row rows) ≡ find (has_key k) rows
      → find (has_key k) (cond b (row ∷ r ∷ rows) (r ∷ put p row rows)) ≡ find (has_key k) (r ∷ rows)
  put_found_by k r rows true e rest = found_later k row (r ∷ rows) e
  put_found_by k r rows false e rest = ap (cond (has_key k r) (Some r)) rest

  put_found : (k : ℤ) → has_key k row ≡ false → (rows : List (List Value)) → find (has_key k) (put p row rows) ≡ find (has_key k) rows
  put_found k e [] = found_later k row [] e
  put_found k e (r ∷ rows) = put_found_by k r rows (p r) e (put_found k e rows)

at_the_end : (row : List Value) (rows : List (List Value)) → insert rows (length rows) row ≡ put (λ r. false) row rows
at_the_end row [] = refl
at_the_end row (r ∷ rows) = ap (λ (l : List (List Value)). r ∷ l) (at_the_end row rows)

-- where a row of this key is put
abbrev place_test : Option ℤ → List Value → Bool
place_test None r = false
place_test (Some n) r = comes_after n r

put_row_by : (table : List (List Value)) (row : List Value) (o : Option ℤ) → insert table (unwrap_or (option_map (place_for table) o) (length table)) row ≡ put (place_test o) row table
put_row_by table row None = at_the_end row table
put_row_by table row (Some n) = put_is (comes_after n) row table

put_row_is : (table : List (List Value)) (row : List Value) → put_row table row ≡ put (place_test (key_of row)) row table
put_row_is table row = put_row_by table row (key_of row)

module _ (c : ℤ → Bool) (row : List Value) (lie : lies c row ≡ true) where
  end_by : (r : List Value) (rows : List (List Value)) (b : Bool) → filter (lies c) (put (λ r. false) row rows) ≡ put (λ r. false) row (filter (lies c) rows)
      → cond b (r ∷ filter (lies c) (put (λ r. false) row rows)) (filter (lies c) (put (λ r. false) row rows)) ≡ put (λ r. false) row (cond b (r ∷ filter (lies c) rows) (filter (lies c) rows))
  end_by r rows true rest = ap (λ l. r ∷ l) rest
  end_by r rows false rest = rest

  part_end : (rows : List (List Value)) → filter (lies c) (put (λ r. false) row rows) ≡ put (λ r. false) row (filter (lies c) rows)
  part_end [] = ap (λ b. cond b (row ∷ []) []) lie
  part_end (r ∷ rows) = end_by r rows (lies c r) (part_end rows)

  module _ (n : ℤ) where
    later_by : (r : List Value) (rows : List (List Value)) (b : Bool) → comes_after n r ≡ false → filter (lies c) (put (comes_after n) row rows) ≡ put (comes_after n) row (filter (lies c) rows)
        → cond b (r ∷ filter (lies c) (put (comes_after n) row rows)) (filter (lies c) (put (comes_after n) row rows)) ≡ put (comes_after n) row (cond b (r ∷ filter (lies c) rows) (filter (lies c) rows))
    later_by r rows true e rest = ap (λ l. r ∷ l) rest ∙ sym (ap (λ b. cond b (row ∷ r ∷ filter (lies c) rows) (r ∷ put (comes_after n) row (filter (lies c) rows))) e)
    later_by r rows false e rest = rest

    place_by : (r : List Value) (rows : List (List Value)) (b : Bool) → comes_after n r ≡ b → Ascending (r ∷ rows) → filter (lies c) (put (comes_after n) row rows) ≡ put (comes_after n) row (filter (lies c) rows)
        → filter (lies c) (cond b (row ∷ r ∷ rows) (r ∷ put (comes_after n) row rows)) ≡ put (comes_after n) row (filter (lies c) (r ∷ rows))
    place_by r rows true e h rest =
        let less : int_lt n h.0 ≡ true = sym (ap (is_greater n) h.1) ∙ e in
        let above = and_from (comes_after n r) (list_all (comes_after n) rows) e (all_imply (comes_after h.0) (comes_after n) rows (λ s. above_more n h.0 (key_of s) less) h.3) in
        ap (λ b. cond b (row ∷ filter (lies c) (r ∷ rows)) (filter (lies c) (r ∷ rows))) lie
        ∙ sym (at_the_front (comes_after n) row (filter (lies c) (r ∷ rows)) (all_filtered (comes_after n) (lies c) (r ∷ rows) above))
    place_by r rows false e h rest = later_by r rows (lies c r) e rest

    part_placed : (rows : List (List Value)) → Ascending rows → filter (lies c) (put (comes_after n) row rows) ≡ put (comes_after n) row (filter (lies c) rows)
    part_placed [] h = ap (λ b. cond b (row ∷ []) []) lie
    part_placed (r ∷ rows) h = place_by r rows (comes_after n r) refl h (part_placed rows h.4)

  part_put_by : (table : List (List Value)) → Ascending table → (o : Option ℤ) → filter (lies c) (put (place_test o) row table) ≡ put (place_test o) row (filter (lies c) table)
  part_put_by table h None = part_end table
  part_put_by table h (Some n) = part_placed n table h

  part_put : (table : List (List Value)) → Ascending table → filter (lies c) (put_row table row) ≡ put_row (filter (lies c) table) row
  part_put table h = ap (filter (lies c)) (put_row_is table row) ∙ part_put_by table h (key_of row) ∙ sym (put_row_is (filter (lies c) table) row)

  -- ---- the same keys are there already

  there_by : (k : ℤ) (r : List Value) (rows : List (List Value)) (b : Bool) → lies c r ≡ b → c k ≡ true → list_any (has_key k) (filter (lies c) rows) ≡ list_any (has_key k) rows
      → list_any (has_key k) (cond b (r ∷ filter (lies c) rows) (filter (lies c) rows)) ≡ list_any (has_key k) (r ∷ rows)
  there_by k r rows true e in_c rest = ap (λ b. has_key k r || b) rest
  there_by k r rows false e in_c rest = rest ∙ sym (ap (λ b. b || list_any (has_key k) rows) other)
    where
      other : has_key k r ≡ false
      other = false_from_ne_true (has_key k r) (λ h. both_ways (c k) (sym (ap (takes c) (key_is r k h)) ∙ e) in_c)

  there : (k : ℤ) → c k ≡ true → (rows : List (List Value)) → list_any (has_key k) (filter (lies c) rows) ≡ list_any (has_key k) rows
  there k e [] = refl
  there k e (r ∷ rows) = there_by k r rows (lies c r) refl e (there k e rows)

  abbrev twice : List (List Value) → ℤ → Option RunError
  twice table n = cond (list_any (has_key n) table) (Some (DuplicateKey n)) None

  duplicate_by : (table : List (List Value)) (o : Option ℤ) → takes c o ≡ true → option_and_then (twice (filter (lies c) table)) o ≡ option_and_then (twice table) o
  duplicate_by table None e = refl
  duplicate_by table (Some n) e = ap (λ b. cond b (Some (DuplicateKey n)) None) (there n e table)

  part_unless : (o : Option RunError) (rows : List (List Value)) → part_of c (unless o rows) ≡ unless o (filter (lies c) rows)
  part_unless None rows = refl
  part_unless (Some e) rows = refl

  part_with_row : (columns : List ColumnDef) (table : List (List Value)) → Ascending table → part_of c (with_row columns table row) ≡ with_row columns (filter (lies c) table) row
  part_with_row columns table h =
      let errors : insert_error columns table row ≡ insert_error columns (filter (lies c) table) row = ap (option_or (null_refused columns row)) (sym (duplicate_by table (key_of row) lie)) in
      let rows = part_put table h in
      part_unless (insert_error columns table row) (put_row table row) ∙ (λ i. unless (errors i) (rows i))

-- ---- a table stays in order, by the law of single statements on the database that has it alone

module _ (columns : List ColumnDef) (key : has_key_column columns ≡ true) (few : nat_le (length columns) MAX_COLUMNS ≡ true) where
  abbrev alone : List (List Value) → Database
  alone table = record { catalog = record { tables = record { name = []; columns = columns } ∷ [] }; tables = table ∷ [] }

  alone_ordered : (table : List (List Value)) → Ascending table → IsOrdered (alone table)
  alone_ordered table h = record {
    sound = record { keys = and_from (has_key_column columns) true key refl; columns = and_from (nat_le (length columns) MAX_COLUMNS) true few refl };
    tables = refl;
    ordered = and_from (is_ordered table) true (to_test table h) refl;
  }

  abbrev into : List Value → Stmt
  into row = stmt.Insert record { table = 0; rows = row ∷ [] }

  grows : (table : List (List Value)) (row : List Value) (next : List (List Value)) → row_fits columns row ≡ true → Ascending table → with_row columns table row ≡ Ok next → Ascending next
  grows table row next fit h e =
      let run : exec (alone table) (into row) ≡ record { after = alone next; answer = Count 1 } = (λ i. cond (and_from (row_fits columns row) true fit refl i) (changed (alone table) 0 1 (and_then (with_row columns table row) (λ next. Ok next))) (failed (alone table) Unfit))
      ∙ ap (λ (r : Result (List (List Value)) RunError). changed (alone table) 0 1 (and_then r (λ next. Ok next))) e in
      let order = keeps_order (alone table) (into row) (alone_ordered table h) in
      from_test next (and_parts (is_ordered next) true (subst (λ (o : Outcome). IsOrdered o.after) run order).ordered).0

  module _ (c : ℤ → Bool) where
    inserted_by : (table : List (List Value)) (row : List Value) (rows : List (List Value)) (r : Result (List (List Value)) RunError) → with_row columns table row ≡ r
        → ((next : List (List Value)) → r ≡ Ok next → part_of c (inserted columns next rows) ≡ inserted columns (filter (lies c) next) rows)
        → part_of c (and_then r (λ next. inserted columns next rows)) ≡ and_then (part_of c r) (λ next. inserted columns next rows)
    inserted_by table row rows (Err d) was rest = refl
    inserted_by table row rows (Ok next) was rest = rest next refl

    -- the rows of these keys depend on those alone, where all new ones are of them, and so does the first error
    pub part_inserted : (table rows : List (List Value)) → Ascending table → list_all (row_fits columns) rows ≡ true → list_all (lies c) rows ≡ true
        → part_of c (inserted columns table rows) ≡ inserted columns (filter (lies c) table) rows
    part_inserted table [] h fit lie = refl
    part_inserted table (row ∷ rows) h fit lie =
        let fits = and_parts (row_fits columns row) (list_all (row_fits columns) rows) fit in
        let all = and_parts (lies c row) (list_all (lies c) rows) lie in
        inserted_by table row rows (with_row columns table row) refl (λ next was. part_inserted next rows (grows table row next fits.0 h was) fits.1 all.1)
        ∙ ap (λ r. and_then r (λ next. inserted columns next rows)) (part_with_row c row all.0 columns table h)

module _ (columns : List ColumnDef) (c : ℤ → Bool) (k : ℤ) (out : c k ≡ false) where
  with_row_found : (table : List (List Value)) (row : List Value) (next : List (List Value)) → lies c row ≡ true → with_row columns table row ≡ Ok next → find (has_key k) next ≡ find (has_key k) table
  with_row_found table row next lie e =
      let made = unless_ok (insert_error columns table row) (put_row table row) next e in
      ap (find (has_key k)) (sym made.1 ∙ put_row_is table row) ∙ put_found (place_test (key_of row)) row k (other_key c k row out lie) table

  inserted_found_by : (table rows new : List (List Value)) (r : Result (List (List Value)) RunError) → ((next : List (List Value)) → r ≡ Ok next → find (has_key k) next ≡ find (has_key k) table)
      → ((next : List (List Value)) → inserted columns next rows ≡ Ok new → find (has_key k) new ≡ find (has_key k) next)
      → and_then r (λ next. inserted columns next rows) ≡ Ok new → find (has_key k) new ≡ find (has_key k) table
  inserted_found_by table rows new (Err d) one others e = cc
  inserted_found_by table rows new (Ok next) one others e = others next e ∙ one next refl

  -- what is found at another key stays
  pub found_inserted : (table rows new : List (List Value)) → list_all (lies c) rows ≡ true → inserted columns table rows ≡ Ok new → find (has_key k) new ≡ find (has_key k) table
  found_inserted table [] new lie e = ap (find (has_key k)) (sym (same_ok table new e))
  found_inserted table (row ∷ rows) new lie e =
      let all = and_parts (lies c row) (list_all (lies c) rows) lie in
      inserted_found_by table rows new (with_row columns table row) (λ next was. with_row_found table row next all.0 was) (λ next on. found_inserted next rows new all.1 on) e
