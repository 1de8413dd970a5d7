-- The new rows of an UPDATE, in the places of their old ones, are what each row comes to.
use Rattle.std.proofs.Common.{◌≡◌, ℕ, zero, suc, ◌+◌, Bool, true, false, if◌then◌else◌, cond, Option, Some, None, List, [], ◌∷◌, ◌++◌, length, take, drop, ◌≤◌, arith, Result, Ok, Err, refl, ap, sym, ◌∙◌, length-append}
use Rattle.std.specs.Prelude.{slice_set}
use Rattle.std.specs.List.{list_any}
use Rattle.std.proofs.lemmas.Bool.{or_parts}
use Rattle.std.proofs.lemmas.List.{append_assoc, set_at}
use Rattle.hr_rel.specs.declared.value.Value.{Value}
use Rattle.hr_rel.specs.declared.answer.RunError.{RunError}
use Rattle.hr_rel.specs.declared.catalog.ColumnDef.{ColumnDef}
use Rattle.hr_rel.specs.declared.stmt.UpdateStmt.{UpdateStmt}
use Rattle.hr_meaning.specs.Truth.{is_kept}
use Rattle.hr_meaning.specs.Value.{and_then, each}
use Rattle.hr_meaning.specs.Exec.{assigned, updated, kept_rows}
use Rattle.hr_eval.specs.SoFar.{led}
use Rattle.hr_eval.proofs.Each.{led_by_one_more, led_from_start}
use Rattle.hr_machine.specs.declared.update.Change.{Change}
use Rattle.hr_machine.specs.Changes.{with_change, changes_from, changed_rows}

module _ (columns : List ColumnDef) (s : UpdateStmt) where
  abbrev changes : ℕ → List (List Value) → Result (List Change) RunError
  changes n rows = changes_from columns s n rows

  -- the outcome for one row, by whether it is kept, and by what it comes to
  abbrev row_by : Bool → Result (List Value) RunError → List Value → Result (List Value) RunError
  row_by b new row = if b then new else Ok row

  abbrev change_by : Bool → Result (List Value) RunError → ℕ → Result (Option Change) RunError
  change_by b new n = if b then and_then new (λ r. Ok (Some record { place = n; row = r })) else Ok None

  after_none : (m : Result (List Change) RunError) (f : List Change → Result (List (List Value)) RunError) → and_then (and_then m (λ more. Ok more)) f ≡ and_then m f
  after_none (Ok more) f = refl
  after_none (Err e) f = refl

  after_one : (c : Change) (m : Result (List Change) RunError) (f : List Change → Result (List (List Value)) RunError) → and_then (and_then m (λ more. Ok (c ∷ more))) f ≡ and_then m (λ more. f (c ∷ more))
  after_one c (Ok more) f = refl
  after_one c (Err e) f = refl

  -- what all come to behind a front
  abbrev Claim : List (List Value) → List (List Value) → Type 0
  Claim front rows = led front (each (updated columns s) rows) ≡ and_then (changes (length front) rows) (λ cs. Ok (changed_rows (front ++ rows) cs))

  longer : (front : List (List Value)) (row : List Value) → length (front ++ row ∷ []) ≡ length front + 1
  longer front row = length-append front (row ∷ [])

  -- behind a front with one row more
  behind_more : (front : List (List Value)) (new : List Value) (rows : List (List Value)) → Claim (front ++ new ∷ []) rows
      → led front (and_then (each (updated columns s) rows) (λ ys. Ok (new ∷ ys))) ≡ and_then (changes (length front + 1) rows) (λ cs. Ok (changed_rows (front ++ new ∷ rows) cs))
  behind_more front new rows ih =
      led_by_one_more front new (each (updated columns s) rows) ∙ ih
      ∙ (λ i. and_then (changes (longer front new i) rows) (λ cs. Ok (changed_rows (append_assoc front (new ∷ []) rows i) cs)))

  first_by : (front : List (List Value)) (row : List Value) (rows : List (List Value)) (b : Bool) (new : Result (List Value) RunError)
      → ((r : List Value) → Claim (front ++ r ∷ []) rows)
      → led front (and_then (row_by b new row) (λ y. and_then (each (updated columns s) rows) (λ ys. Ok (y ∷ ys))))
      ≡ and_then (and_then (change_by b new (length front)) (λ c. and_then (changes (length front + 1) rows) (λ more. Ok (with_change c more)))) (λ cs. Ok (changed_rows (front ++ row ∷ rows) cs))
  first_by front row rows false new ih =
      behind_more front row rows (ih row) ∙ sym (after_none (changes (length front + 1) rows) (λ cs. Ok (changed_rows (front ++ row ∷ rows) cs)))
  first_by front row rows true (Err e) ih = refl
  first_by front row rows true (Ok r) ih =
      let placed : slice_set (front ++ row ∷ rows) (length front) r ≡ front ++ r ∷ rows = set_at front row rows r (length front) refl in
      behind_more front r rows (ih r)
      ∙ ap (λ all. and_then (changes (length front + 1) rows) (λ cs. Ok (changed_rows all cs))) (sym placed)
      ∙ sym (after_one (record { place = length front; row = r }) (changes (length front + 1) rows) (λ cs. Ok (changed_rows (front ++ row ∷ rows) cs)))

  all_behind : (front rows : List (List Value)) → Claim front rows
  all_behind front [] = refl
  all_behind front (row ∷ rows) = first_by front row rows (is_kept s.filter (row ∷ [])) (assigned columns row s.sets row) (λ r. all_behind (front ++ r ∷ []) rows)

  -- what each row comes to, as changes of the table
  pub each_as_changes : (rows : List (List Value)) → each (updated columns s) rows ≡ and_then (changes_from columns s 0 rows) (λ cs. Ok (changed_rows rows cs))
  each_as_changes rows = sym (led_from_start (each (updated columns s) rows)) ∙ all_behind [] rows

  pub each_done : (rows : List (List Value)) (cs : List Change) → changes_from columns s 0 rows ≡ Ok cs → each (updated columns s) rows ≡ Ok (changed_rows rows cs)
  each_done rows cs e = each_as_changes rows ∙ ap (λ m. and_then m (λ ds. Ok (changed_rows rows ds))) e

  pub each_failed : (rows : List (List Value)) (d : RunError) → changes_from columns s 0 rows ≡ Err d → each (updated columns s) rows ≡ Err d
  each_failed rows d e = each_as_changes rows ∙ ap (λ m. and_then m (λ ds. Ok (changed_rows rows ds))) e

  -- ---- how many they are

  abbrev count_in : Result (List Change) RunError → ℕ → Result ℕ RunError
  count_in m n = and_then m (λ cs. Ok (length cs))

  abbrev counted : Result (List Change) RunError → ℕ → Result ℕ RunError
  counted m n = and_then m (λ cs. Ok n)

  count_by : (row : List Value) (kept : List (List Value)) (b : Bool) (new : Result (List Value) RunError) (n : ℕ) (m : Result (List Change) RunError)
      → count_in m 0 ≡ counted m (length kept)
      → count_in (and_then (change_by b new n) (λ c. and_then m (λ more. Ok (with_change c more)))) 0
      ≡ counted (and_then (change_by b new n) (λ c. and_then m (λ more. Ok (with_change c more)))) (length (cond b (row ∷ kept) kept))
  count_by row kept false new n (Ok cs) ih = ih
  count_by row kept false new n (Err e) ih = refl
  count_by row kept true (Err e) n m ih = refl
  count_by row kept true (Ok r) n (Err e) ih = refl
  count_by row kept true (Ok r) n (Ok cs) ih = ap (λ (k : Result ℕ RunError). and_then k (λ l. Ok (suc l))) ih

  count_all : (rows : List (List Value)) (n : ℕ) → count_in (changes n rows) 0 ≡ counted (changes n rows) (length (kept_rows s.filter rows))
  count_all [] n = refl
  count_all (row ∷ rows) n = count_by row (kept_rows s.filter rows) (is_kept s.filter (row ∷ [])) (assigned columns row s.sets row) n (changes (n + 1) rows) (count_all rows (n + 1))

  abbrev told : ℕ → Result ℕ RunError
  told n = Ok n

  inside : (a b : ℕ) → told a ≡ told b → a ≡ b
  inside a b h = cc

  pub changes_counted : (rows : List (List Value)) (cs : List Change) → changes_from columns s 0 rows ≡ Ok cs → length cs ≡ length (kept_rows s.filter rows)
  changes_counted rows cs e =
      let all : and_then (Ok cs) (λ ds. Ok (length ds)) ≡ and_then (Ok cs) (λ ds. Ok (length (kept_rows s.filter rows))) =
      sym (ap (λ m. count_in m 0) e) ∙ count_all rows 0 ∙ ap (λ m. counted m (length (kept_rows s.filter rows))) e in
      inside (length cs) (length (kept_rows s.filter rows)) all

  -- ---- rows that aren't kept have no changes

  abbrev is_changed : List Value → Bool
  is_changed row = is_kept s.filter (row ∷ [])

  passed_by : (row : List Value) (rows : List (List Value)) (n : ℕ) (b : Bool) (new : Result (List Value) RunError) → b ≡ false
      → and_then (change_by b new n) (λ c. and_then (changes (n + 1) rows) (λ more. Ok (with_change c more))) ≡ changes (n + 1) rows
  passed_by row rows n true new e = cc
  passed_by row rows n false new e = by_result (changes (n + 1) rows)
    where
      by_result : (m : Result (List Change) RunError) → and_then m (λ more. Ok more) ≡ m
      by_result (Ok more) = refl
      by_result (Err d) = refl

  pub none_changed : (n : ℕ) (rows : List (List Value)) → list_any is_changed rows ≡ false → changes_from columns s n rows ≡ Ok []
  none_changed n [] e = refl
  none_changed n (row ∷ rows) e =
      let parts = or_parts (is_changed row) (list_any is_changed rows) e in
      passed_by row rows n (is_changed row) (assigned columns row s.sets row) parts.0 ∙ none_changed (n + 1) rows parts.1

  passed_over : (k n : ℕ) (rows : List (List Value)) → list_any is_changed (take k rows) ≡ false → k ≤ length rows → changes n rows ≡ changes (n + k) (drop k rows)
  passed_over zero n rows e le = let same : n ≡ n + 0 = omega arith in ap (λ m. changes m rows) same
  passed_over (suc k) n [] e le = absurd (omega (arith, le))
  passed_over (suc k) n (row ∷ rows) e le =
      let parts = or_parts (is_changed row) (list_any is_changed (take k rows)) e in
      let same : n + 1 + k ≡ n + suc k = omega arith in
      passed_by row rows n (is_changed row) (assigned columns row s.sets row) parts.0 ∙ passed_over k (n + 1) rows parts.1 (omega (arith, le))
      ∙ ap (λ m. changes m (drop k rows)) same

  -- the changes of all rows are those from the first place before which none is kept
  pub changes_begin : (from : ℕ) (rows : List (List Value)) → list_any is_changed (take from rows) ≡ false → from ≤ length rows → changes_from columns s from (drop from rows) ≡ changes_from columns s 0 rows
  changes_begin from rows e le =
      let same : 0 + from ≡ from = omega arith in
      ap (λ m. changes m (drop from rows)) (sym same) ∙ sym (passed_over from 0 rows e le)
