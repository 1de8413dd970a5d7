-- Answers stand in canonical form, so equal answers are one and the same value.
use Rattle.std.specs.Prelude.{ℕ, suc, Bool, true, false, ◌&&◌, ◌==◌, if◌then◌else◌, List, [], ◌∷◌}
use Rattle.std.specs.Ordering.{int_eq, is_eq, is_le}
use Rattle.std.specs.Cmp.Lexicographic.{slice_cmp}
use Rattle.hr_rel.specs.declared.value.Value.{Value}
use Rattle.hr_rel.specs.declared.answer.Answer.{Answer}
use Rattle.hr_rel.specs.declared.answer.Answer.TheVariants.{Rows, Count, Failed}
use Rattle.hr_rel.specs.declared.answer.RunError.{RunError}
use Rattle.hr_rel.specs.declared.answer.RunError.TheVariants.{DuplicateKey, Overflow, NullRefused, TooManyRows, Unfit}
use Rattle.hr_answer.specs.Canonical.{row_cmp}

abbrev pub same_error : RunError → RunError → Bool
same_error (DuplicateKey a) (DuplicateKey b) = int_eq a b
same_error Overflow Overflow = true
same_error (NullRefused a) (NullRefused b) = a == b
same_error TooManyRows TooManyRows = true
same_error Unfit Unfit = true
same_error _ _ = false

-- whether two canonical answers are equal
abbrev pub same_answer : Answer → Answer → Bool
same_answer (Rows a) (Rows b) = is_eq (slice_cmp row_cmp a b)
same_answer (Count a) (Count b) = a == b
same_answer (Failed a) (Failed b) = same_error a b
same_answer _ _ = false

-- whether two lists of answers are equal, one by one
abbrev pub same_answers : List Answer → List Answer → Bool
same_answers [] [] = true
same_answers (a ∷ xs) (b ∷ ys) = same_answer a b && same_answers xs ys
same_answers _ _ = false

-- the number, from 1, of the first answer that isn't equal to the other list's; past the end of either where none differs
abbrev pub first_difference : List Answer → List Answer → ℕ
first_difference (a ∷ xs) (b ∷ ys) = if same_answer a b then suc (first_difference xs ys) else 1
first_difference _ _ = 1

-- whether each row comes no earlier than the one before
abbrev pub are_sorted : List (List Value) → Bool
are_sorted (a ∷ b ∷ rows) = is_le (row_cmp a b) && are_sorted (b ∷ rows)
are_sorted _ = true

-- whether an answer is canonical: its rows, if it has some, are sorted
abbrev pub is_canonical : Answer → Bool
is_canonical (Rows rows) = are_sorted rows
is_canonical (Count n) = true
is_canonical (Failed e) = true
