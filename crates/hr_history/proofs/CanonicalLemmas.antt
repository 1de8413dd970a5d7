-- The test of canonical answers is exact, and for canonical answers `same_answer` tells whether they are equal.
use Rattle.std.proofs.Common.{◌≡◌, ℕ, zero, suc, ◌+◌, ◌<◌, true, false, IsTrue, ◌↔◌, List, [], ◌∷◌, length, get_or, refl, ap, subst, arith}
use Rattle.std.specs.List.Sorted.{IsSorted}
use Rattle.std.specs.Ordering.{is_le, is_lt, ordering_reverse}
use Rattle.std.specs.declared.cmp.Ordering.{Ordering}
use Rattle.std.specs.declared.cmp.Ordering.TheVariants.{Less, Equal, Greater}
use Rattle.std.proofs.lemmas.Bool.{and_parts, and_from}
use Rattle.hr_rel.specs.declared.value.Value.{Value}
use Rattle.hr_rel.specs.declared.answer.Answer.{Answer}
use Rattle.hr_rel.specs.declared.answer.Answer.TheVariants.{Rows, Count, Failed}
use Rattle.hr_meaning.specs.SameAnswer.{SameAnswer}
use Rattle.hr_answer.specs.Canonical.{row_cmp, IsCanonical}
use Rattle.hr_answer.proofs.ValueOrder.{row_total, same_rows}
use Rattle.hr_history.specs.SameAnswers.{same_answer, are_sorted, is_canonical}
use Rattle.hr_history.proofs.SameAnswersLemmas.{rows_decides, count_decides, error_decides}

-- one row comes no later than another exactly where the other isn't less
not_less : (a b : Ordering) → b ≡ ordering_reverse a → is_le a ≡ true → is_lt b ≡ false
not_less Less b e h = ap is_lt e
not_less Equal b e h = ap is_lt e
not_less Greater b e h = cc

no_later : (a b : Ordering) → b ≡ ordering_reverse a → is_lt b ≡ false → is_le a ≡ true
no_later Less b e h = refl
no_later Equal b e h = refl
no_later Greater b e h = cc

sorted_at : (rows : List (List Value)) → are_sorted rows ≡ true → (k : ℕ) (d : List Value) → k + 1 < length rows
    → is_lt (row_cmp (get_or rows (k + 1) d) (get_or rows k d)) ≡ false
sorted_at [] h k d lt = absurd (omega arith)
sorted_at (a ∷ []) h k d lt = absurd (omega arith)
sorted_at (a ∷ b ∷ rows) h zero d lt =
    not_less (row_cmp a b) (row_cmp b a) (row_total.antisymm b a) (and_parts (is_le (row_cmp a b)) (are_sorted (b ∷ rows)) h).0
sorted_at (a ∷ b ∷ rows) h (suc k) d lt =
    let next : suc (k + 1) ≡ suc k + 1 = omega arith in
    subst (λ (n : ℕ). is_lt (row_cmp (get_or (a ∷ b ∷ rows) n d) (get_or (b ∷ rows) k d)) ≡ false) next
    (sorted_at (b ∷ rows) (and_parts (is_le (row_cmp a b)) (are_sorted (b ∷ rows)) h).1 k d (omega arith))

rest_sorted : (a : List Value) (rows : List (List Value)) → IsSorted row_cmp (a ∷ rows) → IsSorted row_cmp rows
rest_sorted a rows h = λ k d le lt.
    let next : suc k + 1 ≡ suc (k + 1) = omega arith in
    subst (λ (n : ℕ). is_lt (row_cmp (get_or (a ∷ rows) n d) (get_or rows k d)) ≡ false) next (h (suc k) d (omega arith) (omega arith))

sorted_test : (rows : List (List Value)) → IsSorted row_cmp rows → are_sorted rows ≡ true
sorted_test [] h = refl
sorted_test (a ∷ []) h = refl
sorted_test (a ∷ b ∷ rows) h =
    and_from (is_le (row_cmp a b)) (are_sorted (b ∷ rows)) (no_later (row_cmp a b) (row_cmp b a) (row_total.antisymm b a) (h 0 a (omega arith) (omega arith)))
    (sorted_test (b ∷ rows) (rest_sorted a (b ∷ rows) h))

pub canonical_exact : (a : Answer) → IsTrue (is_canonical a) ↔ IsCanonical a
canonical_exact (Rows rows) = (λ h k d le lt. sorted_at rows h k d lt, λ h. sorted_test rows h)
canonical_exact (Count n) = (λ h. tt, λ h. refl)
canonical_exact (Failed e) = (λ h. tt, λ h. refl)

pub same_answer_exact : (a b : Answer) → IsCanonical a → IsCanonical b → IsTrue (same_answer a b) ↔ SameAnswer a b
same_answer_exact (Rows xs) (Rows ys) h k = same_rows (Rows xs) (Rows ys) xs ys refl refl h k (same_answer (Rows xs) (Rows ys)) (rows_decides xs ys)
same_answer_exact (Count m) (Count n) h k = count_decides m n
same_answer_exact (Failed d) (Failed e) h k = error_decides d e
same_answer_exact _ _ h k = (λ e. cc, λ never. absurd never)
