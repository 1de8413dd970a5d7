-- `same_answer` tells exactly whether two answers are one.
use Rattle.std.proofs.Common.{◌≡◌, ℕ, ◌==◌, true, IsTrue, ◌↔◌, List, [], ◌∷◌, refl, ap, subst}
use Rattle.std.specs.Cmp.{eq_by_cmp_equiv, signed_Decides}
use Rattle.std.specs.Cmp.Lexicographic.{slice_cmp}
use Rattle.std.specs.Ordering.{ordering_then}
use Rattle.std.specs.declared.cmp.Ordering.{Ordering}
use Rattle.std.specs.declared.cmp.Ordering.TheVariants.{Less, Equal, Greater}
use Rattle.std.proofs.lemmas.Cmp.{lists_total, int_eq_equiv, nat_eq_equiv}
use Rattle.std.proofs.lemmas.Map.Lookups.{CmpEqualImpliesEq}
use Rattle.std.proofs.lemmas.Bool.Decides.{Decides-eqb}
use Rattle.std.proofs.lemmas.Map.Views.{tells_apart}
use Rattle.hr_rel.specs.declared.value.Value.{Value}
use Rattle.hr_rel.specs.declared.answer.Answer.{Answer}
use Rattle.hr_rel.specs.declared.answer.Answer.TheVariants.{Rows, Count, Failed}
use Rattle.hr_rel.specs.declared.answer.RunError.{RunError}
use Rattle.hr_rel.specs.declared.answer.RunError.TheVariants.{DuplicateKey, Overflow, NullRefused, TooManyRows, Unfit}
use Rattle.hr_answer.specs.Canonical.{row_cmp}
use Rattle.hr_answer.proofs.ValueOrder.{row_total, row_exact}
use Rattle.hr_history.specs.SameAnswers.{same_error, same_answer}

first_equal : (a b : Ordering) → ordering_then a b ≡ Equal → (a ≡ Equal) × (b ≡ Equal)
first_equal Less b h = cc
first_equal Equal b h = (refl, h)
first_equal Greater b h = cc

lists_exact : {X : Type 0} (R : X → X → Ordering) → CmpEqualImpliesEq R → CmpEqualImpliesEq (slice_cmp R)
lists_exact R exact [] [] h = refl
lists_exact R exact [] (y ∷ ys) h = cc
lists_exact R exact (x ∷ xs) [] h = cc
lists_exact R exact (x ∷ xs) (y ∷ ys) h =
    let both = first_equal (R x y) (slice_cmp R xs ys) h in
    λ i. exact x y both.0 i ∷ lists_exact R exact xs ys both.1 i

error_exact : (a b : RunError) → same_error a b ≡ true → a ≡ b
error_exact (DuplicateKey m) (DuplicateKey n) h = ap DuplicateKey ((signed_Decides m n).0 h)
error_exact Overflow Overflow h = refl
error_exact (NullRefused m) (NullRefused n) h = ap NullRefused ((Decides-eqb m n).0 h)
error_exact TooManyRows TooManyRows h = refl
error_exact Unfit Unfit h = refl
error_exact _ _ h = cc

error_itself : (a : RunError) → same_error a a ≡ true
error_itself (DuplicateKey n) = int_eq_equiv.refl n
error_itself Overflow = refl
error_itself (NullRefused n) = nat_eq_equiv.refl n
error_itself TooManyRows = refl
error_itself Unfit = refl

pub error_decides : (a b : RunError) → IsTrue (same_error a b) ↔ (a ≡ b)
error_decides a b = (λ h. error_exact a b h, λ e. subst (λ c. IsTrue (same_error a c)) e (error_itself a))

pub count_decides : (m n : ℕ) → IsTrue (m == n) ↔ (m ≡ n)
count_decides m n = Decides-eqb m n

pub rows_decides : (xs ys : List (List Value)) → IsTrue (same_answer (Rows xs) (Rows ys)) ↔ (xs ≡ ys)
rows_decides xs ys = (
  λ h. tells_apart (lists_exact row_cmp row_exact) xs ys h,
  λ e. subst (λ zs. IsTrue (same_answer (Rows xs) (Rows zs))) e ((eq_by_cmp_equiv (lists_total row_total)).refl xs),
)

answer_exact : (a b : Answer) → same_answer a b ≡ true → a ≡ b
answer_exact (Rows xs) (Rows ys) h = ap Rows ((rows_decides xs ys).0 h)
answer_exact (Count m) (Count n) h = ap Count ((Decides-eqb m n).0 h)
answer_exact (Failed d) (Failed e) h = ap Failed (error_exact d e h)
answer_exact _ _ h = cc

answer_itself : (a : Answer) → same_answer a a ≡ true
answer_itself (Rows xs) = (eq_by_cmp_equiv (lists_total row_total)).refl xs
answer_itself (Count n) = nat_eq_equiv.refl n
answer_itself (Failed e) = error_itself e

pub same_answer_decides : (a b : Answer) → IsTrue (same_answer a b) ↔ (a ≡ b)
same_answer_decides a b = (λ h. answer_exact a b h, λ e. subst (λ c. IsTrue (same_answer a c)) e (answer_itself a))
