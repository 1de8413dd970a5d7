-- The order of values is total, and values that compare alike are one.
use Rattle.std.proofs.Common.{◌≡◌, Bool, true, IsTrue, ◌↔◌, ℕ, ℤ, pos, List, [], ◌∷◌, refl, ap, subst, sym}
use Rattle.std.specs.Cmp.{IsTotalOrder, eq_by_cmp_equiv}
use Rattle.std.specs.Cmp.Lexicographic.{slice_cmp}
use Rattle.std.specs.Ordering.{int_cmp, nat_cmp, ordering_then, eq_by_cmp}
use Rattle.std.specs.declared.cmp.Ordering.{Ordering}
use Rattle.std.specs.declared.cmp.Ordering.TheVariants.{Less, Equal, Greater}
use Rattle.std.proofs.lemmas.Cmp.{nat_cmp_total, int_cmp_total, nat_list_cmp_total, lists_total, on_total, then_total}
use Rattle.std.specs.List.Sorted.{IsPermutation, IsSorted}
use Rattle.std.proofs.lemmas.List.Sorted.{IsPermutation-refl}
use Rattle.std.proofs.lemmas.Map.Views.{tells_apart}
use Rattle.std.proofs.lemmas.Map.Lookups.{CmpEqualImpliesEq, exact_signed, exact_bytes}
use Rattle.hr_rel.specs.declared.value.Value.{Value}
use Rattle.hr_rel.specs.declared.value.Value.TheVariants.{Null, Int, Text}
use Rattle.hr_rel.specs.contracts.value.ValueOrd.TheImpl.{cmp-value}
use Rattle.hr_rel.specs.declared.answer.Answer.{Answer}
use Rattle.hr_rel.specs.declared.answer.Answer.TheVariants.{Rows}
use Rattle.hr_meaning.specs.SameAnswer.{SameAnswer}
use Rattle.hr_meaning.specs.Order.{value_cmp, row_cmp}
use Rattle.hr_answer.specs.Canonical.{IsCanonical}
use Rattle.hr_answer.proofs.Ascending.{sorted_same}

-- the order that Rust derives for values is the one that is written out by cases
pub derived_cmp : (a b : Value) → cmp-value.it a b ≡ value_cmp a b
derived_cmp Null Null = refl
derived_cmp Null (Int n) = refl
derived_cmp Null (Text t) = refl
derived_cmp (Int m) Null = refl
derived_cmp (Int m) (Int n) = refl
derived_cmp (Int m) (Text t) = refl
derived_cmp (Text s) Null = refl
derived_cmp (Text s) (Int n) = refl
derived_cmp (Text s) (Text t) = refl

-- a value as three parts, in the order in which they decide: its kind, its number and its text
abbrev kind_of : Value → ℕ
kind_of Null = 0
kind_of (Int n) = 1
kind_of (Text t) = 2

abbrev number_of : Value → ℤ
number_of Null = pos 0
number_of (Int n) = n
number_of (Text t) = pos 0

abbrev text_of : Value → List ℕ
text_of Null = []
text_of (Int n) = []
text_of (Text t) = t

abbrev cmp_by_parts : Value → Value → Ordering
cmp_by_parts a b = ordering_then (nat_cmp (kind_of a) (kind_of b)) (ordering_then (int_cmp (number_of a) (number_of b)) (slice_cmp nat_cmp (text_of a) (text_of b)))

then-Equal : (o : Ordering) → ordering_then o Equal ≡ o
then-Equal Less = refl
then-Equal Equal = refl
then-Equal Greater = refl

by_parts : (a b : Value) → cmp_by_parts a b ≡ value_cmp a b
by_parts Null Null = refl
by_parts Null (Int n) = refl
by_parts Null (Text t) = refl
by_parts (Int m) Null = refl
by_parts (Int m) (Int n) = then-Equal (int_cmp m n)
by_parts (Int m) (Text t) = refl
by_parts (Text s) Null = refl
by_parts (Text s) (Int n) = refl
by_parts (Text s) (Text t) = refl

pub value_total : IsTotalOrder value_cmp
value_total =
    let parts = then_total (on_total kind_of nat_cmp_total) (then_total (on_total number_of int_cmp_total) (on_total text_of nat_list_cmp_total)) in
    subst IsTotalOrder (λ i a b. by_parts a b i) parts

pub row_total : IsTotalOrder row_cmp
row_total = lists_total value_total

pub value_exact : CmpEqualImpliesEq value_cmp
value_exact Null Null h = refl
value_exact Null (Int n) h = cc
value_exact Null (Text t) h = cc
value_exact (Int m) Null h = cc
value_exact (Int m) (Int n) h = ap Int (exact_signed m n h)
value_exact (Int m) (Text t) h = cc
value_exact (Text s) Null h = cc
value_exact (Text s) (Int n) h = cc
value_exact (Text s) (Text t) h = ap Text (exact_bytes s t h)

first_equal : (a b : Ordering) → ordering_then a b ≡ Equal → (a ≡ Equal) × (b ≡ Equal)
first_equal Less b h = cc
first_equal Equal b h = (refl, h)
first_equal Greater b h = cc

-- lists are told apart by an order that tells their items apart
lists_exact : {X : Type 0} (R : X → X → Ordering) → CmpEqualImpliesEq R → CmpEqualImpliesEq (slice_cmp R)
lists_exact R exact [] [] h = refl
lists_exact R exact [] (y ∷ ys) h = cc
lists_exact R exact (x ∷ xs) [] h = cc
lists_exact R exact (x ∷ xs) (y ∷ ys) h =
    let both = first_equal (R x y) (slice_cmp R xs ys) h in
    λ i. exact x y both.0 i ∷ lists_exact R exact xs ys both.1 i

pub row_exact : CmpEqualImpliesEq row_cmp
row_exact = lists_exact value_cmp value_exact

-- lists of rows that compare alike are one
rows_alike : (xs ys : List (List Value)) → IsTrue (eq_by_cmp (slice_cmp row_cmp) xs ys) ↔ (xs ≡ ys)
rows_alike xs ys =
    let itself : eq_by_cmp (slice_cmp row_cmp) xs xs ≡ true = (eq_by_cmp_equiv (lists_total row_total)).refl xs in
    (λ h. tells_apart (lists_exact row_cmp row_exact) xs ys h, λ e. subst (λ zs. IsTrue (eq_by_cmp (slice_cmp row_cmp) xs zs)) e itself)

pub rows_alike_derived : (xs ys : List (List Value)) → IsTrue (eq_by_cmp (slice_cmp (slice_cmp cmp-value.it)) xs ys) ↔ (xs ≡ ys)
rows_alike_derived xs ys =
    let P : (Value → Value → Ordering) → Type 0 = λ R. IsTrue (eq_by_cmp (slice_cmp (slice_cmp R)) xs ys) ↔ (xs ≡ ys) in
    subst P (λ i a b. sym (derived_cmp a b) i) (rows_alike xs ys)

-- canonical answers with rows are equal where their rows are
pub same_rows : (a b : Answer) (xs ys : List (List Value)) → a ≡ Rows xs → b ≡ Rows ys → IsCanonical a → IsCanonical b
    → (test : Bool) → IsTrue test ↔ (xs ≡ ys) → IsTrue test ↔ SameAnswer a b
same_rows a b xs ys e f canonical_a canonical_b test told =
    let sorted_xs : IsSorted row_cmp xs = subst IsCanonical e canonical_a in
    let sorted_ys : IsSorted row_cmp ys = subst IsCanonical f canonical_b in
    let told_of : IsTrue test ↔ SameAnswer (Rows xs) (Rows ys) = (
      λ h. subst (λ zs. IsPermutation xs zs) (told.0 h) (IsPermutation-refl xs),
      λ p. told.1 (sorted_same row_cmp row_total row_exact xs ys sorted_xs sorted_ys p),
    ) in
    subst (λ c. IsTrue test ↔ SameAnswer c b) (sym e) (subst (λ d. IsTrue test ↔ SameAnswer (Rows xs) d) (sym f) told_of)
