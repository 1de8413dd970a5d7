-- The groups of rows in any order.
use Rattle.std.proofs.Common.{◌≡◌, Bool, true, false, cond, List, [], ◌∷◌, map, refl, ap, sym, ◌∙◌, is_eq}
use Rattle.std.specs.Ordering.{ordering_reverse}
use Rattle.std.specs.declared.cmp.Ordering.{Ordering}
use Rattle.std.specs.declared.cmp.Ordering.TheVariants.{Less, Equal, Greater}
use Rattle.std.specs.List.Sorted.{IsPermutation}
use Rattle.std.proofs.lemmas.Cmp.{alike_right}
use Rattle.std.proofs.lemmas.List.Sorted.{IsPermutation-map}
use Rattle.hr_rel.specs.declared.value.Value.{Value}
use Rattle.hr_rel.specs.declared.expr.ColRef.{ColRef}
use Rattle.hr_meaning.specs.Order.{row_cmp}
use Rattle.hr_meaning.specs.Truth.{Tuple}
use Rattle.hr_meaning.specs.Select.{group_of, put_at, put_group, ascending, members}
use Rattle.hr_answer.proofs.ValueOrder.{row_total, row_exact}
use Rattle.hr_statement_laws.proofs.Permutations.{same_of_permuted, IsPermutation-filter}

-- ---- the list of groups

abbrev Group : Type 0
Group = List Value

put_less : (g h : Group) (gs : List Group) → row_cmp g h ≡ Less → put_group g (h ∷ gs) ≡ g ∷ h ∷ gs
put_less g h gs e = ap (λ (r : Ordering). put_at r g h gs (put_group g gs)) e

put_equal : (g h : Group) (gs : List Group) → row_cmp g h ≡ Equal → put_group g (h ∷ gs) ≡ h ∷ gs
put_equal g h gs e = ap (λ (r : Ordering). put_at r g h gs (put_group g gs)) e

put_greater : (g h : Group) (gs : List Group) → row_cmp g h ≡ Greater → put_group g (h ∷ gs) ≡ h ∷ put_group g gs
put_greater g h gs e = ap (λ (r : Ordering). put_at r g h gs (put_group g gs)) e

turned : (g h : Group) (r : Ordering) → row_cmp g h ≡ r → row_cmp h g ≡ ordering_reverse r
turned g h r e = row_total.antisymm h g ∙ ap ordering_reverse e

module _ (x y : Group) (less : row_cmp x y ≡ Less) where
  more : row_cmp y x ≡ Greater
  more = turned x y Less less

  -- x, which is below y, goes before the first, wherever y goes
  in_front : (h : Group) (gs behind : List Group) (r : Ordering) → row_cmp x h ≡ Less → put_group x (put_at r y h gs behind) ≡ x ∷ put_at r y h gs behind
  in_front h gs behind Less e = put_less x y (h ∷ gs) less
  in_front h gs behind Equal e = put_less x h gs e
  in_front h gs behind Greater e = put_less x h behind e

  step : (h : Group) (gs : List Group) → put_group x (put_group y gs) ≡ put_group y (put_group x gs)
      → (r : Ordering) → row_cmp x h ≡ r → put_group x (put_group y (h ∷ gs)) ≡ put_group y (put_group x (h ∷ gs))
  step h gs rest Less e =
      in_front h gs (put_group y gs) (row_cmp y h) e ∙ sym (ap (put_group y) (put_less x h gs e) ∙ put_greater y x (h ∷ gs) more)
  step h gs rest Equal e =
      let above : row_cmp y h ≡ Greater = sym (alike_right row_total x h y e) ∙ more in
      ap (put_group x) (put_greater y h gs above) ∙ put_equal x h (put_group y gs) e ∙ sym (ap (put_group y) (put_equal x h gs e) ∙ put_greater y h gs above)
  step h gs rest Greater e =
      let above : row_cmp y h ≡ Greater = turned h y Less (row_total.trans h x y (turned x h Greater e) less) in
      ap (put_group x) (put_greater y h gs above) ∙ put_greater x h (put_group y gs) e ∙ ap (λ hs. h ∷ hs) rest
      ∙ sym (ap (put_group y) (put_greater x h gs e) ∙ put_greater y h (put_group x gs) above)

  lower_first : (gs : List Group) → put_group x (put_group y gs) ≡ put_group y (put_group x gs)
  lower_first [] = put_less x y [] less ∙ sym (put_greater y x [] more)
  lower_first (h ∷ gs) = step h gs (lower_first gs) (row_cmp x h) refl

either_first : (x y : Group) (gs : List Group) (r : Ordering) → row_cmp x y ≡ r → put_group x (put_group y gs) ≡ put_group y (put_group x gs)
either_first x y gs Less e = lower_first x y e gs
either_first x y gs Equal e = λ i. put_group (row_exact x y e i) (put_group (sym (row_exact x y e) i) gs)
either_first x y gs Greater e = sym (lower_first y x (turned x y Greater e) gs)

ascending_alike : (gs hs : List Group) → IsPermutation gs hs → ascending gs ≡ ascending hs
ascending_alike = same_of_permuted ascending (λ g gs hs e. ap (put_group g) e) (λ g h gs. either_first g h (ascending gs) (row_cmp g h) refl)

module _ (groups : List ColRef) where
  -- rows in any order have the same groups
  pub groups_alike : (ts us : List Tuple) → IsPermutation ts us → ascending (map (group_of groups) ts) ≡ ascending (map (group_of groups) us)
  groups_alike ts us same = ascending_alike (map (group_of groups) ts) (map (group_of groups) us) (IsPermutation-map (group_of groups) ts us same)

  -- ---- the rows of one group

  module _ (g : Group) where
    abbrev is_member : Tuple → Bool
    is_member t = is_eq (row_cmp (group_of groups t) g)

    pub members_permuted : (ts us : List Tuple) → IsPermutation ts us → IsPermutation (members groups ts g) (members groups us g)
    members_permuted = IsPermutation-filter is_member

    -- the first of these, if there is one, is in the group
    abbrev pub StartsIn : List Tuple → Type 0
    StartsIn [] = Unit {0}
    StartsIn (t ∷ ts) = group_of groups t ≡ g

    equal_of : (r : Ordering) → is_eq r ≡ true → r ≡ Equal
    equal_of Less h = cc
    equal_of Equal h = refl
    equal_of Greater h = cc

    first_or_rest : (b : Bool) (t : Tuple) (ts : List Tuple) → is_member t ≡ b → StartsIn ts → StartsIn (cond b (t ∷ ts) ts)
    first_or_rest true t ts e rest = row_exact (group_of groups t) g (equal_of (row_cmp (group_of groups t) g) e)
    first_or_rest false t ts e rest = rest

    pub members_start : (ts : List Tuple) → StartsIn (members groups ts g)
    members_start [] = tt
    members_start (t ∷ ts) = first_or_rest (is_member t) t (members groups ts g) refl (members_start ts)
