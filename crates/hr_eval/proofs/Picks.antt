-- The lesser and the greater of three values are the same, whichever two are looked at first.
use Rattle.std.proofs.Common.{◌≡◌, Bool, true, false, if◌then◌else◌, refl, ap, sym, ◌∙◌}
use Rattle.std.specs.Ordering.{is_lt, is_gt, ordering_reverse}
use Rattle.std.specs.declared.cmp.Ordering.{Ordering}
use Rattle.std.specs.declared.cmp.Ordering.TheVariants.{Less, Equal, Greater}
use Rattle.hr_rel.specs.declared.value.Value.{Value}
use Rattle.hr_meaning.specs.Order.{value_cmp}
use Rattle.hr_meaning.specs.Select.{lesser, greater}
use Rattle.hr_answer.proofs.ValueOrder.{value_total}

clash : {X : Type 0} → true ≡ false → X
clash h = cc

-- ---- picks by a test that is transitive, and so is its opposite

abbrev IsTransitive : (Value → Value → Bool) → Bool → Type 0
IsTransitive over s = (a b c : Value) → over b a ≡ s → over c b ≡ s → over c a ≡ s

module _ (over : Value → Value → Bool) (both : IsTransitive over true) (neither : IsTransitive over false) where
  abbrev pick : Value → Value → Value
  pick a b = if over b a then b else a

  by_tests : (a b c : Value) (x y : Bool) → over b a ≡ x → over c b ≡ y → pick a (pick b c) ≡ pick (pick a b) c
  by_tests a b c true true ex ey =
      ap (λ s. pick a (if s then c else b)) ey ∙ ap (λ s. if s then c else a) (both a b c ex ey)
      ∙ sym (ap (λ s. pick (if s then b else a) c) ex ∙ ap (λ s. if s then c else b) ey)
  by_tests a b c true false ex ey =
      ap (λ s. pick a (if s then c else b)) ey ∙ ap (λ s. if s then b else a) ex
      ∙ sym (ap (λ s. pick (if s then b else a) c) ex ∙ ap (λ s. if s then c else b) ey)
  by_tests a b c false true ex ey =
      ap (λ s. pick a (if s then c else b)) ey ∙ sym (ap (λ s. pick (if s then b else a) c) ex)
  by_tests a b c false false ex ey =
      ap (λ s. pick a (if s then c else b)) ey ∙ ap (λ s. if s then b else a) ex
      ∙ sym (ap (λ s. pick (if s then b else a) c) ex ∙ ap (λ s. if s then c else a) (neither a b c ex ey))

  associates : (a b c : Value) → pick a (pick b c) ≡ pick (pick a b) c
  associates a b c = by_tests a b c (over b a) (over c b) refl refl

-- ---- less

less_by : (o : Ordering) → is_lt o ≡ true → o ≡ Less
less_by Less h = refl
less_by Equal h = clash (sym h)
less_by Greater h = clash (sym h)

both_less : IsTransitive (λ b a. is_lt (value_cmp b a)) true
both_less a b c x y = ap is_lt (value_total.trans c b a (less_by (value_cmp c b) y) (less_by (value_cmp b a) x))

-- what is less than one that isn't above another is less than that other
passed_on : (a b c : Value) (o : Ordering) → value_cmp b a ≡ o → is_lt o ≡ false → value_cmp c a ≡ Less → value_cmp c b ≡ Less
passed_on a b c Less e x below = clash x
passed_on a b c Equal e x below =
    value_total.antisymm c b ∙ ap ordering_reverse (value_total.congr b a c e) ∙ sym (value_total.antisymm c a) ∙ below
passed_on a b c Greater e x below = value_total.trans c a b below (value_total.antisymm a b ∙ ap ordering_reverse e)

not_less : (a b c : Value) (o : Ordering) → value_cmp c a ≡ o → is_lt (value_cmp b a) ≡ false → is_lt (value_cmp c b) ≡ false → is_lt o ≡ false
not_less a b c Less e x y = clash (sym (ap is_lt (passed_on a b c (value_cmp b a) refl x e)) ∙ y)
not_less a b c Equal e x y = refl
not_less a b c Greater e x y = refl

neither_less : IsTransitive (λ b a. is_lt (value_cmp b a)) false
neither_less a b c x y = not_less a b c (value_cmp c a) refl x y

pub lesser_associates : (a b c : Value) → lesser a (lesser b c) ≡ lesser (lesser a b) c
lesser_associates = associates (λ b a. is_lt (value_cmp b a)) both_less neither_less

-- ---- greater: less the other way round

reversed : (o : Ordering) → is_gt (ordering_reverse o) ≡ is_lt o
reversed Less = refl
reversed Equal = refl
reversed Greater = refl

other_way : (a b : Value) → is_gt (value_cmp b a) ≡ is_lt (value_cmp a b)
other_way a b = ap is_gt (value_total.antisymm b a) ∙ reversed (value_cmp a b)

both_greater : IsTransitive (λ b a. is_gt (value_cmp b a)) true
both_greater a b c x y = other_way a c ∙ both_less c b a (sym (other_way b c) ∙ y) (sym (other_way a b) ∙ x)

neither_greater : IsTransitive (λ b a. is_gt (value_cmp b a)) false
neither_greater a b c x y = other_way a c ∙ neither_less c b a (sym (other_way b c) ∙ y) (sym (other_way a b) ∙ x)

pub greater_associates : (a b c : Value) → greater a (greater b c) ≡ greater (greater a b) c
greater_associates = associates (λ b a. is_gt (value_cmp b a)) both_greater neither_greater
