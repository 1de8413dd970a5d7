-- What a line that isn't refused has passed.
use Rattle.std.proofs.Common.{◌≡◌, ℕ, ◌^◌, ◌-◌, ◌≤◌, Bool, true, false, not, cond, ◌&&◌, nat_le, nat_lt, Option, Some, None, Result, Ok, List, ◌∷◌, refl, subst, arith}
use Rattle.std.proofs.lemmas.Bool.{and_parts, leb-true, ltb-false}
use Rattle.hr_base.specs.Lists.{when, first_some}
use Rattle.hr_line.specs.declared.number.Number.{Number}
use Rattle.hr_line.specs.declared.number.Number.TheVariants as number
use Rattle.hr_said.specs.declared.error.InputKind.{InputKind}
use Rattle.hr_said.specs.declared.said.Said.{Said}
use Rattle.hr_said.specs.Limits.{is_within, value, small}
use Rattle.hr_said.specs.Outcomes.{unless}
use Rattle.hr_runnable.proofs.SoFar.{IsGood}

-- ---- what comes of a line

module _ (Holds : Said → Type 0) where
  pub done_keeps : (x next : Said) → Holds x → ◌≡◌ {A = Result Said InputKind} (Ok x) (Ok next) → Holds next
  done_keeps x next h e = subst Holds same h
    where
      same : x ≡ next
      same = cc

  -- a line that isn't refused leaves what it says
  pub unless_keeps : (refusal : Option InputKind) (x next : Said) → (refusal ≡ None → Holds x) → unless refusal x ≡ Ok next → Holds next
  unless_keeps None x next h e = done_keeps x next (h refl) e
  unless_keeps (Some k) x next h e = cc

pub done_good : (x next : Said) → IsGood x → ◌≡◌ {A = Result Said InputKind} (Ok x) (Ok next) → IsGood next
done_good = done_keeps IsGood

pub unless_good : (refusal : Option InputKind) (x next : Said) → (refusal ≡ None → IsGood x) → unless refusal x ≡ Ok next → IsGood next
unless_good = unless_keeps IsGood

-- ---- tests

-- where none of some refusals is told, the first isn't, and none of the others
pub passes : (b : Bool) (k : InputKind) (others : List (Option InputKind)) → first_some (when b k ∷ others) ≡ None → (b ≡ false) × (first_some others ≡ None)
passes false k others e = (refl, e)
passes true k others e = cc

pub is_so : (b : Bool) → not b ≡ false → b ≡ true
is_so true e = refl
is_so false e = cc

-- a line behind the replicas stands only there
pub behind : (last : ℕ) (rest : Bool) → (nat_le 3 last && rest) ≡ true → 3 ≤ last
behind last rest e = leb-true 3 last (and_parts (nat_le 3 last) rest e).0

-- ---- numbers

pub within : (least most : ℕ) (n : Number) → is_within least most n ≡ true → (least ≤ value n) × (value n ≤ most)
within least most (number.Of n) e =
    let parts = and_parts (nat_le least n) (nat_le n most) e in
    (leb-true least n parts.0, leb-true n most parts.1)
within least most number.TooLarge e = cc

cut : (n : ℕ) (b : Bool) → nat_lt n (2 ^ 32) ≡ b → (cond b n (2 ^ 32 - 1) ≤ n) × (1 ≤ n → 1 ≤ cond b n (2 ^ 32 - 1))
cut n true e = (omega arith, λ some. some)
cut n false e = let large = ltb-false n (2 ^ 32) e in (omega (arith, large), λ some. omega arith)

-- a number of 32 bits is no greater than it is written, and not 0 where that isn't
pub small_below : (n : Number) → small n ≤ value n
small_below n = (cut (value n) (nat_lt (value n) (2 ^ 32)) refl).0

pub small_some : (n : Number) → 1 ≤ value n → 1 ≤ small n
small_some n some = (cut (value n) (nat_lt (value n) (2 ^ 32)) refl).1 some
