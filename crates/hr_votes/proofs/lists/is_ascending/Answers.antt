use Rattle.std.proofs.Common.{◌≡◌, ℕ, ◌-◌, ◌≤◌, true, List, [], ◌∷◌, length, drop, length-drop, refl, sym, ◌∙◌, arith}
use Rattle.hr_base.specs.Lists.{is_ascending}
use Rattle.hr_votes.proofs.lists.is_ascending.Goals as goal

short : (xs : List ℕ) → length xs ≤ 1 → is_ascending xs ≡ true
short [] h = refl
short (x ∷ []) h = refl
short (x ∷ y ∷ xs) h = absurd (omega (arith, h))

pub returns : goal.returns
returns c =
    let xs = c.args.txns.now in
    sym (short (drop (c.txns.place - 1) xs) (omega (arith, length-drop (c.txns.place - 1) xs, c.txns-test.false))) ∙ c.txns.invariant
