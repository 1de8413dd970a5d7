use Rattle.std.proofs.Common.{◌≡◌, ℕ, true, take}
use Rattle.hr_base.specs.Lists.{has}
use Rattle.hr_moves.specs.Kept.{entries_in}
use Rattle.hr_votes.specs.Walked.{found_of, IsWalk, IsKnown, GrowsBy}
use Rattle.hr_votes.proofs.walk.Walk.find_all.Given as goal

abbrev pub invariant-txns : goal.invariant-txns
invariant-txns l = record {
  walk : IsWalk (entries_in l.view l.replica) l.self;
  grows : GrowsBy (has l.txns) (found_of l.fn.self) (found_of l.self);
  known : (t : ℕ) → has (take l.txn-index l.txns) t ≡ true → IsKnown (entries_in l.view l.replica) (found_of l.self) t;
}
