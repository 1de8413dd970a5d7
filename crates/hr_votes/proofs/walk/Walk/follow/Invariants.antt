use Rattle.std.proofs.Common.{◌≡◌, ℕ, true, take}
use Rattle.hr_base.specs.Lists.{has}
use Rattle.hr_history.specs.Processed.{wait_in}
use Rattle.hr_moves.specs.Kept.{entries_in}
use Rattle.hr_votes.specs.Walked.{found_of, IsWalk, IsKnown, GrowsBy}
use Rattle.hr_votes.proofs.walk.Walk.follow.Given as goal

abbrev pub invariant-told : goal.invariant-told
invariant-told l = record {
  walk : IsWalk (entries_in l.view l.replica) l.self;
  grows : GrowsBy (has (wait_in l.view l.replica l.txn)) (found_of l.fn.self) (found_of l.self);
  clear : (t : ℕ) → has (take l.other-index l.told) t ≡ true → has (wait_in l.view l.replica l.txn) t ≡ true → IsKnown (entries_in l.view l.replica) (found_of l.self) t × (t ≡ l.asker → ⊥);
}
