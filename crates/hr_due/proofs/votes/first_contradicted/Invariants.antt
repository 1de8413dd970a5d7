use Rattle.std.proofs.Common.{◌≡◌, ◌≤◌, length, drop, filter}
use Rattle.hr_history.specs.Votes.{is_contradicted}
use Rattle.hr_history.specs.Ranks.{first_in_rank}
use Rattle.hr_due.proofs.votes.first_contradicted.Given as goal

abbrev pub invariant-txns : goal.invariant-txns
invariant-txns l = record {
  within : l.left ≤ length l.txns;
  first : l.first ≡ first_in_rank l.view (filter (is_contradicted l.view) (drop l.left l.txns));
}

abbrev pub decreases-txns : goal.decreases-txns
decreases-txns l = l.left
