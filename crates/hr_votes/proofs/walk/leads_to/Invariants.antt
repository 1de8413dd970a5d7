use Rattle.std.proofs.Common.{◌-◌}
use Rattle.hr_base.specs.declared.limits.TheConstants.{MAX_SUBMITS}
use Rattle.hr_history.specs.Processed.{wait_in}
use Rattle.hr_moves.specs.Kept.{entries_in}
use Rattle.hr_votes.specs.Walked.{found_of, IsWalk}
use Rattle.hr_votes.proofs.Chained.{IsSearch}
use Rattle.hr_votes.proofs.walk.leads_to.Given as goal

abbrev pub invariant-walk : goal.invariant-walk
invariant-walk l = record {
  walk : IsWalk (entries_in l.view l.replica) l.walk;
  searched : IsSearch (wait_in l.view l.replica) (entries_in l.view l.replica) l.named l.asker (found_of l.walk) l.next;
}

abbrev pub decreases-walk : goal.decreases-walk
decreases-walk l = MAX_SUBMITS - l.next
