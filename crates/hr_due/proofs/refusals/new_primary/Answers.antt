use Rattle.std.proofs.Common.{◌≡◌, ℕ, ◌+◌, ◌*◌, ◌≤◌, Some, sym, ◌∙◌, arith}
use Rattle.hr_history.specs.Processed.{live_in, candidate_in}
use Rattle.hr_history.specs.ReplicaNumbers.{replica_numbers, replicas_after}
use Rattle.hr_history.specs.View.{View}
use Rattle.hr_moves.specs.Sane.{IsReplica}
use Rattle.hr_records.proofs.Options.{find_has, has_round, has_range}
use Rattle.hr_due.proofs.refusals.new_primary.Goals as goal

near : (v : View) (r : ℕ) → candidate_in v ≡ Some r → IsReplica v r
near v r found =
    let is = has_round (v.search_after + 1) (replica_numbers v.f) r (find_has (live_in v) (replicas_after v.f v.search_after) r found).0 in
    omega (arith, (has_range 0 (2 * v.f + 1) r is).1)

pub caught_up-requires : goal.caught_up-requires
caught_up-requires c = near c.args.view.now c.in-None-Some.replica (sym c.candidate.ensures ∙ c.in-None-Some.is-1)
