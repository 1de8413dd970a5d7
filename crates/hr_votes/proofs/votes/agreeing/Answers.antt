use Rattle.std.proofs.Common.{◌≡◌, ◌+◌, ◌*◌, ◌-◌, ◌<◌, if◌then◌else◌, count_by, ap, ◌∙◌, arith}
use Rattle.std.specs.List.{range_with_len}
use Rattle.hr_history.specs.ReplicaNumbers.{replica_numbers}
use Rattle.hr_history.specs.Votes.{agrees}
use Rattle.hr_votes.proofs.Counts.{count_on, vote_counts, one_vote}
use Rattle.hr_votes.proofs.votes.agreeing.Goals as goal

pub replicas-preserved : goal.replicas-preserved
replicas-preserved c =
    let v = c.args.view.now in
    let t = c.args.txn in
    let p = agrees v t in
    let n = c.replicas.replica in
    let end = 2 * v.f + 1 in
    let within : n < end = omega (arith, c.replicas-test.true, c.f.ensures.value) in
    let vote : c.vote-count.result ≡ (if p n then 1 else 0) = c.vote-count.ensures ∙ ap (λ b. if b then 1 else 0) c.agrees.ensures in
    record {
      counted = vote_counts c.replicas.count c.vote-count.result (if p n then 1 else 0) (count_by p (range_with_len n (end - n))) (count_by p (range_with_len (n + 1) (end - (n + 1)))) (count_by p (replica_numbers v.f)) vote c.replicas.invariant.counted (count_on p n end within);
      few = omega (arith, c.replicas.invariant.few, one_vote (p n) c.vote-count.result vote);
    }
