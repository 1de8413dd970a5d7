use Rattle.std.proofs.Common.{map, sym, ◌∙◌}
use Rattle.hr_progress.specs.Plain.{plain_progress, live_of}
use Rattle.hr_progress.proofs.Rounds.{find_on}
use Rattle.hr_progress.proofs.progress.first_live.Goals as goal

pub replicas-preserved : goal.replicas-preserved
replicas-preserved c = sym (find_on (live_of (map plain_progress c.args.replicas.now)) c.replicas.replica c.args.to c.replicas-test.true (sym c.is_live.ensures ∙ c.if-is_live.false)) ∙ c.replicas.invariant
