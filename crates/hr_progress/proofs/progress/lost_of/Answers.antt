use Rattle.std.proofs.Common.{sym, ap}
use Rattle.hr_progress.specs.Plain.{PlainProgress}
use Rattle.hr_progress.proofs.Lookups.{replica_found, replica_missing}
use Rattle.hr_progress.proofs.progress.lost_of.Goals as goal

pub returns-in-Some : goal.returns-in-Some
returns-in-Some c = sym (ap (λ (q : PlainProgress). q.lost) (replica_found c.args.replicas.now c.args.replica c.in-Some.progress.now c.in-Some.ensures.lookup.3.0 c.in-Some.ensures.lookup.1))

pub returns-in-None : goal.returns-in-None
returns-in-None c = sym (ap (λ (q : PlainProgress). q.lost) (replica_missing c.args.replicas.now c.args.replica c.in-None.ensures.lookup.3))
