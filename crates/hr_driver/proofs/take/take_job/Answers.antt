use Rattle.hr_driver.proofs.SuspectLemmas.{taken_same, taken_tries}
use Rattle.hr_driver.proofs.take.take_job.Goals as goal

pub returns-in-Ok-clause-journals : goal.returns-in-Ok-clause-journals
returns-in-Ok-clause-journals c = taken_same _ _ _ _ _ (c.in-Ok.ensures.ok)

pub returns-in-Ok-clause-tries : goal.returns-in-Ok-clause-tries
returns-in-Ok-clause-tries c = taken_tries _ _ _ _ _ (c.in-Ok.ensures.ok)
