use Rattle.hr_schedule.proofs.PendingLemmas.{waits_for}
use Rattle.hr_schedule.proofs.TryLemmas.{last_is}
use Rattle.hr_schedule.proofs.laws.waiting_sessions.Goals as goal

pub returns-clause-waits : goal.returns-clause-waits
returns-clause-waits c f sessions s h begins w = waits_for f sessions h begins s w

pub returns-clause-last : goal.returns-clause-last
returns-clause-last c f sessions retries s h begins = last_is f sessions retries s h begins
