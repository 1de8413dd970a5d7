use Rattle.hr_schedule.proofs.NextLemmas.{next_allowed}
use Rattle.hr_schedule.proofs.laws.next_calls.Goals as goal

pub returns : goal.returns
returns c sc s h e begins first last got = next_allowed sc s h begins first last e got
