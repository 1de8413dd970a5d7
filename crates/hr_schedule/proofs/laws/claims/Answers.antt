use Rattle.hr_schedule.proofs.ClaimLemmas.{claims}
use Rattle.hr_schedule.proofs.laws.claims.Goals as goal

pub returns : goal.returns
returns c locking sc h dumps run = claims locking sc h dumps run
