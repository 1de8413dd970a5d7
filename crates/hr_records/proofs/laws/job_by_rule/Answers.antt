use Rattle.hr_records.proofs.JobLemmas.{job_rule}
use Rattle.hr_records.proofs.laws.job_by_rule.Goals as goal

pub returns : goal.returns
returns c v r j e = job_rule v r j e
