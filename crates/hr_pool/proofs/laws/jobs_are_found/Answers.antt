use Rattle.hr_pool.proofs.Repeats.{rollback_found, firsts_found, repeats_found}
use Rattle.hr_pool.proofs.laws.jobs_are_found.Goals as goal

pub returns-clause-rollback : goal.returns-clause-rollback
returns-clause-rollback c v r = rollback_found v r

pub returns-clause-first : goal.returns-clause-first
returns-clause-first c v r = firsts_found v r

pub returns-clause-repeats : goal.returns-clause-repeats
returns-clause-repeats c v r sane = repeats_found v sane r
