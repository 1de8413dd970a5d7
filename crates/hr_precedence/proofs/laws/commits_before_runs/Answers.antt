use Rattle.hr_history.specs.View.{view_of}
use Rattle.hr_precedence.proofs.JobOrder.{no_commit}
use Rattle.hr_precedence.proofs.laws.commits_before_runs.Goals as goal

pub returns : goal.returns
returns c f r t i u h is next = no_commit (view_of f h) r t i u is next
