use Rattle.hr_history.specs.View.{view_of}
use Rattle.hr_sane.proofs.Outcomes.{accepts, differs, undecided}
use Rattle.hr_sane.proofs.laws.votes_are_told.Goals as goal

pub returns-clause-accept : goal.returns-clause-accept
returns-clause-accept c f t h = accepts (view_of f h) t

pub returns-clause-differ : goal.returns-clause-differ
returns-clause-differ c f t index by h = differs (view_of f h) t index by

pub returns-clause-undecided : goal.returns-clause-undecided
returns-clause-undecided c f t h = undecided (view_of f h) t
