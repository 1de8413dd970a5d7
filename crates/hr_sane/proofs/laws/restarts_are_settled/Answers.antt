use Rattle.hr_sane.proofs.Outcomes.{wrong_counts, commits_after}
use Rattle.hr_sane.proofs.laws.restarts_are_settled.Goals as goal

pub returns-clause-wrong : goal.returns-clause-wrong
returns-clause-wrong c f r told h lt = wrong_counts f r told h lt

pub returns-clause-at : goal.returns-clause-at
returns-clause-at c f r told n h lt at = commits_after f r told h lt n at
