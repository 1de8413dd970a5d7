use Rattle.hr_records.proofs.RuleLemmas.{was_due, by_rule}
use Rattle.hr_records.proofs.laws.follows_by_rule.Goals as goal

pub returns-clause-due : goal.returns-clause-due
returns-clause-due c f sessions e before begun n = was_due f sessions e before begun n

pub returns-clause-rule : goal.returns-clause-rule
returns-clause-rule c f sessions e before begun n = by_rule f sessions e before begun n
