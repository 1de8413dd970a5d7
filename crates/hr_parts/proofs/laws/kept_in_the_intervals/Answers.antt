use Rattle.std.proofs.Common.{List, [], ap, ◌∙◌}
use Rattle.std.specs.Prelude.{Option, unwrap_or}
use Rattle.hr_rel.specs.declared.value.Value.{Value}
use Rattle.hr_rel.specs.Database.{value_at}
use Rattle.hr_parts.proofs.KeyParts.{first_value, select_has, row_has}
use Rattle.hr_parts.proofs.laws.kept_in_the_intervals.Goals as goal

pub returns-clause-select : goal.returns-clause-select
returns-clause-select c s rows h entry row k there key fits =
    select_has entry s rows k (ap (λ (o : Option (List Value)). value_at 0 (unwrap_or o [])) there ∙ first_value row k key) fits h

pub returns-clause-changed : goal.returns-clause-changed
returns-clause-changed c condition row k h key fits = row_has condition row k key fits h
