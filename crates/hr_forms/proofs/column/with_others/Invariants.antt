use Rattle.std.proofs.Common.{◌≡◌, length, map}
use Rattle.hr_forms.specs.Words.{all_there}
use Rattle.hr_forms.specs.Columns.{column_of, with_others}
use Rattle.hr_forms.proofs.Steps.{behind}
use Rattle.hr_forms.proofs.column.with_others.Given as goal

abbrev pub invariant-pieces : goal.invariant-pieces
invariant-pieces l = behind l.columns (all_there (map column_of l.rest)) ≡ with_others l.fn.key l.fn.pieces

abbrev pub decreases-pieces : goal.decreases-pieces
decreases-pieces l = length l.rest
