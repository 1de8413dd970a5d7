use Rattle.std.proofs.Common.{◌≡◌, drop}
use Rattle.hr_forms.proofs.Steps.{behind}
use Rattle.hr_answer_reader.specs.Answers.{rows_in}
use Rattle.hr_answer_reader.proofs.answer.rows_in.Given as goal

abbrev pub invariant-rows : goal.invariant-rows
invariant-rows l = (behind l.rows (rows_in l.left l.lines) ≡ rows_in l.fn.count l.fn.lines) × (drop l.left l.lines ≡ drop l.fn.count l.fn.lines)

abbrev pub decreases-rows : goal.decreases-rows
decreases-rows l = l.left
