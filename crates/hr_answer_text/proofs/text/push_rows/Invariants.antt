use Rattle.std.proofs.Common.{◌≡◌, ◌++◌, take, string_bytes}
use Rattle.hr_answer_text.specs.Answers.{row_lines}
use Rattle.hr_answer_text.proofs.text.push_rows.Given as goal

abbrev pub invariant-rows : goal.invariant-rows
invariant-rows l = string_bytes l.out ≡ string_bytes l.fn.out ++ row_lines (take l.row-index l.rows)
