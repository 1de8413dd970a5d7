use Rattle.std.proofs.Common.{◌≡◌, ◌++◌, take, string_bytes}
use Rattle.hr_answer_text.specs.Answers.{more_values}
use Rattle.hr_answer_text.proofs.text.push_more_values.Given as goal

abbrev pub invariant-values : goal.invariant-values
invariant-values l = string_bytes l.out ≡ string_bytes l.fn.out ++ more_values (take l.value-index l.values)
