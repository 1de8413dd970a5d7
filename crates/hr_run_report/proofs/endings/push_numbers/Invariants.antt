use Rattle.std.proofs.Common.{◌≡◌, ◌++◌, take, string_bytes}
use Rattle.hr_run_report.specs.Endings.{numbers_text}
use Rattle.hr_run_report.proofs.endings.push_numbers.Given as goal

abbrev pub invariant-numbers : goal.invariant-numbers
invariant-numbers l = string_bytes l.out ≡ string_bytes l.fn.out ++ numbers_text (take l.number-index l.numbers)
