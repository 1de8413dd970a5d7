use Rattle.std.proofs.Common.{◌≡◌, ◌++◌, take, string_bytes}
use Rattle.hr_base.specs.Texts.{each_from}
use Rattle.hr_history.specs.Processed.{given_in}
use Rattle.hr_run_report.specs.Report.{numbered_answer}
use Rattle.hr_run_report.proofs.commits.push_answers.Given as goal

abbrev pub invariant-answers : goal.invariant-answers
invariant-answers l = string_bytes l.out ≡ string_bytes l.fn.out ++ each_from numbered_answer 1 (take l.before (given_in l.view l.txn))
