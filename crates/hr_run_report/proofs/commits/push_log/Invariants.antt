use Rattle.std.proofs.Common.{◌≡◌, ◌++◌, take, string_bytes}
use Rattle.hr_base.specs.Texts.{each_from}
use Rattle.hr_run_report.specs.Report.{commit_text}
use Rattle.hr_run_report.proofs.commits.push_log.Given as goal

abbrev pub invariant-log : goal.invariant-log
invariant-log l = string_bytes l.out ≡ string_bytes l.fn.out ++ each_from (commit_text l.shepherd l.tries) 1 (take l.before l.log)
