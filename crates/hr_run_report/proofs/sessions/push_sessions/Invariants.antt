use Rattle.std.proofs.Common.{◌≡◌, ◌++◌, take, string_bytes}
use Rattle.hr_base.specs.Texts.{each_from}
use Rattle.hr_run_report.specs.Report.{session_text}
use Rattle.hr_run_report.proofs.sessions.push_sessions.Given as goal

abbrev pub invariant-sessions : goal.invariant-sessions
invariant-sessions l = string_bytes l.out ≡ string_bytes l.fn.out ++ each_from (session_text l.shepherd) 1 (take l.before l.tries)
