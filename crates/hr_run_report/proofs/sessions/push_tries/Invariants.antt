use Rattle.std.proofs.Common.{◌≡◌, ◌++◌, take, string_bytes}
use Rattle.std.specs.List.{flat_map}
use Rattle.hr_run_report.specs.Report.{try_text}
use Rattle.hr_run_report.proofs.sessions.push_tries.Given as goal

abbrev pub invariant-tries : goal.invariant-tries
invariant-tries l = string_bytes l.out ≡ string_bytes l.fn.out ++ flat_map (try_text l.shepherd) (take l.tried-index l.tries)
