use Rattle.std.proofs.Common.{◌≡◌, ◌++◌, take, string_bytes}
use Rattle.hr_run_report.specs.Report.{rows_text}
use Rattle.hr_run_report.proofs.replicas.push_rows.Given as goal

abbrev pub invariant-rows : goal.invariant-rows
invariant-rows l = string_bytes l.out ≡ string_bytes l.fn.out ++ rows_text (take l.row-index l.rows)
