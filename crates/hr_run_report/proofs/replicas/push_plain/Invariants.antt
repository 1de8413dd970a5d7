use Rattle.std.proofs.Common.{◌≡◌, ◌++◌, take, string_bytes}
use Rattle.hr_run_report.proofs.replicas.push_plain.Given as goal

abbrev pub invariant-bytes : goal.invariant-bytes
invariant-bytes l = string_bytes l.out ≡ string_bytes l.fn.out ++ take l.byte-index l.bytes
