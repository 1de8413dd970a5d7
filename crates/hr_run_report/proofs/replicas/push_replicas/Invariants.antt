use Rattle.std.proofs.Common.{◌≡◌, ◌++◌, take, string_bytes}
use Rattle.std.specs.List.{zip}
use Rattle.hr_base.specs.Texts.{each_from}
use Rattle.hr_run_report.specs.Report.{replica_text}
use Rattle.hr_run_report.proofs.replicas.push_replicas.Given as goal

abbrev pub invariant-replicas : goal.invariant-replicas
invariant-replicas l = string_bytes l.out ≡ string_bytes l.fn.out ++ each_from (replica_text l.shepherd l.catalog) 0 (take l.replica (zip l.kinds l.dumps))
