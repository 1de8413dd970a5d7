use Rattle.std.proofs.Common.{rules, ◌≡◌, Some, slice_get}
use Rattle.std.specs.List.{zip}
use Rattle.hr_run_report.specs.Report.{replica_text}
use Rattle.hr_run_report.proofs.Steps.{none_written, first_missing, second_missing, both_there}
use Rattle.hr_run_report.proofs.replicas.push_replica.Goals as goal

pub returns-in_default : goal.returns-in_default
returns-in_default c = none_written (replica_text c.args.shepherd.now c.args.catalog.now) c.args.replica _ _ (first_missing c.args.kinds.now c.args.dumps.now c.args.replica (search rules))

pub returns-in_default-dump_at : goal.returns-in_default-dump_at
returns-in_default-dump_at c = none_written (replica_text c.args.shepherd.now c.args.catalog.now) c.args.replica _ _ (second_missing c.args.kinds.now c.args.dumps.now c.args.replica (search rules))

pub returns : goal.returns
returns c =
    let there : slice_get (zip c.args.kinds.now c.args.dumps.now) c.args.replica ≡ Some (c.in-Some.kind.now, c.in-Some-dump_at.tables.now) =
    both_there c.args.kinds.now c.args.dumps.now c.args.replica _ _ (search rules) (search rules) in
    rw there (search rules)
