use Rattle.std.proofs.Common.{◌≡◌, ◌≤◌, take}
use Rattle.hr_run_report.specs.Convictions as convictions
use Rattle.hr_run_report.proofs.convictions.preempted_in.Given as goal

abbrev pub invariant-entries : goal.invariant-entries
invariant-entries l =
    (l.count ≡ convictions.preempted l.replica (take l.place l.history)) ×
    (l.count ≤ l.place)
