use Rattle.std.proofs.Common.{◌≡◌, ◌≤◌, take}
use Rattle.hr_summary.specs.Summary as summary
use Rattle.hr_summary.proofs.counts.counted.Given as goal

abbrev pub invariant-entries : goal.invariant-entries
invariant-entries l =
    (l.refused ≡ summary.refused (take l.place l.history)) ×
    (l.preempted ≡ summary.preempted (take l.place l.history)) ×
    (l.refused ≤ l.place) ×
    (l.preempted ≤ l.place)
