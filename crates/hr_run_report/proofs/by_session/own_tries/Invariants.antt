use Rattle.std.proofs.Common.{◌≡◌, take}
use Rattle.hr_base.specs.Lists.{last_of}
use Rattle.hr_history.specs.History.{history_of}
use Rattle.hr_schedule.specs.Tries.{tries_of}
use Rattle.hr_run_report.proofs.TryLemmas.{last_refused, phases_in}
use Rattle.hr_run_report.proofs.by_session.own_tries.Given as goal

abbrev pub invariant-entries : goal.invariant-entries
invariant-entries l =
    (l.own ≡ tries_of l.retries l.session (history_of (take l.place l.history))) ×
    (l.refused ≡ last_refused (last_of l.own) (phases_in (history_of (take l.place l.history))))
