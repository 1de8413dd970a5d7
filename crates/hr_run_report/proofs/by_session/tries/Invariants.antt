use Rattle.std.proofs.Common.{◌≡◌, map}
use Rattle.hr_base.specs.Lists.{one_to}
use Rattle.hr_ledger.specs.Chronicle.{history_in}
use Rattle.hr_schedule.specs.Tries.{tries_of}
use Rattle.hr_run_report.proofs.by_session.tries.Given as goal

abbrev pub invariant-sessions : goal.invariant-sessions
invariant-sessions l = l.all ≡ map (λ s. tries_of l.retries s (history_in l.shepherd)) (one_to l.before)
