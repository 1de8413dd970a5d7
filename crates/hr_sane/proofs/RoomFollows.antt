-- The room falls too with each entry that is due.
use Rattle.std.proofs.Common.{◌≡◌, ℕ, ◌+◌, ◌≤◌, cond, Option, Some, is_some, refl, ap, sym, ◌∙◌, arith}
use Rattle.hr_history.specs.declared.entry.Event.{Event}
use Rattle.hr_history.specs.declared.entry.Event.TheVariants as event
use Rattle.hr_history.specs.declared.job.Job.{Job}
use Rattle.hr_history.specs.ReplicaNumbers.{replica_numbers}
use Rattle.hr_history.specs.Replicas.{next_out}
use Rattle.hr_history.specs.Turn.{Turn}
use Rattle.hr_history.specs.View.{View, Progress}
use Rattle.hr_history.specs.Processed.{replica_in}
use Rattle.hr_history.specs.Rules.{due_in}
use Rattle.hr_history.specs.Step.{view_step}
use Rattle.hr_records.specs.ByRule.{Follows}
use Rattle.hr_moves.specs.Sane.{IsSane}
use Rattle.hr_moves.specs.Measure.{room_in, jobs_out_in}
use Rattle.hr_sane.proofs.Next.{replica_at}
use Rattle.hr_sane.proofs.Totals.{count_total, total_le, one_le}
use Rattle.hr_sane.proofs.MeasureLaws.{due_follows, due_fits, due_falls}

-- what follows from calls takes no job and replies to none
out_same : (v : View) (turn : Turn) (r : ℕ) (e : Event) (out : Option Job) → Follows v turn e → next_out r e out ≡ out
out_same v turn r (event.Decide t) out rule = refl
out_same v turn r (event.Refuse t c) out rule = refl
out_same v turn r (event.Convict q x) out rule = refl
out_same v turn r (event.NewPrimary q) out rule = refl
out_same v turn r (event.Preempt q t) out rule = refl
out_same v turn r (event.Begin session txn) out rule = absurd rule
out_same v turn r (event.Submit txn index stmt) out rule = absurd rule
out_same v turn r (event.AskCommit txn) out rule = absurd rule
out_same v turn r (event.AskRollback txn) out rule = absurd rule
out_same v turn r (event.Take q j) out rule = absurd rule
out_same v turn r (event.Give q told) out rule = absurd rule
out_same v turn r (event.Restarted q count) out rule = absurd rule
out_same v turn r event.Suspect out rule = absurd rule

module _ (v : View) (place asks : ℕ) (sane : IsSane v) (turn : Turn) (e : Event) (due : due_in v turn ≡ Some e) where
  abbrev now : View
  now = view_step v place asks e

  outs : (q : ℕ) → (replica_in now q).out ≡ (replica_in v q).out
  outs q = ap (λ (p : Progress). p.out) (replica_at v place asks e sane (due_fits v place asks sane turn e due) q) ∙ out_same v turn q e (replica_in v q).out (due_follows v place asks sane turn e due)

  jobs : jobs_out_in now ≤ jobs_out_in v
  jobs = omega (
    arith,
    count_total (λ r. is_some (replica_in now r).out) (replica_numbers v.f),
    count_total (λ r. is_some (replica_in v r).out) (replica_numbers v.f),
    total_le (λ r. cond (is_some (replica_in now r).out) 1 0) (λ r. cond (is_some (replica_in v r).out) 1 0) (replica_numbers v.f)
        (λ q. one_le (is_some (replica_in now q).out) (is_some (replica_in v q).out) (λ h. ap is_some (sym (outs q)) ∙ h)),
  )

  pub room_falls : room_in now + 1 ≤ room_in v
  room_falls = omega (arith, due_falls v place asks sane turn e due, jobs)
