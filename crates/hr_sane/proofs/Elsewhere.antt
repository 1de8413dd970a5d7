-- What an event that speaks of another replica leaves as it was.
use Rattle.std.proofs.Common.{◌≡◌, ℕ, Bool, false, ◌&&◌, ◌||◌, ◌==◌, if◌then◌else◌, Option, Some, None, List, refl, ap}
use Rattle.hr_history.specs.declared.entry.Event.{Event}
use Rattle.hr_history.specs.declared.entry.Event.TheVariants as event
use Rattle.hr_history.specs.declared.job.Job.{Job}
use Rattle.hr_history.specs.declared.job.Job.TheVariants as job
use Rattle.hr_history.specs.Replicas.{any_stmt, next_out, next_convicted, call_if, restart_if}
use Rattle.hr_history.specs.Attempts.{next_preempted, and_dispatched, next_dispatched}
use Rattle.hr_history.specs.View.{View}
use Rattle.hr_history.specs.Step.{out_in, call_in}

-- the event speaks of no replica, or of another one
abbrev pub IsElsewhere : ℕ → Event → Type 0
IsElsewhere r (event.Take q j) = (q == r) ≡ false
IsElsewhere r (event.Give q told) = (q == r) ≡ false
IsElsewhere r (event.Restarted q count) = (q == r) ≡ false
IsElsewhere r (event.Convict q x) = (q == r) ≡ false
IsElsewhere r (event.Preempt q t) = (q == r) ≡ false
IsElsewhere r _ = Unit {0}

module _ (r : ℕ) where
  pub no_call : (v : View) (e : Event) → IsElsewhere r e → call_in v r e ≡ None
  no_call v (event.Give q told) h = ap (λ b. call_if b r told (out_in v) (λ t i. any_stmt)) h
  no_call v (event.Restarted q count) h = ap (λ b. restart_if b r count (out_in v)) h
  no_call v _ h = refl

  pub out_stays : (e : Event) (out : Option Job) → IsElsewhere r e → next_out r e out ≡ out
  out_stays (event.Take q j) out h = ap (λ b. if b then Some j else out) h
  out_stays (event.Give q told) out h = ap (λ b. if b then None else out) h
  out_stays (event.Restarted q count) out h = ap (λ b. if b then None else out) h
  out_stays _ out h = refl

  pub convicted_stays : (e : Event) (was : Bool) → IsElsewhere r e → next_convicted r e was ≡ was
  convicted_stays (event.Convict q x) was h = ap (λ b. b || was) h
  convicted_stays _ was h = refl

  pub entries_stay : (e : Event) (ts : List ℕ) → IsElsewhere r e → next_dispatched r e ts ≡ ts
  entries_stay (event.Take q (job.Run t i)) ts h = ap (λ b. if b then and_dispatched t ts else ts) h
  entries_stay _ ts h = refl

  pub preempted_stays : (t : ℕ) (e : Event) (touched was : Bool) → IsElsewhere r e → next_preempted r t e None touched was ≡ was
  preempted_stays t (event.Preempt q u) touched was h = ap (λ b. (b && (u == t) && touched) || was) h
  preempted_stays t _ touched was h = refl
