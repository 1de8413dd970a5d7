-- The tests for the same event and the same job are exact.
use Rattle.std.proofs.Common.{◌≡◌, ℕ, true, ◌==◌, ◌&&◌, Option, Some, None, refl, ap, sym}
use Rattle.std.proofs.lemmas.Bool.{and_parts, eqb-true}
use Rattle.hr_history.specs.declared.entry.Event.{Event}
use Rattle.hr_history.specs.declared.entry.Event.TheVariants as event
use Rattle.hr_history.specs.declared.job.Job.{Job}
use Rattle.hr_history.specs.declared.job.Job.TheVariants as job
use Rattle.hr_history.specs.declared.cause.CauseAt.{CauseAt}
use Rattle.hr_history.specs.declared.cause.CauseAt.TheVariants as cause
use Rattle.hr_history.specs.declared.cause.Why.{Why}
use Rattle.hr_history.specs.declared.cause.Why.TheVariants as why
use Rattle.hr_history.specs.declared.evidence.Evidence.{Evidence}
use Rattle.hr_history.specs.declared.evidence.Evidence.TheVariants as evidence
use Rattle.hr_history.specs.Faithful.{same_job, is_job, same_why, same_cause, same_evidence, same_event}

two_same : (a b c d : ℕ) → ((a == b) && (c == d)) ≡ true → (a ≡ b) × (c ≡ d)
two_same a b c d h = let p = and_parts (a == b) (c == d) h in (eqb-true a b p.0, eqb-true c d p.1)

why_exact : (a b : Why) → same_why a b ≡ true → a ≡ b
why_exact why.Convicted why.Convicted h = refl
why_exact why.Lost why.Lost h = refl
why_exact why.Suspected why.Suspected h = refl
why_exact _ _ h = cc

cause_exact : (a b : CauseAt) → same_cause a b ≡ true → a ≡ b
cause_exact (cause.Deadlock a) (cause.Deadlock b) h = ap cause.Deadlock (eqb-true a b h)
cause_exact (cause.PrimaryChanged p w a) (cause.PrimaryChanged q x b) h =
    let all = and_parts ((p == q) && same_why w x) (a == b) h in
    let first = and_parts (p == q) (same_why w x) all.0 in
    λ i. cause.PrimaryChanged (eqb-true p q first.0 i) (why_exact w x first.1 i) (eqb-true a b all.1 i)
cause_exact (cause.Differ n r a) (cause.Differ k s b) h =
    let all = and_parts ((n == k) && (r == s)) (a == b) h in
    let first = two_same n k r s all.0 in
    λ i. cause.Differ (first.0 i) (first.1 i) (eqb-true a b all.1 i)
cause_exact (cause.PrimaryMemory a) (cause.PrimaryMemory b) h = ap cause.PrimaryMemory (eqb-true a b h)
cause_exact _ _ h = cc

evidence_exact : (a b : Evidence) → same_evidence a b ≡ true → a ≡ b
evidence_exact (evidence.Contradicted t n) (evidence.Contradicted u k) h = let e = two_same t u n k h in λ i. evidence.Contradicted (e.0 i) (e.1 i)
evidence_exact (evidence.Differs t n) (evidence.Differs u k) h = let e = two_same t u n k h in λ i. evidence.Differs (e.0 i) (e.1 i)
evidence_exact (evidence.BadBlocked t) (evidence.BadBlocked u) h = ap evidence.BadBlocked (eqb-true t u h)
evidence_exact (evidence.BadDeadlock t) (evidence.BadDeadlock u) h = ap evidence.BadDeadlock (eqb-true t u h)
evidence_exact (evidence.BadRestart m) (evidence.BadRestart n) h = ap evidence.BadRestart (eqb-true m n h)
evidence_exact _ _ h = cc

pub event_exact : (d e : Event) → same_event d e ≡ true → d ≡ e
event_exact (event.Decide t) (event.Decide u) h = ap event.Decide (eqb-true t u h)
event_exact (event.Refuse t c) (event.Refuse u d) h =
    let p = and_parts (t == u) (same_cause c d) h in
    λ i. event.Refuse (eqb-true t u p.0 i) (cause_exact c d p.1 i)
event_exact (event.Convict r e) (event.Convict s g) h =
    let p = and_parts (r == s) (same_evidence e g) h in
    λ i. event.Convict (eqb-true r s p.0 i) (evidence_exact e g p.1 i)
event_exact (event.NewPrimary r) (event.NewPrimary s) h = ap event.NewPrimary (eqb-true r s h)
event_exact (event.Preempt r t) (event.Preempt s u) h = let e = two_same r s t u h in λ i. event.Preempt (e.0 i) (e.1 i)
event_exact _ _ h = cc

job_exact : (j k : Job) → same_job j k ≡ true → k ≡ j
job_exact (job.Run t n) (job.Run u k) h = let e = two_same t u n k h in λ i. job.Run (sym e.0 i) (sym e.1 i)
job_exact (job.Commit t) (job.Commit u) h = ap job.Commit (sym (eqb-true t u h))
job_exact (job.Rollback t) (job.Rollback u) h = ap job.Rollback (sym (eqb-true t u h))
job_exact job.Restart job.Restart h = refl
job_exact _ _ h = cc

pub job_is : (j : Job) (o : Option Job) → is_job j o ≡ true → o ≡ Some j
job_is j None h = cc
job_is j (Some k) h = ap Some (job_exact j k h)
