-- What an allowed call shows.
use Rattle.std.proofs.Common.{◌≡◌, inl, inr, ℕ, ◌+◌, ◌*◌, ◌<◌, Bool, true, false, not, ◌&&◌, ◌==◌, nat_le, nat_lt, Option, Some, None, List, [], ◌∷◌, length, refl, ap, ◌∙◌, arith}
use Rattle.std.specs.List.{list_any}
use Rattle.std.proofs.lemmas.Bool.{and_parts, or_cases, or_left, or_right, eqb-true, eq-eqb, leb-true, and_from}
use Rattle.hr_base.specs.Lists.{has, one_to}
use Rattle.hr_base.specs.declared.limits.TheConstants.{MAX_SUBMITS, MAX_STATEMENTS}
use Rattle.hr_rel.specs.declared.stmt.Stmt.{Stmt}
use Rattle.hr_history.specs.declared.entry.Event.TheVariants as event
use Rattle.hr_history.specs.declared.job.Job.{Job}
use Rattle.hr_history.specs.declared.job.Job.TheVariants as job
use Rattle.hr_history.specs.declared.job.JobReply.{JobReply}
use Rattle.hr_history.specs.declared.job.JobReply.TheVariants as reply
use Rattle.hr_engine.specs.declared.reply.RunReply.TheVariants as run
use Rattle.hr_history.specs.History.{History}
use Rattle.hr_history.specs.Transactions.{begun, session_of, submits, submitted, phase_of, is_open}
use Rattle.hr_history.specs.Primary.{is_some_of}
use Rattle.hr_history.specs.Replicas.{out_at}
use Rattle.hr_history.specs.Replies.{reply_to, is_waiting, is_of}
use Rattle.hr_history.specs.View.{view_of}
use Rattle.hr_history.specs.Jobs.{job_in}
use Rattle.hr_history.specs.Faithful.{is_allowed, session_caller, owns, waits_for_reply, may_go_on_with, has_open, is_replica, is_job, fits_job, is_restart}
use Rattle.hr_records.specs.ByRule.{IsJobOf}
use Rattle.hr_records.proofs.Options.{in_range}
use Rattle.hr_records.proofs.Places.{numbered_born}
use Rattle.hr_records.proofs.SameEvents.{job_is}
use Rattle.hr_records.proofs.JobLemmas.{job_rule}

-- a session may go on with its transaction
pub record GoesOn (t : ℕ) (h : History) : Type 0 where
  pub session : ℕ
  pub its : session_of t h ≡ Some session
  pub is_open : is_open (phase_of t h) ≡ true
  pub idle : is_waiting (reply_to session h) ≡ false

not_false : (b : Bool) → not b ≡ true → b ≡ false
not_false true e = cc
not_false false e = refl

goes_by : (f c t : ℕ) (h : History) (o : Option ℕ) → session_of t h ≡ o → (owns f c o && is_open (phase_of t h) && not (waits_for_reply o h)) ≡ true → GoesOn t h
goes_by f c t h None e a = cc
goes_by f c t h (Some s) e a =
    let all = and_parts (owns f c (Some s) && is_open (phase_of t h)) (not (waits_for_reply (Some s) h)) a in
    record { session = s; its = e; is_open = (and_parts (owns f c (Some s)) (is_open (phase_of t h)) all.0).1; idle = not_false (is_waiting (reply_to s h)) all.1 }

pub may_go_on : (f c t : ℕ) (h : History) → may_go_on_with f c t h ≡ true → GoesOn t h
may_go_on f c t h a = goes_by f c t h (session_of t h) refl a

-- a session without an open transaction
any_of : (p : ℕ → Bool) (xs : List ℕ) (x : ℕ) → has xs x ≡ true → p x ≡ true → list_any p xs ≡ true
any_of p [] x h e = cc
any_of p (y ∷ xs) x h e =
    elim (or_cases (y == x) (has xs x) h) [ inl same ↦ or_left (p y) (list_any p xs) (ap p (eqb-true y x same) ∙ e) | inr later ↦ or_right (p y) (list_any p xs) (any_of p xs x later e) ]

all_closed : (b : Bool) → not b ≡ true → b ≡ true → ⊥
all_closed b e d = cc

pub none_open : (s t : ℕ) (h : History) → not (has_open s h) ≡ true → session_of t h ≡ Some s → is_open (phase_of t h) ≡ true → ⊥
none_open s t h a its o =
    let born = numbered_born (begun h) t s its in
    let mine : is_of s t h ≡ true = ap (is_some_of s) its ∙ eq-eqb s s refl in
    all_closed (has_open s h) a
    (any_of (λ u. is_open (phase_of u h) && is_of s u h) (one_to (length (begun h))) t (in_range 1 (length (begun h)) t born.0 (omega (arith, born.1))) (and_from (is_open (phase_of t h)) (is_of s t h) o mine))

module _ (f s c : ℕ) (h : History) where
  -- a Begin has the next number, and its session has no open transaction
  pub begin_allowed : (session txn : ℕ) → is_allowed f s c (event.Begin session txn) h ≡ true → (txn ≡ length (begun h) + 1) × (not (has_open session h) ≡ true)
  begin_allowed session txn a =
      let last = and_parts ((c == session_caller f session) && nat_le 1 session && nat_le session s && (txn == length (begun h) + 1)) (not (has_open session h)) a in
      let next = and_parts ((c == session_caller f session) && nat_le 1 session && nat_le session s) (txn == length (begun h) + 1) last.0 in
      (eqb-true txn (length (begun h) + 1) next.1, last.1)

  pub submit_allowed : (txn index : ℕ) (stmt : Stmt) → is_allowed f s c (event.Submit txn index stmt) h ≡ true → GoesOn txn h × (index ≡ length (submits txn h) + 1)
  submit_allowed txn index stmt a =
      let last = and_parts (may_go_on_with f c txn h && (index == length (submits txn h) + 1) && nat_lt (submitted h) MAX_SUBMITS) (nat_lt (length (submits txn h)) MAX_STATEMENTS) a in
      let more = and_parts (may_go_on_with f c txn h && (index == length (submits txn h) + 1)) (nat_lt (submitted h) MAX_SUBMITS) last.0 in
      let first = and_parts (may_go_on_with f c txn h) (index == length (submits txn h) + 1) more.0 in
      (may_go_on f c txn h first.0, eqb-true index (length (submits txn h) + 1) first.1)

  within : (r : ℕ) → is_replica f c r ≡ true → r < 2 * f + 1
  within r a = omega (arith, leb-true r (2 * f) (and_parts (nat_le r (2 * f)) _ a).0)

  pub take_allowed : (r : ℕ) (j : Job) → is_allowed f s c (event.Take r j) h ≡ true → (r < 2 * f + 1) × IsJobOf (view_of f h) r j
  take_allowed r j a =
      let parts = and_parts (is_replica f c r) (is_job j (job_in (view_of f h) r)) a in
      (within r parts.0, job_rule (view_of f h) r j (job_is j (job_in (view_of f h) r) parts.1))

  pub give_allowed : (r : ℕ) (told : JobReply) → is_allowed f s c (event.Give r told) h ≡ true → (r < 2 * f + 1) × (fits_job told (out_at r h) ≡ true)
  give_allowed r told a = let parts = and_parts (is_replica f c r) (fits_job told (out_at r h)) a in (within r parts.0, parts.1)

  restart_out : (o : Option Job) → is_restart o ≡ true → o ≡ Some job.Restart
  restart_out None a = cc
  restart_out (Some (job.Run t i)) a = cc
  restart_out (Some (job.Commit t)) a = cc
  restart_out (Some (job.Rollback t)) a = cc
  restart_out (Some job.Restart) a = refl

  pub restart_allowed : (r count : ℕ) → is_allowed f s c (event.Restarted r count) h ≡ true → (r < 2 * f + 1) × (out_at r h ≡ Some job.Restart)
  restart_allowed r count a = let parts = and_parts (is_replica f c r) (is_restart (out_at r h)) a in (within r parts.0, restart_out (out_at r h) parts.1)

-- a reply fits the job that is out
pub ran_out : (told : _) (o : Option Job) → fits_job (reply.Ran told) o ≡ true → (t : ℕ) × (i : ℕ) × (o ≡ Some (job.Run t i))
ran_out told (Some (job.Run t i)) a = (t, i, refl)
ran_out told (Some (job.Commit t)) a = by_reply told a
  where
    by_reply : (told : _) → fits_job (reply.Ran told) (Some (job.Commit t)) ≡ true → (u : ℕ) × (i : ℕ) × (Some (job.Commit t) ≡ Some (job.Run u i))
    by_reply (run.Done answer) a = cc
    by_reply (run.Blocked named) a = cc
    by_reply (run.Deadlock cycle) a = cc
    by_reply run.Lost a = cc
    by_reply run.NoMemory a = cc
ran_out told (Some (job.Rollback t)) a = by_reply told a
  where
    by_reply : (told : _) → fits_job (reply.Ran told) (Some (job.Rollback t)) ≡ true → (u : ℕ) × (i : ℕ) × (Some (job.Rollback t) ≡ Some (job.Run u i))
    by_reply (run.Done answer) a = cc
    by_reply (run.Blocked named) a = cc
    by_reply (run.Deadlock cycle) a = cc
    by_reply run.Lost a = cc
    by_reply run.NoMemory a = cc
ran_out told (Some job.Restart) a = by_reply told a
  where
    by_reply : (told : _) → fits_job (reply.Ran told) (Some job.Restart) ≡ true → (u : ℕ) × (i : ℕ) × (Some job.Restart ≡ Some (job.Run u i))
    by_reply (run.Done answer) a = cc
    by_reply (run.Blocked named) a = cc
    by_reply (run.Deadlock cycle) a = cc
    by_reply run.Lost a = cc
    by_reply run.NoMemory a = cc
ran_out told None a = by_reply told a
  where
    by_reply : (told : _) → fits_job (reply.Ran told) None ≡ true → (u : ℕ) × (i : ℕ) × (None ≡ Some (job.Run u i))
    by_reply (run.Done answer) a = cc
    by_reply (run.Blocked named) a = cc
    by_reply (run.Deadlock cycle) a = cc
    by_reply run.Lost a = cc
    by_reply run.NoMemory a = cc
