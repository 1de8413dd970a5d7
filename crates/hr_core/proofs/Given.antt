-- Whom a reply is given to.
use Rattle.std.proofs.Common.{◌≡◌, ℕ, ◌+◌, ◌≤◌, Bool, true, false, ◌&&◌, ◌==◌, Option, Some, None, List, [], ◌∷◌, ◌++◌, length, refl, ap, sym, ◌∙◌, subst, arith}
use Rattle.std.specs.Prelude.{option_and_then}
use Rattle.std.specs.Option.{option_map}
use Rattle.std.proofs.Common.{◌*◌, ◌<◌, nat_le}
use Rattle.std.proofs.lemmas.Bool.{eq-eqb, and_parts, leb-true}
use Rattle.hr_history.specs.Faithful.{is_replica, replica_caller, fits_job}
use Rattle.hr_history.specs.Processed.{replica_in}
use Rattle.hr_history.specs.View.{Progress}
use Rattle.hr_history.proofs.StepLemmas.{replica_lookup}
use Rattle.hr_sane.proofs.Begun.{begun_sane}
use Rattle.hr_ledger.specs.Chronicle.{Chronicle, history_in, view_in, HasBegun, IsAllowed}
use Rattle.hr_engine.specs.declared.reply.RunReply.{RunReply}
use Rattle.hr_engine.specs.declared.reply.RunReply.TheVariants as run
use Rattle.hr_history.specs.declared.entry.Event.TheVariants as event
use Rattle.hr_history.specs.declared.job.JobReply.{JobReply}
use Rattle.hr_history.specs.declared.job.JobReply.TheVariants as reply
use Rattle.hr_history.specs.declared.reply.Reply.{Reply}
use Rattle.hr_history.specs.declared.reply.Reply.TheVariants as told
use Rattle.hr_history.specs.Turn.{replies_to_runs, next_replies}
use Rattle.hr_progress.specs.GivenTo.{given_by}
use Rattle.hr_ledger.proofs.Extended.{extends_told, last_is}
use Rattle.hr_core.specs.declared.seat.Seat.{Seat}
use Rattle.hr_core.specs.declared.seat.Seat.TheVariants as seat
use Rattle.hr_core.specs.Seats.{answer_in, state_kept, first_told, change_of}
use Rattle.hr_core.proofs.Stays.{state_stays}
use Rattle.hr_core.proofs.Steps.{tell_step}
use Rattle.std.proofs.lemmas.List.FromFn.{length-map-range_with_len}
use Rattle.hr_base.specs.Lists.{when}
use Rattle.hr_rel.specs.declared.answer.Answer.{Answer}
use Rattle.hr_history.specs.declared.job.Job.{Job}
use Rattle.hr_history.specs.declared.job.Job.TheVariants as job
use Rattle.hr_history.specs.History.{History}
use Rattle.hr_history.specs.Given.{given_to, found, is_run_of, is_primary_run}
use Rattle.hr_history.specs.Primary.{is_some_of, primary_of}
use Rattle.hr_history.specs.Replicas.{out_at}
use Rattle.hr_history.specs.Replies.{ReplyState, NothingAsked, Waiting, Replied, is_of, gives_to, reply_if, reply_by}
use Rattle.hr_history.specs.Transactions.{begun, session_of, phase_of, is_open}
use Rattle.hr_history.specs.View.{View, TxnState, view_of, txn_state}
use Rattle.hr_history.specs.Processed.{txn_in, phase_in}
use Rattle.hr_history.proofs.StepLemmas.{txn_lookup}
use Rattle.hr_moves.specs.Moves.{is_given}

-- of three tests, in another order
turned : (a b c d : Bool) → a ≡ true → ((a && d) && b && c) ≡ (b && c && d)
turned true true true true e = refl
turned true true true false e = refl
turned true true false true e = refl
turned true true false false e = refl
turned true false true true e = refl
turned true false true false e = refl
turned true false false true e = refl
turned true false false false e = refl
turned false b c d e = cc e

module _ (f r t i : ℕ) (h : History) (out : out_at r h ≡ Some (job.Run t i)) (low : 1 ≤ t) (high : t ≤ length (begun h)) where
  abbrev v : View
  v = view_of f h

  its : txn_in v t ≡ txn_state h t
  its = txn_lookup f t h low high

  -- the view tells as the history does whether an answer is given
  same_test : is_primary_run t (length (given_to t h) + 1) r (found t h) ≡ is_given v r t i
  same_test =
      ap (λ o. is_run_of t (length (given_to t h) + 1) o && is_some_of r (primary_of h) && is_open (phase_of t h)) out
      ∙ turned (t == t) (is_some_of r (primary_of h)) (is_open (phase_of t h)) (i == length (given_to t h) + 1) (eq-eqb t t refl)
      ∙ ap (λ (x : TxnState). is_some_of r (primary_of h) && is_open x.phase && (i == length x.given + 1)) (sym its)

  -- so it is told to the session of the transaction, if it is given
  pub told_if_given : (q : ℕ) → gives_to q r (out_at r h) h ≡ (is_of q t h && is_given v r t i)
  told_if_given q = ap (λ o. gives_to q r o h) out ∙ ap (λ b. is_of q t h && b) same_test

-- ---- so it is told

when_given : (q t : ℕ) (h : History) (b : Bool) → is_some_of q (option_and_then (λ u. session_of u h) (when b t)) ≡ (is_of q t h && b)
when_given q t h true = and_true (is_of q t h)
  where
    and_true : (x : Bool) → x ≡ (x && true)
    and_true true = refl
    and_true false = refl
when_given q t h false = and_none (is_of q t h)
  where
    and_none : (x : Bool) → false ≡ (x && false)
    and_none true = refl
    and_none false = refl

kept_state : (reply : Reply) (state : ReplyState) → state ≡ reply_if false reply state
kept_state reply NothingAsked = refl
kept_state reply Waiting = refl
kept_state reply (Replied first) = refl

module _ (f r : ℕ) (h : History) (q : ℕ) (s : Seat) (state : ReplyState) (was : state_kept (replies_to_runs h) s ≡ Some state) where
  abbrev rs : List RunReply
  rs = replies_to_runs h

  abbrev to_whom : Option Job → JobReply → Option ℕ
  to_whom out told = option_and_then (λ u. session_of u h) (given_by (view_of f h) r out told)

  abbrev Told : Option Job → JobReply → Type 0
  Told out told = state_kept (next_replies (event.Give r told) rs) (change_of (to_whom out told) (first_told (seat.Answered (length rs))) q s) ≡ Some (reply_by q r told h state)

  -- another reply tells nobody
  stays : (told : JobReply) → state_kept (next_replies (event.Give r told) rs) s ≡ Some state
  stays told = state_stays rs (next_replies (event.Give r told) rs) (extends_told r told rs) s state was

  unanswered : (answer : Answer) → gives_to q r (out_at r h) h ≡ false → state_kept (next_replies (event.Give r (reply.Ran (run.Done answer))) rs) s ≡ Some (reply_by q r (reply.Ran (run.Done answer)) h state)
  unanswered answer none = stays (reply.Ran (run.Done answer)) ∙ ap Some (kept_state (told.Answered answer) state ∙ ap (λ b. reply_if b (told.Answered answer) state) (sym none))

  answered : (answer : Answer) (t i : ℕ) → out_at r h ≡ Some (job.Run t i) → 1 ≤ t → t ≤ length (begun h) → Told (Some (job.Run t i)) (reply.Ran (run.Done answer))
  answered answer t i out low high =
      let us = rs ++ run.Done answer ∷ [] in
      let b = is_given (view_of f h) r t i in
      tell_step us (option_and_then (λ u. session_of u h) (when b t)) q s (seat.Answered (length rs)) (told.Answered answer) state
      (ap (option_map (λ (x : RunReply). Replied (told.Answered (answer_in (Some x))))) (last_is rs (run.Done answer))) (stays (reply.Ran (run.Done answer)))
      ∙ ap (λ c. Some (reply_if c (told.Answered answer) state)) (when_given q t h b ∙ sym (told_if_given f r t i h out low high q))

  pub give_told : (out : Option Job) (told : JobReply) → out_at r h ≡ out → ((t i : ℕ) → out ≡ Some (job.Run t i) → (1 ≤ t) × (t ≤ length (begun h))) → Told out told
  give_told (Some (job.Run t i)) (reply.Ran (run.Done answer)) is known = let born = known t i refl in answered answer t i is born.0 born.1
  give_told None (reply.Ran (run.Done answer)) is known = unanswered answer (ap (λ o. gives_to q r o h) is)
  give_told (Some (job.Commit t)) (reply.Ran (run.Done answer)) is known = unanswered answer (ap (λ o. gives_to q r o h) is)
  give_told (Some (job.Rollback t)) (reply.Ran (run.Done answer)) is known = unanswered answer (ap (λ o. gives_to q r o h) is)
  give_told (Some job.Restart) (reply.Ran (run.Done answer)) is known = unanswered answer (ap (λ o. gives_to q r o h) is)
  give_told None (reply.Ran (run.Blocked named)) is known = stays (reply.Ran (run.Blocked named))
  give_told None (reply.Ran (run.Deadlock cycle)) is known = stays (reply.Ran (run.Deadlock cycle))
  give_told None (reply.Ran run.Lost) is known = stays (reply.Ran run.Lost)
  give_told None (reply.Ran run.NoMemory) is known = stays (reply.Ran run.NoMemory)
  give_told None (reply.Ended x) is known = stays (reply.Ended x)
  give_told None reply.StillLost is known = stays reply.StillLost
  give_told (Some (job.Run t i)) (reply.Ran (run.Blocked named)) is known = stays (reply.Ran (run.Blocked named))
  give_told (Some (job.Run t i)) (reply.Ran (run.Deadlock cycle)) is known = stays (reply.Ran (run.Deadlock cycle))
  give_told (Some (job.Run t i)) (reply.Ran run.Lost) is known = stays (reply.Ran run.Lost)
  give_told (Some (job.Run t i)) (reply.Ran run.NoMemory) is known = stays (reply.Ran run.NoMemory)
  give_told (Some (job.Run t i)) (reply.Ended x) is known = stays (reply.Ended x)
  give_told (Some (job.Run t i)) reply.StillLost is known = stays reply.StillLost
  give_told (Some (job.Commit t)) (reply.Ran (run.Blocked named)) is known = stays (reply.Ran (run.Blocked named))
  give_told (Some (job.Commit t)) (reply.Ran (run.Deadlock cycle)) is known = stays (reply.Ran (run.Deadlock cycle))
  give_told (Some (job.Commit t)) (reply.Ran run.Lost) is known = stays (reply.Ran run.Lost)
  give_told (Some (job.Commit t)) (reply.Ran run.NoMemory) is known = stays (reply.Ran run.NoMemory)
  give_told (Some (job.Commit t)) (reply.Ended x) is known = stays (reply.Ended x)
  give_told (Some (job.Commit t)) reply.StillLost is known = stays reply.StillLost
  give_told (Some (job.Rollback t)) (reply.Ran (run.Blocked named)) is known = stays (reply.Ran (run.Blocked named))
  give_told (Some (job.Rollback t)) (reply.Ran (run.Deadlock cycle)) is known = stays (reply.Ran (run.Deadlock cycle))
  give_told (Some (job.Rollback t)) (reply.Ran run.Lost) is known = stays (reply.Ran run.Lost)
  give_told (Some (job.Rollback t)) (reply.Ran run.NoMemory) is known = stays (reply.Ran run.NoMemory)
  give_told (Some (job.Rollback t)) (reply.Ended x) is known = stays (reply.Ended x)
  give_told (Some (job.Rollback t)) reply.StillLost is known = stays reply.StillLost
  give_told (Some job.Restart) (reply.Ran (run.Blocked named)) is known = stays (reply.Ran (run.Blocked named))
  give_told (Some job.Restart) (reply.Ran (run.Deadlock cycle)) is known = stays (reply.Ran (run.Deadlock cycle))
  give_told (Some job.Restart) (reply.Ran run.Lost) is known = stays (reply.Ran run.Lost)
  give_told (Some job.Restart) (reply.Ran run.NoMemory) is known = stays (reply.Ran run.NoMemory)
  give_told (Some job.Restart) (reply.Ended x) is known = stays (reply.Ended x)
  give_told (Some job.Restart) reply.StillLost is known = stays reply.StillLost

-- what is out at the replica of an allowed reply, and of whom a run is
pub out_known : (l : Chronicle) (r : ℕ) (told : JobReply) (caller : ℕ) → HasBegun l → IsAllowed caller (event.Give r told) l
    → ((replica_in (view_in l) r).out ≡ out_at r (history_in l)) × ((t i : ℕ) → out_at r (history_in l) ≡ Some (job.Run t i) → (1 ≤ t) × (t ≤ length (begun (history_in l))))
out_known l r told caller has allowed =
    let h = history_in l in
    let within : r < 2 * l.f + 1 = omega (arith, leb-true r (2 * l.f) (and_parts (nat_le r (2 * l.f)) (caller == replica_caller r) (and_parts (is_replica l.f caller r) (fits_job told (out_at r h)) allowed).0).0) in
    let out = ap (λ (p : Progress). p.out) (replica_lookup l.f r h within) in
    let sane = begun_sane l.f l.sessions h has in (
      out,
      λ t i is.
          let may = sane.out r (job.Run t i) (out ∙ is) in
          let its = sane.known r t may.1 in
          (its.0, omega (arith, its.1, length-map-range_with_len (txn_state h) 1 (length (begun h)))),
    )
