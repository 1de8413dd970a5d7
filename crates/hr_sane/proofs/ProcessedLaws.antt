-- How many of the log are processed at a replica, after an event.
use Rattle.std.proofs.Common.{◌≡◌, ◌⊎◌, inl, inr, ℕ, zero, suc, ◌+◌, ◌<◌, ◌≤◌, Bool, true, false, ◌&&◌, ◌==◌, nat_le, cond, if◌then◌else◌, Option, Some, None, Ok, Err, List, [], ◌∷◌, ◌++◌, length, drop, take_while, slice_get, refl, ap, sym, ◌∙◌, arith, IsTrue}
use Rattle.std.proofs.lemmas.Bool.{or_cases, or_left, or_right, eqb-true, ne_eqb, le-leb, leb-true}
use Rattle.std.proofs.lemmas.List.Sums.{take_while-cons}
use Rattle.hr_base.specs.Counters.{shown}
use Rattle.hr_engine.specs.Journal.{Call, Ran, Committed, RolledBack, Restarted}
use Rattle.hr_engine.specs.declared.reply.RunReply.TheVariants as run
use Rattle.hr_engine.specs.declared.reply.EndReply.TheVariants as end
use Rattle.hr_history.specs.declared.entry.Event.{Event}
use Rattle.hr_history.specs.declared.entry.Event.TheVariants as event
use Rattle.hr_history.specs.declared.job.Job.{Job}
use Rattle.hr_history.specs.declared.job.Job.TheVariants as job
use Rattle.hr_history.specs.declared.job.JobReply.{JobReply}
use Rattle.hr_history.specs.declared.job.JobReply.TheVariants as reply
use Rattle.hr_history.specs.declared.phase.Phase.{Phase}
use Rattle.hr_history.specs.declared.phase.Phase.TheVariants as phase
use Rattle.hr_history.specs.Replicas.{any_stmt, call_of, call_if, restart_of, restart_if}
use Rattle.hr_history.specs.View.{View, Attempt, Progress, TxnState}
use Rattle.hr_history.specs.Processed.{txn_in, phase_in, replica_in, answers_in, is_logged_by, is_committed, is_whole, is_processed, processed_in}
use Rattle.hr_history.specs.Faithful.{fits_job, is_restart}
use Rattle.hr_history.specs.Step.{Commits, commits_after, commits_in, out_in, call_in, answers_after, next_count, view_step}
use Rattle.hr_records.proofs.Options.{same_some, some_none}
use Rattle.hr_records.proofs.Places.{got_some}
use Rattle.hr_records.proofs.NumberSteps.{same_place, open_unlogged}
use Rattle.hr_moves.specs.Kept.{before_it, still_by_reply, still_processed, processed_from}
use Rattle.hr_moves.specs.Sane.{IsSane}
use Rattle.hr_moves.specs.Fits.{Fits}
use Rattle.hr_sane.proofs.Lists.{on_false}
use Rattle.hr_sane.proofs.Elsewhere.{no_call}
use Rattle.hr_sane.proofs.Next.{le_or_not, was_unknown, true_false, replica_at, attempt_at, txn_at}
use Rattle.hr_sane.proofs.Logs.{refused_unlogged, log_grows}
use Rattle.hr_sane.proofs.Outs.{log_front}
use Rattle.hr_sane.proofs.Stays.{stays_sane}
use Rattle.hr_sane.proofs.MoveLaws.{restart_out}

-- ---- the first of a list that pass

module _ (p : ℕ → Bool) where
  pass_by : (x i t : ℕ) (xs : List ℕ) (b : Bool) → p x ≡ b → i < length (cond b (x ∷ take_while p xs) []) → slice_get (x ∷ xs) i ≡ Some t → ((j : ℕ) → j < length (take_while p xs) → slice_get xs j ≡ Some t → p t ≡ true) → p t ≡ true
  pass_by x zero t xs true e lt got rest = ap p (sym (same_some x t got)) ∙ e
  pass_by x (suc i) t xs true e lt got rest = rest i (omega (arith, lt)) got
  pass_by x i t xs false e lt got rest = absurd (omega (arith, lt))

  passes : (xs : List ℕ) (i t : ℕ) → i < length (take_while p xs) → slice_get xs i ≡ Some t → p t ≡ true
  passes [] i t lt got = absurd (some_none t (sym got))
  passes (x ∷ xs) i t lt got = pass_by x i t xs (p x) refl (omega (arith, lt, ap length (take_while-cons p x xs))) got (λ j l g. passes xs j t l g)

  short_by : (b : Bool) (x : ℕ) (xs : List ℕ) → length (take_while p xs) ≤ length xs → length (cond b (x ∷ take_while p xs) []) ≤ suc (length xs)
  short_by true x xs h = omega (arith, h)
  short_by false x xs h = omega arith

  taken_short : (xs : List ℕ) → length (take_while p xs) ≤ length xs
  taken_short [] = omega arith
  taken_short (x ∷ xs) = omega (arith, ap length (take_while-cons p x xs), short_by (p x) x xs (taken_short xs))

  -- where the first n pass, it goes on from there
  from_there : (n : ℕ) (xs : List ℕ) → n ≤ length xs → ((i t : ℕ) → i < n → slice_get xs i ≡ Some t → p t ≡ true) → length (take_while p xs) ≡ n + length (take_while p (drop n xs))
  from_there zero xs le all = omega arith
  from_there (suc n) [] le all = absurd (omega (arith, le))
  from_there (suc n) (x ∷ xs) le all =
      let head = ap length (take_while-cons p x xs ∙ ap (λ b. cond b (x ∷ take_while p xs) []) (all 0 x (omega arith) refl)) in
      omega (arith, head, from_there n xs (omega (arith, le)) (λ i t lt got. all (suc i) t (omega (arith, lt)) got))

-- ---- a position grows

settled_by : (s : Commits) (b : Bool) → s.position ≤ (if b then s.position + 1 else s.position)
settled_by s true = omega arith
settled_by s false = omega arith

position_grows : (c : Option Call) (s : Commits) → s.position ≤ (commits_after c s).position
position_grows None s = omega arith
position_grows (Some (Ran u stmt (run.Done answer))) s = omega arith
position_grows (Some (Ran u stmt (run.Blocked named))) s = omega arith
position_grows (Some (Ran u stmt (run.Deadlock cycle))) s = omega arith
position_grows (Some (Ran u stmt run.Lost)) s = omega arith
position_grows (Some (Ran u stmt run.NoMemory)) s = omega arith
position_grows (Some (Committed u end.Done)) s = omega arith
position_grows (Some (Committed u end.Lost)) s = omega arith
position_grows (Some (RolledBack u end.Done)) s = omega arith
position_grows (Some (RolledBack u end.Lost)) s = omega arith
position_grows (Some (Restarted (Ok told))) s = settled_by s (s.doubt && (told == shown (s.position + 1)))
position_grows (Some (Restarted (Err lost))) s = omega arith

-- one before it isn't it
before_by : (b : Bool) (i m n : ℕ) → nat_le n m ≡ b → i < (if b then n else m) → (i < n) × (m ≡ i → ⊥)
before_by true i m n e lt = let le = leb-true n m e in (lt, λ same. omega (arith, lt, le, same))
before_by false i m n e lt = (under (nat_le n m) e, λ same. omega (arith, lt, same))
  where
    under : (b : Bool) → nat_le n m ≡ false → i < n
    under b d = elim (le_or_not n m) [ inl le ↦ absurd (true_false (le-leb n m le) d) | inr over ↦ omega (arith, lt, over) ]

before_is : (p : Phase) (i n : ℕ) → i < before_it p n → (i < n) × (p ≡ phase.Logged (suc i) → ⊥)
before_is (phase.Logged (suc m)) i n lt = let it = before_by (nat_le n m) i m n refl lt in (it.0, λ same. it.1 (pred_same (same_place (suc m) (suc i) same)))
  where
    pred_same : suc m ≡ suc i → m ≡ i
    pred_same e = omega (arith, e)
before_is (phase.Logged zero) i n lt = (lt, λ same. none (same_place zero (suc i) same))
  where
    none : zero ≡ suc i → ⊥
    none e = omega (arith, e)
before_is phase.Active i n lt = (lt, λ same. open_unlogged phase.Active (suc i) refl same)
before_is (phase.Asked k) i n lt = (lt, λ same. open_unlogged (phase.Asked k) (suc i) refl same)
before_is phase.RolledBack i n lt = (lt, λ same. cc same)
before_is phase.Refused i n lt = (lt, λ same. cc same)

module _ (v : View) (place asks : ℕ) (sane : IsSane v) (r : ℕ) where
  abbrev next : Event → View
  next e = view_step v place asks e

  abbrev position : ℕ
  position = (replica_in v r).position

  -- the one at place i of the log is committed after the event, or its attempt has the answers that it had
  abbrev Kept : Event → ℕ → ℕ → Type 0
  Kept e i u = (suc i ≤ (commits_after (call_in v r e) (commits_in v r)).position) ⊎ ((i < processed_in v r) × (answers_after u (call_in v r e) (answers_in v r u) ≡ answers_in v r u))

  at_place : (i u : ℕ) → slice_get v.log i ≡ Some u → phase_in v u ≡ phase.Logged (suc i)
  at_place i u got = (sane.logged u (suc i)).1 got

  module _ (q : ℕ) (told : JobReply) (here : (q == r) ≡ true) where
    abbrev e : Event
    e = event.Give q told

    call_is : (o : Option Job) (c : Option Call) → out_in v r ≡ o → call_of o told (λ t i. any_stmt) ≡ c → call_in v r e ≡ c
    call_is o c out is = ap (λ b. call_if b r told (out_in v) (λ t i. any_stmt)) here ∙ ap (λ x. call_of x told (λ t i. any_stmt)) out ∙ is

    as_was : (i u : ℕ) (c : Option Call) → call_in v r e ≡ c → i < processed_in v r → answers_after u c (answers_in v r u) ≡ answers_in v r u → Kept e i u
    as_was i u c is lt same = inr (lt, ap (λ x. answers_after u x (answers_in v r u)) is ∙ same)

    is_in : (i u : ℕ) → i < position → Kept e i u
    is_in i u lt = inl (omega (arith, lt, position_grows (call_in v r e) (commits_in v r)))

    -- another transaction's attempt
    not_it : (i u t : ℕ) → slice_get v.log i ≡ Some u → (phase_in v t ≡ phase.Logged (suc i) → ⊥) → (u == t) ≡ false
    not_it i u t got no_place = ne_eqb u t (λ same. no_place (ap (phase_in v) (sym same) ∙ at_place i u got))

    committed_by : (i u t : ℕ) (b : Bool) → (u == t) ≡ b → out_in v r ≡ Some (job.Commit t) → told ≡ reply.Ended end.Done → call_in v r e ≡ Some (Committed t end.Done) → slice_get v.log i ≡ Some u → i < processed_in v r → Kept e i u
    committed_by i u t true d out is call got lt =
        let at = at_place i u got in
        let its = (sane.logged t (suc position)).1 (sane.out r (job.Commit t) out).1 in
        let same : suc position ≡ suc i = same_place (suc position) (suc i) (sym its ∙ ap (phase_in v) (sym (eqb-true u t d)) ∙ at) in
        inl (omega (arith, same, ap (λ c. (commits_after c (commits_in v r)).position) call))
    committed_by i u t false d out is call got lt = as_was i u (Some (Committed t end.Done)) call lt (on_false (u == t) [] (answers_in v r u) d)

  idle_answers : (u : ℕ) → IsTrue (replica_in v r).lost → [] ≡ answers_in v r u
  idle_answers u lost = sym (ap (λ (a : Attempt). a.answers) (sane.untouched r u (sane.stopped r u lost)))

  reply_keeps : (q : ℕ) (told : JobReply) (o : Option Job) (i u : ℕ) → (q == r) ≡ true → out_in v r ≡ o → IsTrue (fits_job told o) → slice_get v.log i ≡ Some u → i < still_by_reply v r o told (processed_in v r) → Kept (event.Give q told) i u
  reply_keeps q (reply.Ran (run.Done answer)) (Some (job.Run t n)) i u here out ok got lt =
      let it = before_is (phase_in v t) i (processed_in v r) lt in
      as_was q (reply.Ran (run.Done answer)) here i u _ (call_is q (reply.Ran (run.Done answer)) here (Some (job.Run t n)) (Some (Ran t any_stmt (run.Done answer))) out refl) it.0
      (on_false (u == t) (answers_in v r u ++ answer ∷ []) (answers_in v r u) (not_it q (reply.Ran (run.Done answer)) here i u t got it.1))
  reply_keeps q (reply.Ran (run.Blocked named)) (Some (job.Run t n)) i u here out ok got lt =
      as_was q (reply.Ran (run.Blocked named)) here i u (Some (Ran t any_stmt (run.Blocked named))) (call_is q (reply.Ran (run.Blocked named)) here (Some (job.Run t n)) (Some (Ran t any_stmt (run.Blocked named))) out refl) lt refl
  reply_keeps q (reply.Ran (run.Deadlock cycle)) (Some (job.Run t n)) i u here out ok got lt =
      as_was q (reply.Ran (run.Deadlock cycle)) here i u (Some (Ran t any_stmt (run.Deadlock cycle))) (call_is q (reply.Ran (run.Deadlock cycle)) here (Some (job.Run t n)) (Some (Ran t any_stmt (run.Deadlock cycle))) out refl) lt refl
  reply_keeps q (reply.Ran run.NoMemory) (Some (job.Run t n)) i u here out ok got lt =
      as_was q (reply.Ran run.NoMemory) here i u (Some (Ran t any_stmt run.NoMemory)) (call_is q (reply.Ran run.NoMemory) here (Some (job.Run t n)) (Some (Ran t any_stmt run.NoMemory)) out refl) lt refl
  reply_keeps q (reply.Ran run.Lost) (Some (job.Run t n)) i u here out ok got lt = is_in q (reply.Ran run.Lost) here i u lt
  reply_keeps q (reply.Ended end.Done) (Some (job.Commit t)) i u here out ok got lt =
      committed_by q (reply.Ended end.Done) here i u t (u == t) refl out refl (call_is q (reply.Ended end.Done) here (Some (job.Commit t)) (Some (Committed t end.Done)) out refl) got lt
  reply_keeps q (reply.Ended end.Lost) (Some (job.Commit t)) i u here out ok got lt = is_in q (reply.Ended end.Lost) here i u lt
  reply_keeps q (reply.Ended end.Done) (Some (job.Rollback t)) i u here out ok got lt =
      let it = before_is (phase_in v t) i (processed_in v r) lt in
      as_was q (reply.Ended end.Done) here i u (Some (RolledBack t end.Done)) (call_is q (reply.Ended end.Done) here (Some (job.Rollback t)) (Some (RolledBack t end.Done)) out refl) it.0
      (on_false (u == t) [] (answers_in v r u) (not_it q (reply.Ended end.Done) here i u t got it.1))
  reply_keeps q (reply.Ended end.Lost) (Some (job.Rollback t)) i u here out ok got lt = is_in q (reply.Ended end.Lost) here i u lt
  reply_keeps q reply.StillLost (Some job.Restart) i u here out ok got lt =
      as_was q reply.StillLost here i u (Some (Restarted (Err record {}))) (call_is q reply.StillLost here (Some job.Restart) (Some (Restarted (Err record {}))) out refl) lt (idle_answers u (sane.out r job.Restart out))
  reply_keeps q _ _ i u here out ok got lt = cc ok

  give_keeps : (q : ℕ) (told : JobReply) (b : Bool) (i u : ℕ) → (q == r) ≡ b → Fits v (event.Give q told) → slice_get v.log i ≡ Some u
      → i < (if b then still_by_reply v r (out_in v r) told (processed_in v r) else processed_in v r) → Kept (event.Give q told) i u
  give_keeps q told true i u e fits got lt = reply_keeps q told (out_in v r) i u e refl (ap (λ x. fits_job told (out_in v x)) (sym (eqb-true q r e)) ∙ fits.1) got lt
  give_keeps q told false i u e fits got lt = inr (lt, ap (λ c. answers_after u c (answers_in v r u)) (no_call r v (event.Give q told) e))

  restart_keeps : (q count u : ℕ) (b : Bool) → (q == r) ≡ b → Fits v (event.Restarted q count) → answers_after u (restart_if b r count (out_in v)) (answers_in v r u) ≡ answers_in v r u
  restart_keeps q count u true e fits =
      let out : out_in v r ≡ Some job.Restart = restart_out v place asks sane (out_in v r) (ap (λ x. is_restart (out_in v x)) (sym (eqb-true q r e)) ∙ fits.1) in
      ap (λ o. answers_after u (restart_of o count) (answers_in v r u)) out ∙ idle_answers u (sane.out r job.Restart out)
  restart_keeps q count u false e fits = refl

  keeps : (e : Event) (i u : ℕ) → Fits v e → slice_get v.log i ≡ Some u → i < still_processed v r e → Kept e i u
  keeps (event.Give q told) i u fits got lt = give_keeps q told (q == r) i u refl fits got lt
  keeps (event.Restarted q count) i u fits got lt = inr (lt, restart_keeps q count u (q == r) refl fits)
  keeps (event.Begin session txn) i u fits got lt = inr (lt, refl)
  keeps (event.Submit txn index stmt) i u fits got lt = inr (lt, refl)
  keeps (event.AskCommit txn) i u fits got lt = inr (lt, refl)
  keeps (event.AskRollback txn) i u fits got lt = inr (lt, refl)
  keeps (event.Take q j) i u fits got lt = inr (lt, refl)
  keeps event.Suspect i u fits got lt = inr (lt, refl)
  keeps (event.Decide txn) i u fits got lt = inr (lt, refl)
  keeps (event.Refuse txn cause) i u fits got lt = inr (lt, refl)
  keeps (event.Convict q x) i u fits got lt = inr (lt, refl)
  keeps (event.NewPrimary q) i u fits got lt = inr (lt, refl)
  keeps (event.Preempt q t) i u fits got lt = inr (lt, refl)

  -- its statements stay as many
  count_stays : (e : Event) (u i n : ℕ) → Fits v e → phase_in v u ≡ phase.Logged (suc i) → next_count u e n ≡ n
  count_stays (event.Begin session t) u i n fits at = on_false (t == u) 0 n (ne_eqb t u (λ same. refused_unlogged (suc i) (sym (ap (λ (x : TxnState). x.phase) (was_unknown v u (λ known. omega (arith, fits, same, known.1)))) ∙ at)))
  count_stays (event.Submit t index stmt) u i n fits at = on_false (t == u) (n + 1) n (ne_eqb t u (λ same. open_unlogged (phase_in v t) (suc i) fits (ap (phase_in v) same ∙ at)))
  count_stays _ u i n fits at = refl

  -- ---- and so it is processed

  before_short : (p : Phase) (n : ℕ) → before_it p n ≤ n
  before_short (phase.Logged (suc m)) n = by_test (nat_le n m) refl
    where
      by_test : (b : Bool) → nat_le n m ≡ b → (if b then n else m) ≤ n
      by_test true e = omega arith
      by_test false e = elim (le_or_not n m) [ inl le ↦ absurd (true_false (le-leb n m le) e) | inr over ↦ omega (arith, over) ]
  before_short (phase.Logged zero) n = omega arith
  before_short phase.Active n = omega arith
  before_short (phase.Asked k) n = omega arith
  before_short phase.RolledBack n = omega arith
  before_short phase.Refused n = omega arith

  reply_short : (o : Option Job) (told : JobReply) (n : ℕ) → n ≤ length v.log → still_by_reply v r o told n ≤ length v.log
  reply_short (Some (job.Run t i)) (reply.Ran (run.Done answer)) n le = omega (arith, le, before_short (phase_in v t) n)
  reply_short (Some (job.Run t i)) (reply.Ran run.Lost) n le = sane.position r
  reply_short (Some (job.Commit t)) (reply.Ended end.Lost) n le = sane.position r
  reply_short (Some (job.Rollback t)) (reply.Ended end.Done) n le = omega (arith, le, before_short (phase_in v t) n)
  reply_short (Some (job.Rollback t)) (reply.Ended end.Lost) n le = sane.position r
  reply_short _ _ n le = le

  give_short : (b : Bool) (told : JobReply) → (if b then still_by_reply v r (out_in v r) told (processed_in v r) else processed_in v r) ≤ length v.log
  give_short true told = reply_short (out_in v r) told (processed_in v r) (taken_short (is_processed v r) v.log)
  give_short false told = taken_short (is_processed v r) v.log

  still_short : (e : Event) → still_processed v r e ≤ length v.log
  still_short (event.Give q told) = give_short (q == r) told
  still_short _ = taken_short (is_processed v r) v.log

  module _ (e : Event) (fits : Fits v e) where
    grown : (replica_in (next e) r).position ≡ (commits_after (call_in v r e) (commits_in v r)).position
    grown = ap (λ (p : Progress). p.position) (replica_at v place asks e sane fits r)

    module _ (i u : ℕ) (got : slice_get v.log i ≡ Some u) (now : slice_get (next e).log i ≡ Some u) where
      phase_now : phase_in (next e) u ≡ phase.Logged (suc i)
      phase_now = ((stays_sane v place asks e sane fits).logged u (suc i)).1 now

      if_committed : suc i ≤ (commits_after (call_in v r e) (commits_in v r)).position → is_processed (next e) r u ≡ true
      if_committed le =
          or_left (is_committed (next e) r u) (is_whole (next e) r u) (ap (is_logged_by (replica_in (next e) r).position) phase_now ∙ le-leb (suc i) (replica_in (next e) r).position (omega (arith, le, grown)))

      as_before : answers_after u (call_in v r e) (answers_in v r u) ≡ answers_in v r u → (is_committed v r u ≡ true) ⊎ (is_whole v r u ≡ true) → is_processed (next e) r u ≡ true
      as_before same (inl committed) =
          let le = leb-true (suc i) position (sym (ap (is_logged_by position) (at_place i u got)) ∙ committed) in
          if_committed (omega (arith, le, position_grows (call_in v r e) (commits_in v r)))
      as_before same (inr whole) =
          let answers = ap (λ (a : Attempt). a.answers) (attempt_at v place asks e sane fits r u) ∙ same in
          let statements = (txn_at v place asks e sane fits u).statements ∙ count_stays e u i (txn_in v u).statements fits (at_place i u got) in
          or_right (is_committed (next e) r u) (is_whole (next e) r u) ((λ k. length (answers k) == statements k) ∙ whole)

      if_kept : Kept e i u → is_processed (next e) r u ≡ true
      if_kept (inl committed) = if_committed committed
      if_kept (inr was) = as_before was.1 (or_cases (is_committed v r u) (is_whole v r u) (passes (is_processed v r) v.log i u was.0 got))

    still : (i u : ℕ) → i < still_processed v r e → slice_get (next e).log i ≡ Some u → is_processed (next e) r u ≡ true
    still i u lt now =
        let old = got_some v.log i (omega (arith, lt, still_short e)) in
        let same : old.0 ≡ u = same_some old.0 u (sym (log_front e v.log i old.0 old.1) ∙ now) in
        let got : slice_get v.log i ≡ Some u = old.1 ∙ ap Some same in
        if_kept i u got now (keeps e i u fits got lt)

    pub processed_next : processed_in (next e) r ≡ processed_from (next e) r (still_processed v r e)
    processed_next = from_there (is_processed (next e) r) (still_processed v r e) (next e).log (omega (arith, still_short e, log_grows e v.log)) still
