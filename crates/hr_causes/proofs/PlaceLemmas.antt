-- Each answer of an attempt was told by the Give at its place.
use Rattle.std.proofs.Common.{◌≡◌, ◌⊎◌, inl, inr, ℕ, zero, suc, ◌+◌, Bool, true, false, cond, ◌==◌, Option, Some, None, List, [], ◌∷◌, ◌++◌, length, refl, ap, sym, ◌∙◌, subst, arith, length-append}
use Rattle.std.proofs.lemmas.Bool.{eqb-true}
use Rattle.hr_base.specs.Lists.{numbered}
use Rattle.hr_rel.specs.declared.answer.Answer.{Answer}
use Rattle.hr_engine.specs.Journal.{Call, Ran, Committed, RolledBack}
use Rattle.hr_engine.specs.Attempts.{RanStmt, attempt, answers}
use Rattle.hr_engine.specs.declared.reply.RunReply.{RunReply}
use Rattle.hr_engine.specs.declared.reply.RunReply.TheVariants as run
use Rattle.hr_engine.specs.declared.reply.EndReply.{EndReply}
use Rattle.hr_engine.specs.declared.reply.EndReply.TheVariants as end
use Rattle.hr_history.specs.declared.entry.Entry.{Entry}
use Rattle.hr_history.specs.declared.entry.Event.{Event}
use Rattle.hr_history.specs.declared.entry.Event.TheVariants as event
use Rattle.hr_history.specs.declared.job.Job.{Job}
use Rattle.hr_history.specs.declared.job.Job.TheVariants as job
use Rattle.hr_history.specs.declared.job.JobReply.{JobReply}
use Rattle.hr_history.specs.declared.job.JobReply.TheVariants as reply
use Rattle.hr_history.specs.History.{History}
use Rattle.hr_history.specs.Replicas.{out_at, journal_of, stmt_at, call_of, call_if, restart_of, restart_if, next_journal}
use Rattle.hr_history.specs.Attempts.{places_told, next_places}
use Rattle.hr_records.proofs.Options.{some_none}
use Rattle.hr_records.proofs.JobWords.{many}
use Rattle.hr_records.proofs.Places.{numbered_front, numbered_more, numbered_end}
use Rattle.hr_causes.specs.Places.{StandsAt}

-- The answer with this number was told by the replica's Give at this place, where the job that was out was to run a statement of
-- the transaction, and as many were in its attempt as come before this answer.
pub record AnswerAt (r t i p : ℕ) (told : List Answer) (h : History) : Type 0 where
  pub answer : Answer
  pub it : numbered told i ≡ Some answer
  pub older : History
  pub stands : StandsAt p (event.Give r (reply.Ran (run.Done answer))) older h
  pub index : ℕ
  pub out : out_at r older ≡ Some (job.Run t index)
  pub next : i ≡ length (attempt t (journal_of r older)) + 1

-- As many places as answers, and each is that of its answer's Give.
pub record Told (r t : ℕ) (places : List ℕ) (told : List Answer) (h : History) : Type 0 where
  pub many : length places ≡ length told
  pub placed : (i p : ℕ) → numbered places i ≡ Some p → AnswerAt r t i p told h

module _ (r t : ℕ) (e : Entry) (h : History) where
  answer_later : (i p : ℕ) (told : List Answer) → AnswerAt r t i p told h → AnswerAt r t i p told (e ∷ h)
  answer_later i p told a = record {
    answer = a.answer;
    it = a.it;
    older = a.older;
    stands = record { caller = a.stands.caller; more = e ∷ a.stands.more; whole = ap (λ l. e ∷ l) a.stands.whole; placed = a.stands.placed };
    index = a.index;
    out = a.out;
    next = a.next;
  }

  told_later : (places : List ℕ) (told : List Answer) → Told r t places told h → Told r t places told (e ∷ h)
  told_later places told before = record { many = before.many; placed = λ i p at. answer_later i p told (before.placed i p at) }

none_told : (r t : ℕ) (h : History) → Told r t [] [] h
none_told r t h = record { many = refl; placed = λ i p at. absurd (nobody i p at) }
  where
    nobody : (i p : ℕ) → numbered [] i ≡ Some p → ⊥
    nobody zero p at = some_none p (sym at)
    nobody (suc i) p at = some_none p (sym at)

answers_end : (steps : List RanStmt) (s : RanStmt) → answers (steps ++ s ∷ []) ≡ answers steps ++ s.answer ∷ []
answers_end [] s = refl
answers_end (x ∷ steps) s = ap (λ l. x.answer ∷ l) (answers_end steps s)

-- one attempt ends, or it goes on
one_ends : (r t : ℕ) (h : History) (b : Bool) (places : List ℕ) (steps : List RanStmt) → Told r t places (answers steps) h → Told r t (cond b [] places) (answers (cond b [] steps)) h
one_ends r t h true places steps before = none_told r t h
one_ends r t h false places steps before = before

module _ (c r t n : ℕ) (h : History) (s : RanStmt) (before : Told r t (places_told r t h) (answers (attempt t (journal_of r h))) h) where
  abbrev call : Entry
  call = record { caller = c; event = event.Give r (reply.Ran (run.Done s.answer)) }

  old_one : (i p : ℕ) → AnswerAt r t i p (answers (attempt t (journal_of r h))) h → AnswerAt r t i p (answers (attempt t (journal_of r h)) ++ s.answer ∷ []) (call ∷ h)
  old_one i p a =
      let l = answer_later r t call h i p (answers (attempt t (journal_of r h))) a in
      record {
        answer = l.answer;
        it = numbered_front (answers (attempt t (journal_of r h))) (s.answer ∷ []) i l.answer l.it;
        older = l.older;
        stands = l.stands;
        index = l.index;
        out = l.out;
        next = l.next;
      }

  -- the statement that was out has run
  one_runs : (b : Bool) → (b ≡ true → out_at r h ≡ Some (job.Run t n))
      → Told r t (cond b (places_told r t h ++ length h ∷ []) (places_told r t h)) (answers (cond b (attempt t (journal_of r h) ++ s ∷ []) (attempt t (journal_of r h)))) (call ∷ h)
  one_runs false out = told_later r t call h (places_told r t h) (answers (attempt t (journal_of r h))) before
  one_runs true out =
      subst (λ told. Told r t (places_told r t h ++ length h ∷ []) told (call ∷ h)) (sym (answers_end (attempt t (journal_of r h)) s)) record {
        many = omega (arith, before.many, length-append (places_told r t h) (length h ∷ []), length-append (answers (attempt t (journal_of r h))) (s.answer ∷ []));
        placed = λ i p at. place_of i p (numbered_more (places_told r t h) (length h) i p at);
      }
    where
      place_of : (i p : ℕ) → (numbered (places_told r t h) i ≡ Some p) ⊎ ((i ≡ length (places_told r t h) + 1) × (length h ≡ p)) → AnswerAt r t i p (answers (attempt t (journal_of r h)) ++ s.answer ∷ []) (call ∷ h)
      place_of i p (inl old) = old_one i p (before.placed i p old)
      place_of i p (inr new) = record {
        answer = s.answer;
        it = numbered_end (answers (attempt t (journal_of r h))) s.answer i (omega (arith, new.0, before.many));
        older = h;
        stands = record { caller = c; more = []; whole = refl; placed = new.1 };
        index = n;
        out = out refl;
        next = omega (arith, new.0, before.many, many (attempt t (journal_of r h)));
      }

module _ (r t : ℕ) (h : History) (before : Told r t (places_told r t h) (answers (attempt t (journal_of r h))) h) where
  abbrev After : Entry → Option Call → Type 0
  After e call = Told r t (next_places t call (length h) (places_told r t h)) (answers (attempt t (next_journal call (journal_of r h)))) (e ∷ h)

  kept_told : (e : Entry) → Told r t (places_told r t h) (answers (attempt t (journal_of r h))) (e ∷ h)
  kept_told e = told_later r t e h (places_told r t h) (answers (attempt t (journal_of r h))) before

  ran : (c u i : ℕ) (x : RunReply) → out_at r h ≡ Some (job.Run u i) → After record { caller = c; event = event.Give r (reply.Ran x) } (Some (Ran u (stmt_at h u i) x))
  ran c u i (run.Done a) out = one_runs c r t i h record { stmt = stmt_at h u i; answer = a } before (t == u) (λ e. out ∙ ap (λ x. Some (job.Run x i)) (sym (eqb-true t u e)))
  ran c u i (run.Blocked named) out = kept_told record { caller = c; event = event.Give r (reply.Ran (run.Blocked named)) }
  ran c u i (run.Deadlock cycle) out = kept_told record { caller = c; event = event.Give r (reply.Ran (run.Deadlock cycle)) }
  ran c u i run.Lost out = none_told r t (record { caller = c; event = event.Give r (reply.Ran run.Lost) } ∷ h)
  ran c u i run.NoMemory out = kept_told record { caller = c; event = event.Give r (reply.Ran run.NoMemory) }

  committed : (e : Entry) (u : ℕ) (x : EndReply) → After e (Some (Committed u x))
  committed e u end.Done = one_ends r t (e ∷ h) (t == u) (places_told r t h) (attempt t (journal_of r h)) (kept_told e)
  committed e u end.Lost = none_told r t (e ∷ h)

  rolled_back : (e : Entry) (u : ℕ) (x : EndReply) → After e (Some (RolledBack u x))
  rolled_back e u end.Done = one_ends r t (e ∷ h) (t == u) (places_told r t h) (attempt t (journal_of r h)) (kept_told e)
  rolled_back e u end.Lost = none_told r t (e ∷ h)

  given_of : (c : ℕ) (told : JobReply) (o : Option Job) → out_at r h ≡ o → After record { caller = c; event = event.Give r told } (call_of o told (stmt_at h))
  given_of c (reply.Ran x) (Some (job.Run u i)) out = ran c u i x out
  given_of c (reply.Ended x) (Some (job.Commit u)) out = committed record { caller = c; event = event.Give r (reply.Ended x) } u x
  given_of c (reply.Ended x) (Some (job.Rollback u)) out = rolled_back record { caller = c; event = event.Give r (reply.Ended x) } u x
  given_of c reply.StillLost (Some job.Restart) out = none_told r t (record { caller = c; event = event.Give r reply.StillLost } ∷ h)
  given_of c (reply.Ran x) (Some (job.Commit u)) out = kept_told record { caller = c; event = event.Give r (reply.Ran x) }
  given_of c (reply.Ran x) (Some (job.Rollback u)) out = kept_told record { caller = c; event = event.Give r (reply.Ran x) }
  given_of c (reply.Ran x) (Some job.Restart) out = kept_told record { caller = c; event = event.Give r (reply.Ran x) }
  given_of c (reply.Ran x) None out = kept_told record { caller = c; event = event.Give r (reply.Ran x) }
  given_of c (reply.Ended x) (Some (job.Run u i)) out = kept_told record { caller = c; event = event.Give r (reply.Ended x) }
  given_of c (reply.Ended x) (Some job.Restart) out = kept_told record { caller = c; event = event.Give r (reply.Ended x) }
  given_of c (reply.Ended x) None out = kept_told record { caller = c; event = event.Give r (reply.Ended x) }
  given_of c reply.StillLost (Some (job.Run u i)) out = kept_told record { caller = c; event = event.Give r reply.StillLost }
  given_of c reply.StillLost (Some (job.Commit u)) out = kept_told record { caller = c; event = event.Give r reply.StillLost }
  given_of c reply.StillLost (Some (job.Rollback u)) out = kept_told record { caller = c; event = event.Give r reply.StillLost }
  given_of c reply.StillLost None out = kept_told record { caller = c; event = event.Give r reply.StillLost }

  given_by : (c q : ℕ) (told : JobReply) (b : Bool) → (q == r) ≡ b → After record { caller = c; event = event.Give q told } (call_if b r told (λ p. out_at p h) (stmt_at h))
  given_by c q told true e = subst (λ x. After record { caller = c; event = event.Give x told } (call_of (out_at r h) told (stmt_at h))) (sym (eqb-true q r e)) (given_of c told (out_at r h) refl)
  given_by c q told false e = kept_told record { caller = c; event = event.Give q told }

  restarted_of : (e : Entry) (n : ℕ) (o : Option Job) → After e (restart_of o n)
  restarted_of e n (Some job.Restart) = none_told r t (e ∷ h)
  restarted_of e n (Some (job.Run u i)) = kept_told e
  restarted_of e n (Some (job.Commit u)) = kept_told e
  restarted_of e n (Some (job.Rollback u)) = kept_told e
  restarted_of e n None = kept_told e

  restarted_by : (e : Entry) (n : ℕ) (b : Bool) → After e (restart_if b r n (λ p. out_at p h))
  restarted_by e n true = restarted_of e n (out_at r h)
  restarted_by e n false = kept_told e

  told_by : (c : ℕ) (e : Event) → Told r t (places_told r t (record { caller = c; event = e } ∷ h)) (answers (attempt t (journal_of r (record { caller = c; event = e } ∷ h)))) (record { caller = c; event = e } ∷ h)
  told_by c (event.Give q told) = given_by c q told (q == r) refl
  told_by c (event.Restarted q n) = restarted_by record { caller = c; event = event.Restarted q n } n (q == r)
  told_by c (event.Begin session txn) = kept_told record { caller = c; event = event.Begin session txn }
  told_by c (event.Submit txn index stmt) = kept_told record { caller = c; event = event.Submit txn index stmt }
  told_by c (event.AskCommit txn) = kept_told record { caller = c; event = event.AskCommit txn }
  told_by c (event.AskRollback txn) = kept_told record { caller = c; event = event.AskRollback txn }
  told_by c (event.Take q j) = kept_told record { caller = c; event = event.Take q j }
  told_by c event.Suspect = kept_told record { caller = c; event = event.Suspect }
  told_by c (event.Decide txn) = kept_told record { caller = c; event = event.Decide txn }
  told_by c (event.Refuse txn x) = kept_told record { caller = c; event = event.Refuse txn x }
  told_by c (event.Convict q x) = kept_told record { caller = c; event = event.Convict q x }
  told_by c (event.NewPrimary q) = kept_told record { caller = c; event = event.NewPrimary q }
  told_by c (event.Preempt q txn) = kept_told record { caller = c; event = event.Preempt q txn }

pub told : (r t : ℕ) (h : History) → Told r t (places_told r t h) (answers (attempt t (journal_of r h))) h
told r t [] = none_told r t []
told r t (e ∷ h) = told_by r t h (told r t h) e.caller e.event
