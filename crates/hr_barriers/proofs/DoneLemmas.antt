-- What a Done is, on each database that is processed there.
use Rattle.std.proofs.Common.{◌≡◌, ℕ, zero, suc, ◌+◌, ◌*◌, ◌<◌, Some, List, [], ◌∷◌, ◌++◌, refl, ap, sym, ◌∙◌, subst, arith}
use Rattle.std.specs.List.{AllZip}
use Rattle.std.proofs.lemmas.Bool.{eq-eqb}
use Rattle.hr_base.specs.Lists.{numbered}
use Rattle.hr_rel.specs.declared.answer.Answer.{Answer}
use Rattle.hr_rel.specs.declared.stmt.Stmt.{Stmt}
use Rattle.hr_rel.specs.Database.{Database}
use Rattle.hr_meaning.specs.Serial.{play, database_at}
use Rattle.hr_meaning.specs.SameAnswer.{SameAnswer}
use Rattle.hr_engine.specs.Journal.{Ran}
use Rattle.hr_engine.specs.Attempts.{RanStmt, attempt, statements, answers}
use Rattle.hr_engine.specs.declared.reply.RunReply.TheVariants as run
use Rattle.hr_engine.proofs.AttemptLaws.{attempt-done}
use Rattle.hr_engine.proofs.SerialLaws.{play-append}
use Rattle.hr_history.specs.declared.entry.Entry.{Entry}
use Rattle.hr_history.specs.declared.entry.Event.TheVariants as event
use Rattle.hr_history.specs.declared.job.Job.TheVariants as job
use Rattle.hr_history.specs.declared.job.JobReply.TheVariants as reply
use Rattle.hr_history.specs.History.{History}
use Rattle.hr_history.specs.Transactions.{submits}
use Rattle.hr_history.specs.Replicas.{out_at, journal_of, stmt_at, call_if, call_of, next_journal}
use Rattle.hr_history.specs.Faithful.{Begun, Correct}
use Rattle.hr_history.proofs.StepLemmas.{call_allowed}
use Rattle.hr_records.specs.AtReplica.{Begins}
use Rattle.hr_records.specs.Kept.{Kept}
use Rattle.hr_records.proofs.Options.{some_none, same_some}
use Rattle.hr_records.proofs.Allowed.{give_allowed}
use Rattle.hr_records.proofs.Places.{numbered_front, numbered_end}
use Rattle.hr_records.proofs.RuleLemmas.{begun_before}
use Rattle.hr_records.proofs.KeptLemmas.{kept}
use Rattle.hr_records.proofs.JobWords.{many}
use Rattle.hr_serial.specs.Prefix.{log_statements}
use Rattle.hr_barriers.specs.Played.{IsProcessedTo, IsNoneOfTheFirst, IsAnswerAsPlayed}
use Rattle.hr_barriers.proofs.PlayedLemmas.{played}

-- of two lists side by side, what stands at a place of the second has its like at that place of the first
pub zip_at : {A B : Type 0} (R : A → B → Type 0) (xs : List A) (ys : List B) (i : ℕ) (y : B) → AllZip R xs ys → numbered ys i ≡ Some y → (x : A) × (numbered xs i ≡ Some x) × R x y
zip_at R xs ys zero y all e = absurd (some_none y (sym e))
zip_at R [] [] (suc n) y all e = absurd (some_none y (sym e))
zip_at R [] (b ∷ ys) (suc n) y all e = absurd all
zip_at R (a ∷ xs) [] (suc n) y all e = absurd all
zip_at R (a ∷ xs) (b ∷ ys) (suc zero) y all e = (a, refl, subst (R a) (same_some b y e) all.0)
zip_at R (a ∷ xs) (b ∷ ys) (suc (suc n)) y all e = zip_at R xs ys (suc n) y all.1 e

-- statements that begin others have the first of their answers
pub play_front : (db : Database) (xs ys : List Stmt) (i : ℕ) (x : Answer) → Begins xs ys → numbered (play db xs).answers i ≡ Some x → numbered (play db ys).answers i ≡ Some x
play_front db xs ys i x b e =
    ap (λ l. numbered (play db l).answers i) (sym b.1) ∙ ap (λ p. numbered p.answers i) (play-append db xs b.0) ∙ numbered_front (play db xs).answers (play (play db xs).after b.0).answers i x e

answers_end : (steps : List RanStmt) (s : RanStmt) → answers (steps ++ s ∷ []) ≡ answers steps ++ s.answer ∷ []
answers_end [] s = refl
answers_end (x ∷ steps) s = ap (λ l. x.answer ∷ l) (answers_end steps s)

pub journal_after : (c r t i : ℕ) (a : Answer) (h : History) → out_at r h ≡ Some (job.Run t i)
    → journal_of r (record { caller = c; event = event.Give r (reply.Ran (run.Done a)) } ∷ h) ≡ Ran t (stmt_at h t i) (run.Done a) ∷ journal_of r h
journal_after c r t i a h out =
    ap (λ b. next_journal (call_if b r (reply.Ran (run.Done a)) (λ q. out_at q h) (stmt_at h)) (journal_of r h)) (eq-eqb r r refl)
    ∙ ap (λ o. next_journal (call_of o (reply.Ran (run.Done a)) (stmt_at h)) (journal_of r h)) out

module _ (f s c r t i m : ℕ) (a : Answer) (db : Database) (h : History) (b : Begun f s (record { caller = c; event = event.Give r (reply.Ran (run.Done a)) } ∷ h)) (out : out_at r h ≡ Some (job.Run t i)) where
  abbrev call : Entry
  call = record { caller = c; event = event.Give r (reply.Ran (run.Done a)) }

  before : Kept h
  before = kept f s h (begun_before f s record { caller = c; event = event.Give r (reply.Ran (run.Done a)) } h b)

  now : Kept (record { caller = c; event = event.Give r (reply.Ran (run.Done a)) } ∷ h)
  now = kept f s (record { caller = c; event = event.Give r (reply.Ran (run.Done a)) } ∷ h) b

  lt : r < 2 * f + 1
  lt = (give_allowed f s c h r (reply.Ran (run.Done a)) (call_allowed f s record { caller = c; event = event.Give r (reply.Ran (run.Done a)) } h b refl)).0

  told : answers (attempt t (journal_of r (record { caller = c; event = event.Give r (reply.Ran (run.Done a)) } ∷ h))) ≡ answers (attempt t (journal_of r h)) ++ a ∷ []
  told =
      ap (λ j. answers (attempt t j)) (journal_after c r t i a h out)
      ∙ ap answers (attempt-done (journal_of r h) t (stmt_at h t i) a)
      ∙ answers_end (attempt t (journal_of r h)) record { stmt = stmt_at h t i; answer = a }

  is_last : numbered (answers (attempt t (journal_of r (record { caller = c; event = event.Give r (reply.Ran (run.Done a)) } ∷ h)))) i ≡ Some a
  is_last =
      ap (λ l. numbered l i) told
      ∙ numbered_end (answers (attempt t (journal_of r h))) a i (omega (arith, (before.replicas r).runs t i out, many (attempt t (journal_of r h))))

  pub done : Correct db (record { caller = c; event = event.Give r (reply.Ran (run.Done a)) } ∷ h) r → IsProcessedTo f r m (record { caller = c; event = event.Give r (reply.Ran (run.Done a)) } ∷ h)
      → IsNoneOfTheFirst m t (record { caller = c; event = event.Give r (reply.Ran (run.Done a)) } ∷ h) → IsAnswerAsPlayed db m t i a (record { caller = c; event = event.Give r (reply.Ran (run.Done a)) } ∷ h)
  done correct to none =
      let d = database_at db (log_statements (call ∷ h)) m in
      let steps = attempt t (journal_of r (call ∷ h)) in
      let at = zip_at SameAnswer (play d (statements steps)).answers (answers steps) i a (played f r m t db (call ∷ h) now lt correct to none) is_last in
      (at.0, play_front d (statements steps) (submits t (call ∷ h)) i at.0 ((now.replicas r).attempts t) at.1, at.2)
