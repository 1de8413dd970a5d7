-- A correct replica's next commit is as accepted.
use Rattle.std.proofs.Common.{◌≡◌, inl, inr, ⊎_elim, ℕ, zero, suc, ◌+◌, ◌*◌, ◌<◌, Bool, true, false, not, Option, Some, slice_get, take, List, [], ◌∷◌, length, map, refl, ap, sym, ◌∙◌, subst, arith}
use Rattle.std.specs.List.{AllZip}
use Rattle.std.proofs.lemmas.Bool.{and_parts}
use Rattle.hr_base.specs.Lists.{first_some, last_of}
use Rattle.hr_rel.specs.declared.answer.Answer.{Answer}
use Rattle.hr_rel.specs.declared.stmt.Stmt.{Stmt}
use Rattle.hr_rel.specs.Database.{Database}
use Rattle.hr_meaning.specs.Serial.{play, database_after, database_at, serial_answers}
use Rattle.hr_meaning.specs.SameAnswer.{SameAnswer}
use Rattle.hr_engine.specs.Attempts.{attempt, answers}
use Rattle.hr_engine.specs.Base.{count}
use Rattle.hr_engine.specs.declared.reply.RunReply.{RunReply}
use Rattle.hr_engine.specs.declared.reply.RunReply.TheVariants as run
use Rattle.hr_history.specs.declared.entry.Event.TheVariants as event
use Rattle.hr_history.specs.declared.evidence.Evidence.TheVariants as evidence
use Rattle.hr_history.specs.History.{History}
use Rattle.hr_history.specs.SameAnswers.{same_answers}
use Rattle.hr_history.specs.Transactions.{log, submits}
use Rattle.hr_history.specs.Replicas.{journal_of}
use Rattle.hr_history.specs.Given.{Given, given_to, answers_given}
use Rattle.hr_history.specs.Turn.{Turn, Counted, turn_of}
use Rattle.hr_history.specs.View.{View, view_of}
use Rattle.hr_history.specs.Processed.{replica_in, runs_in, wait_in, answers_in, given_in, is_whole, is_processed}
use Rattle.hr_history.specs.Jobs.{next_in_log}
use Rattle.hr_history.specs.Evidence.{evidence_of, differs, bad_waits, bad_reply, bad_restart}
use Rattle.hr_history.specs.Faithful.{Begun, Correct}
use Rattle.hr_records.specs.ByRule.{HasEvidence}
use Rattle.hr_records.specs.Kept.{Kept}
use Rattle.hr_records.proofs.Options.{some_none, same_some}
use Rattle.hr_records.proofs.Places.{got_within}
use Rattle.hr_records.proofs.NumberSteps.{not_both, same_place}
use Rattle.hr_records.proofs.RuleLemmas.{begun_before, by_rule}
use Rattle.hr_records.proofs.ViewWords.{given_seen, answers_seen, position_seen}
use Rattle.hr_records.proofs.KeptLemmas.{kept}
use Rattle.hr_serial.specs.Prefix.{log_statements}
use Rattle.hr_serial.specs.Serial.{LiarsAreAtMost, AtEachDecide}
use Rattle.hr_serial.proofs.SerialLemmas.{serial}
use Rattle.hr_serial.proofs.Processed.{whole_attempt, logged_born}
use Rattle.hr_barriers.specs.Played.{IsProcessedTo, IsNoneOfTheFirst}
use Rattle.hr_barriers.proofs.PlayedLemmas.{played}
use Rattle.hr_barriers.proofs.ProcessedLemmas.{held_processed}
use Rattle.hr_barriers.proofs.BarrierLemmas.{front_taken}
use Rattle.hr_causes.proofs.TurnWords.{when_some}
use Rattle.hr_convictions.proofs.EvidenceLemmas.{first_of, then_some, counted, replied}
use Rattle.hr_barriers.proofs.CanonicalLemmas.{attempt_canonical, given_canonical, equal_by}

-- WHAT THE EVIDENCE SHOWS
no_reply : (running : ℕ → Bool) (waits : ℕ → List ℕ) (n t u i : ℕ) (o : Option RunReply) → bad_reply running waits n t o ≡ Some (evidence.Differs u i) → ⊥
no_reply running waits n t u i (Some (run.Blocked named)) is = apart (when_some _ _ _ is).1
  where
    apart : evidence.BadBlocked t ≡ evidence.Differs u i → ⊥
    apart e = cc e
no_reply running waits n t u i (Some (run.Deadlock cycle)) is = apart (when_some _ _ _ is).1
  where
    apart : evidence.BadDeadlock t ≡ evidence.Differs u i → ⊥
    apart e = cc e
no_reply running waits n t u i _ is = some_none _ (sym is)

module _ (v : View) (r u i : ℕ) where
  no_wait : bad_waits v r ≡ Some (evidence.Differs u i) → ⊥
  no_wait is = let it = replied v r (evidence.Differs u i) is in no_reply (runs_in v r) (wait_in v r) (length (replica_in v r).attempts) it.txn u i (last_of v.replies) it.bad

  no_count : (o : Option Counted) → bad_restart r o ≡ Some (evidence.Differs u i) → ⊥
  no_count o is = apart (counted r o (evidence.Differs u i) is).as_evidence
    where
      apart : {n : ℕ} → evidence.BadRestart n ≡ evidence.Differs u i → ⊥
      apart e = cc e

  shown : (turn : Turn) → evidence_of v r turn ≡ Some (evidence.Differs u i) → differs v r ≡ Some (evidence.Differs u i)
  shown turn is =
      ⊎_elim (λ (a : differs v r ≡ Some (evidence.Differs u i)). a)
      (λ (a : first_some (bad_waits v r ∷ bad_restart r turn.bad_count ∷ []) ≡ Some (evidence.Differs u i)).
      ⊎_elim (λ (b : bad_waits v r ≡ Some (evidence.Differs u i)). absurd (no_wait b))
      (λ (b : first_some (bad_restart r turn.bad_count ∷ []) ≡ Some (evidence.Differs u i)).
      ⊎_elim (λ (d : bad_restart r turn.bad_count ≡ Some (evidence.Differs u i)). absurd (no_count turn.bad_count d)) (λ (d : first_some [] ≡ Some (evidence.Differs u i)). absurd (some_none _ (sym d)))
      (first_of (bad_restart r turn.bad_count) [] (evidence.Differs u i) b))
      (first_of (bad_waits v r) (bad_restart r turn.bad_count ∷ []) (evidence.Differs u i) a))
      (first_of (differs v r) (bad_waits v r ∷ bad_restart r turn.bad_count ∷ []) (evidence.Differs u i) is)

-- IT CAN'T BE
serial_at : (db : Database) (p : ℕ → List Stmt) (g : ℕ → List Answer) (ts : List ℕ) (n t : ℕ) → slice_get ts n ≡ Some t → AllZip (AllZip SameAnswer) (serial_answers db (map p ts)) (map g ts)
    → AllZip SameAnswer (play (database_after db (take n (map p ts))) (p t)).answers (g t)
serial_at db p g [] n t e all = absurd (some_none t (sym e))
serial_at db p g (u ∷ ts) zero t e all = subst (λ x. AllZip SameAnswer (play db (p x)).answers (g x)) (same_some u t e) all.0
serial_at db p g (u ∷ ts) (suc n) t e all = serial_at (play db (p u)).after p g ts n t e all.1

module _ (f s r t : ℕ) (db : Database) (h : History) (b : Begun f s h) (k : Kept h) (lt : r < 2 * f + 1) (correct : Correct db h r) (few : AtEachDecide (LiarsAreAtMost f f db) h)
    (next : slice_get (log h) (count (journal_of r h)) ≡ Some t) (whole : is_whole (view_of f h) r t ≡ true) where
  equal : same_answers (answers_in (view_of f h) r t) (given_in (view_of f h) t) ≡ true
  equal =
      let m = count (journal_of r h) in
      let logged = (k.numbers.logged t (suc m)).1 next in
      let born = logged_born h k t (suc m) logged in
      let to : IsProcessedTo f r m h = (
        omega arith,
        front_taken (is_processed (view_of f h) r) (log h) m (let in_log = got_within (log h) m t next in omega (arith, in_log))
            (λ i u low at. held_processed f r h k lt u (suc i) ((k.numbers.logged u (suc i)).1 at) false (inl (omega (arith, low)))),
      ) in
      let none : IsNoneOfTheFirst m t h = λ i low at. (let e = same_place (suc i) (suc m) (sym ((k.numbers.logged t (suc i)).1 at) ∙ logged) in omega (arith, e, low)) in
      let own = subst (λ l. AllZip SameAnswer (play (database_at db (log_statements h) m) l).answers (answers (attempt t (journal_of r h)))) (whole_attempt f r h k lt t born whole) (played f r m t db h k lt correct to none) in
      let its = serial_at db (λ u. submits u h) (λ u. answers_given (given_to u h)) (log h) m t next (serial f s db h b few) in
      let same = equal_by (play (database_at db (log_statements h) m) (submits t h)).answers (answers (attempt t (journal_of r h))) (answers_given (given_to t h)) own its (attempt_canonical f s r t h b) (given_canonical f s t h b) in
      ap (λ (l : List Answer). same_answers l (given_in (view_of f h) t)) (answers_seen f r h lt t) ∙ ap (λ (l : List Given). same_answers (answers (attempt t (journal_of r h))) (answers_given l)) (given_seen f t h born) ∙ same

differs_by : (f s r u i : ℕ) (db : Database) (h : History) → Begun f s h → r < 2 * f + 1 → Correct db h r → AtEachDecide (LiarsAreAtMost f f db) h → differs (view_of f h) r ≡ Some (evidence.Differs u i) → ⊥
differs_by f s r u i db h b lt correct few is =
    let at = then_some _ (next_in_log (view_of f h) r) (evidence.Differs u i) is in
    let bad = and_parts (is_whole (view_of f h) r at.0) (not (same_answers (answers_in (view_of f h) r at.0) (given_in (view_of f h) at.0))) (when_some _ _ _ at.2).0 in
    not_both (not (same_answers (answers_in (view_of f h) r at.0) (given_in (view_of f h) at.0))) bad.1
    (ap not (equal f s r at.0 db h b (kept f s h b) lt correct few (ap (slice_get (log h)) (sym (position_seen f r h lt)) ∙ at.1) bad.0))

pub differs_never : (f s c r u i : ℕ) (db : Database) (h : History) → Begun f s (record { caller = c; event = event.Convict r (evidence.Differs u i) } ∷ h) → Correct db h r → AtEachDecide (LiarsAreAtMost f f db) h → ⊥
differs_never f s c r u i db h b correct few = by_case (by_rule f s record { caller = c; event = event.Convict r (evidence.Differs u i) } h b refl)
  where
    apart : {t n : ℕ} → evidence.Differs u i ≡ evidence.Contradicted t n → ⊥
    apart e = cc e

    by_case : HasEvidence (view_of f h) (turn_of h) r (evidence.Differs u i) → ⊥
    by_case (inl by) = differs_by f s r u i db h (begun_before f s record { caller = c; event = event.Convict r (evidence.Differs u i) } h b) by.0 correct few (shown (view_of f h) r u i (turn_of h) by.2)
    by_case (inr owed) = apart owed.3
