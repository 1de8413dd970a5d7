-- A correct primary isn't contradicted.
use Rattle.std.proofs.Common.{◌≡◌, ℕ, suc, ◌+◌, ◌*◌, ◌<◌, true, not, ◌&&◌, ◌==◌, nat_le, Some, count_by, List, length, ap, sym, ◌∙◌, subst, arith}
use Rattle.std.specs.List.{AllZip}
use Rattle.std.proofs.lemmas.Bool.{and_parts, eqb-true, leb-true}
use Rattle.hr_rel.specs.declared.answer.Answer.{Answer}
use Rattle.hr_rel.specs.Database.{Database}
use Rattle.hr_meaning.specs.Serial.{play, database_at}
use Rattle.hr_meaning.specs.SameAnswer.{SameAnswer}
use Rattle.hr_engine.specs.Attempts.{attempt, statements, answers}
use Rattle.hr_history.specs.History.{History}
use Rattle.hr_history.specs.ReplicaNumbers.{replica_numbers}
use Rattle.hr_history.specs.SameAnswers.{same_answers}
use Rattle.hr_history.specs.Transactions.{begun, log, submits, phase_of, is_open, is_asked}
use Rattle.hr_history.specs.Primary.{primary_of}
use Rattle.hr_history.specs.Replicas.{journal_of}
use Rattle.hr_history.specs.Given.{Given, given_to, answers_given}
use Rattle.hr_history.specs.View.{view_of}
use Rattle.hr_history.specs.Processed.{answers_in, given_in, live_in, is_whole, processed_in}
use Rattle.hr_history.specs.Votes.{is_ready, agree_on, contradicts, contradicted_by}
use Rattle.hr_history.specs.Faithful.{Begun, Correct}
use Rattle.hr_records.specs.Numbers.{IsBorn}
use Rattle.hr_records.specs.Kept.{Kept}
use Rattle.hr_records.proofs.Options.{find_has}
use Rattle.hr_records.proofs.Places.{numbered_some}
use Rattle.hr_records.proofs.Counts.{one_outside}
use Rattle.hr_records.proofs.Beginnings.{begins_whole}
use Rattle.hr_records.proofs.NumberSteps.{not_both, open_unlogged, asked_balance}
use Rattle.hr_records.proofs.RuleLemmas.{asked_is_open}
use Rattle.hr_records.proofs.ReplicaSteps.{statements_many}
use Rattle.hr_records.proofs.SameLists.{same_lists}
use Rattle.hr_records.proofs.ViewWords.{given_seen, answers_seen}
use Rattle.hr_serial.specs.Prefix.{log_statements}
use Rattle.hr_serial.specs.Serial.{LiarsAreAtMost}
use Rattle.hr_serial.proofs.Processed.{whole_attempt}
use Rattle.hr_serial.proofs.PrefixLemmas.{at_prefix}
use Rattle.hr_barriers.specs.Played.{IsProcessedTo, IsNoneOfTheFirst}
use Rattle.hr_barriers.proofs.PlayedLemmas.{played}
use Rattle.hr_barriers.proofs.GivenLemmas.{given_by_primary}
use Rattle.hr_barriers.proofs.ProcessedLemmas.{primary_within, primary_processed}
use Rattle.hr_barriers.proofs.CanonicalLemmas.{attempt_canonical, given_canonical, equal_by}

module _ (f s p t : ℕ) (db : Database) (h : History) (b : Begun f s h) (k : Kept h) (lead : primary_of h ≡ Some p) (correct : Correct db h p) (born : IsBorn (length (begun h)) t) (asked : is_asked (phase_of t h) ≡ true) where
  o : is_open (phase_of t h) ≡ true
  o = asked_is_open (phase_of t h) asked

  none : IsNoneOfTheFirst (length (log h)) t h
  none i low at = open_unlogged (phase_of t h) (suc i) o ((k.numbers.logged t (suc i)).1 at)

  -- the given answers are those on the whole log
  given_there : AllZip SameAnswer (play (database_at db (log_statements h) (length (log h))) (submits t h)).answers (answers_given (given_to t h))
  given_there =
      let session = numbered_some (begun h) t born in
      let balance = asked_balance (phase_of t h) (length (submits t h)) (length (given_to t h)) _ asked (k.numbers.balance t session.0 session.1) in
      let l = (k.leads p).leads lead t o in
      let all : statements (attempt t (journal_of p h)) ≡ submits t h =
      begins_whole (statements (attempt t (journal_of p h))) (submits t h) ((k.replicas p).attempts t) (omega (arith, statements_many (attempt t (journal_of p h)), l.0, balance)) in
      let to : IsProcessedTo f p (length (log h)) h = ((at_prefix h k p).within, omega (arith, primary_processed f s p h b lead)) in
      subst (λ ys. AllZip SameAnswer (play (database_at db (log_statements h) (length (log h))) (submits t h)).answers ys) (sym (given_by_primary f s t p h b lead o))
      (subst (λ xs. AllZip SameAnswer (play (database_at db (log_statements h) (length (log h))) xs).answers (answers (attempt t (journal_of p h)))) all
      (played f p (length (log h)) t db h k (primary_within f s p h b lead) correct to none))

  -- and so are those of a correct replica that is ready
  pub ready_equal : (r : ℕ) → r < 2 * f + 1 → Correct db h r → is_ready (view_of f h) t r ≡ true → same_answers (answers_in (view_of f h) r t) (given_in (view_of f h) t) ≡ true
  ready_equal r lt its ready =
      let v = view_of f h in
      let two = and_parts (live_in v r && (processed_in v r == length (log h))) (is_whole v r t) ready in
      let processed = eqb-true (processed_in v r) (length (log h)) (and_parts (live_in v r) (processed_in v r == length (log h)) two.0).1 in
      let to : IsProcessedTo f r (length (log h)) h = ((at_prefix h k r).within, omega (arith, processed)) in
      let own = subst (λ l. AllZip SameAnswer (play (database_at db (log_statements h) (length (log h))) l).answers (answers (attempt t (journal_of r h)))) (whole_attempt f r h k lt t born two.1) (played f r (length (log h)) t db h k lt its to none) in
      let same = equal_by (play (database_at db (log_statements h) (length (log h))) (submits t h)).answers (answers (attempt t (journal_of r h))) (answers_given (given_to t h)) own given_there (attempt_canonical f s r t h b) (given_canonical f s t h b) in
      ap (λ (l : List Answer). same_answers l (given_in v t)) (answers_seen f r h lt t) ∙ ap (λ (l : List Given). same_answers (answers (attempt t (journal_of r h))) (answers_given l)) (given_seen f t h born) ∙ same

  -- so no f + 1 agree on others
  pub not_contradicted : LiarsAreAtMost f f db h → (by : ℕ) → contradicted_by (view_of f h) t ≡ Some by → ⊥
  not_contradicted few by is =
      let v = view_of f h in
      let found = (find_has (contradicts v t) (replica_numbers f) by is).1 in
      let two = and_parts (is_ready v t by && not (same_answers (answers_in v by t) (given_in v t))) (nat_le (f + 1) (count_by (agree_on v t by) (replica_numbers f))) found in
      let one = one_outside f (agree_on v t by) few.0 (leb-true (f + 1) (count_by (agree_on v t by) (replica_numbers f)) two.1) few.1 in
      let agrees = and_parts (is_ready v t one.0) (same_answers (answers_in v one.0 t) (answers_in v by t)) one.2 in
      let equal = ready_equal one.0 one.1 (few.2 one.0 one.1 one.3) agrees.0 in
      not_both (not (same_answers (answers_in v by t) (given_in v t))) (and_parts (is_ready v t by) (not (same_answers (answers_in v by t) (given_in v t))) two.0).1
      (ap not (ap (λ (l : List Answer). same_answers l (given_in v t)) (sym (same_lists (answers_in v one.0 t) (answers_in v by t) agrees.1)) ∙ equal))
