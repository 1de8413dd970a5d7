-- The accepted answers are serial, decision by decision.
use Rattle.std.proofs.Common.{◌≡◌, ℕ, suc, ◌+◌, ◌≤◌, true, false, ◌&&◌, ◌==◌, nat_le, Option, Some, None, count_by, slice_get, [], ◌∷◌, ◌++◌, length, map, refl, ap, sym, ◌∙◌, subst, IsTrue}
use Rattle.std.specs.List.{AllZip}
use Rattle.std.proofs.lemmas.Bool.{and_parts, eqb-true, leb-true}
use Rattle.std.proofs.lemmas.List.{map-append}
use Rattle.hr_rel.specs.Database.{Database}
use Rattle.hr_meaning.specs.Serial.{play, database_after, serial_answers}
use Rattle.hr_meaning.specs.SameAnswer.{SameAnswer}
use Rattle.hr_engine.specs.Journal.{Call, Journal}
use Rattle.hr_engine.specs.Attempts.{attempt, answers}
use Rattle.hr_engine.specs.Rigorous.{Rigorous}
use Rattle.hr_history.specs.declared.entry.Entry.{Entry}
use Rattle.hr_history.specs.declared.entry.Event.{Event}
use Rattle.hr_history.specs.declared.entry.Event.TheVariants as event
use Rattle.hr_history.specs.History.{History}
use Rattle.hr_history.specs.ReplicaNumbers.{replica_numbers}
use Rattle.hr_history.specs.Transactions.{log, submits, phase_of, is_open, is_asked}
use Rattle.hr_history.specs.Replicas.{journal_of, next_journal, call_at}
use Rattle.hr_history.specs.Given.{given_to, answers_given}
use Rattle.hr_history.specs.SameAnswers.{same_answers}
use Rattle.hr_history.specs.View.{view_of}
use Rattle.hr_history.specs.Processed.{phase_in, answers_in, given_in, live_in, is_whole, processed_in}
use Rattle.hr_history.specs.Votes.{is_ready, agrees, is_decidable}
use Rattle.hr_history.specs.Faithful.{Begun}
use Rattle.hr_records.specs.Kept.{Kept}
use Rattle.hr_records.proofs.SameLists.{same_lists}
use Rattle.hr_records.proofs.Counts.{one_outside}
use Rattle.hr_records.proofs.RuleLemmas.{begun_before, by_rule, asked_is_open}
use Rattle.hr_records.proofs.ViewWords.{txn_born, given_seen, answers_seen}
use Rattle.hr_records.proofs.KeptLemmas.{kept, decided_asked}
use Rattle.hr_records.proofs.Beginnings.{map_same_at}
use Rattle.hr_serial.specs.Prefix.{log_statements}
use Rattle.hr_serial.specs.Serial.{accepted, AreSerial, LiarsAreAtMost, is_decide, AtEachDecide}
use Rattle.hr_serial.proofs.Distinct.{zip_end}
use Rattle.hr_serial.proofs.Processed.{whole_attempt}
use Rattle.hr_records.proofs.Closed.{frozen}
use Rattle.hr_serial.proofs.PlayedAt.{serial-end, played_at}

-- at a decision one correct replica answered as was given, so the given answers are those of a serial run
decided_serial : (f t : ℕ) (db : Database) (h : History) → Kept h → (1 ≤ t) × (t ≤ length (view_of f h).txns) → IsTrue (is_decidable (view_of f h) t) → LiarsAreAtMost f f db h
    → AllZip SameAnswer (play (database_after db (log_statements h)) (submits t h)).answers (answers_given (given_to t h))
decided_serial f t db h k is decidable few =
    let v = view_of f h in
    let born = txn_born f t h is in
    let active = asked_is_open (phase_of t h) (decided_asked f t h born decidable) in
    let votes = leb-true (f + 1) (count_by (agrees v t) (replica_numbers f)) (and_parts (is_asked (phase_in v t)) (nat_le (f + 1) (count_by (agrees v t) (replica_numbers f))) decidable).1 in
    let one = one_outside f (agrees v t) few.0 votes few.1 in
    let r = one.0 in
    let voted = and_parts (is_ready v t r) (same_answers (answers_in v r t) (given_in v t)) one.2 in
    let ready = and_parts (live_in v r && (processed_in v r == length (log h))) (is_whole v r t) voted.0 in
    let processed = eqb-true (processed_in v r) (length (log h)) (and_parts (live_in v r) (processed_in v r == length (log h)) ready.0).1 in
    let its = whole_attempt f r h k one.1 t born ready.1 in
    let plays = played_at f r db h k one.1 (few.2 r one.1 one.3) t active processed its in
    let given : answers (attempt t (journal_of r h)) ≡ answers_given (given_to t h) =
    sym (answers_seen f r h one.1 t) ∙ same_lists (answers_in v r t) (given_in v t) voted.1 ∙ ap answers_given (given_seen f t h born) in
    subst (λ xs. AllZip SameAnswer (play (database_after db (log_statements h)) (submits t h)).answers xs) given plays

module _ (f s : ℕ) (db : Database) (e : Entry) (h : History) (k : Kept h) (begins : Begun f s (e ∷ h)) where
  closed : (i t : ℕ) → slice_get (log h) i ≡ Some t → is_open (phase_of t h) ≡ false
  closed i t at = ap is_open ((k.numbers.logged t (suc i)).1 at)

  -- the log's transactions keep their statements and answers
  same_statements : map (λ t. submits t h) (log h) ≡ map (λ t. submits t (e ∷ h)) (log h)
  same_statements = map_same_at (λ t. submits t h) (λ t. submits t (e ∷ h)) (log h) (λ i t at. sym (frozen f s e h k begins t (closed i t at)).0)

  same_answers_kept : map (λ t. answers_given (given_to t h)) (log h) ≡ map (λ t. answers_given (given_to t (e ∷ h))) (log h)
  same_answers_kept =
      map_same_at (λ t. answers_given (given_to t h)) (λ t. answers_given (given_to t (e ∷ h))) (log h) (λ i t at. ap answers_given (sym (frozen f s e h k begins t (closed i t at)).1))

  kept_serial : AreSerial db h → AllZip (AllZip SameAnswer) (serial_answers db (map (λ t. submits t (e ∷ h)) (log h))) (map (λ t. answers_given (given_to t (e ∷ h))) (log h))
  kept_serial serial =
      subst (λ xs. AllZip (AllZip SameAnswer) (serial_answers db xs) (map (λ t. answers_given (given_to t (e ∷ h))) (log h))) same_statements
      (subst (λ ys. AllZip (AllZip SameAnswer) (serial_answers db (log_statements h)) ys) same_answers_kept serial)

serial_next : (f s c : ℕ) (db : Database) (e : Event) (h : History) → Kept h → Begun f s (record { caller = c; event = e } ∷ h) → AreSerial db h → (is_decide e ≡ true → LiarsAreAtMost f f db (record { caller = c; event = e } ∷ h))
    → AreSerial db (record { caller = c; event = e } ∷ h)
serial_next f s c db (event.Decide t) h k begins serial few =
    let e : Entry = record { caller = c; event = event.Decide t } in
    let rule = by_rule f s e h begins refl in
    let stmts : log_statements (e ∷ h) ≡ log_statements h ++ submits t h ∷ [] = map-append (λ u. submits u h) (log h) (t ∷ []) in
    let told : accepted (e ∷ h) ≡ accepted h ++ answers_given (given_to t h) ∷ [] = map-append (λ u. answers_given (given_to u h)) (log h) (t ∷ []) in
    let now = decided_serial f t db h k rule.0 rule.1 (few refl) in
    subst (λ xs. AllZip (AllZip SameAnswer) (serial_answers db xs) (accepted (e ∷ h))) (sym stmts)
    (subst (λ ys. AllZip (AllZip SameAnswer) (serial_answers db (log_statements h ++ submits t h ∷ [])) ys) (sym told)
    (subst (λ zs. AllZip (AllZip SameAnswer) zs (accepted h ++ answers_given (given_to t h) ∷ [])) (sym (serial-end db (log_statements h) (submits t h)))
    (zip_end (AllZip SameAnswer) (serial_answers db (log_statements h)) (accepted h) (play (database_after db (log_statements h)) (submits t h)).answers (answers_given (given_to t h)) serial now)))
serial_next f s c db (event.Begin session txn) h k begins serial few = kept_serial f s db record { caller = c; event = event.Begin session txn } h k begins serial
serial_next f s c db (event.Submit txn index stmt) h k begins serial few = kept_serial f s db record { caller = c; event = event.Submit txn index stmt } h k begins serial
serial_next f s c db (event.AskCommit txn) h k begins serial few = serial
serial_next f s c db (event.AskRollback txn) h k begins serial few = serial
serial_next f s c db (event.Take r j) h k begins serial few = serial
serial_next f s c db (event.Give r told) h k begins serial few = kept_serial f s db record { caller = c; event = event.Give r told } h k begins serial
serial_next f s c db (event.Restarted r n) h k begins serial few = serial
serial_next f s c db event.Suspect h k begins serial few = serial
serial_next f s c db (event.Refuse txn x) h k begins serial few = serial
serial_next f s c db (event.Convict r x) h k begins serial few = serial
serial_next f s c db (event.NewPrimary r) h k begins serial few = serial
serial_next f s c db (event.Preempt r txn) h k begins serial few = serial

pub serial : (f s : ℕ) (db : Database) (h : History) → Begun f s h → AtEachDecide (LiarsAreAtMost f f db) h → AreSerial db h
serial f s db [] begins few = tt
serial f s db (e ∷ h) begins few =
    let before = begun_before f s e h begins in
    serial_next f s e.caller db e.event h (kept f s h before) begins (serial f s db h before few.0) few.1

-- who is correct in the end was so all along
pub rigorous_before : (db : Database) (c : Option Call) (j : Journal) → Rigorous db (next_journal c j) → Rigorous db j
rigorous_before db None j rigorous = rigorous
rigorous_before db (Some call) j rigorous = rigorous.0

pub fewer_before : (n f : ℕ) (db : Database) (e : Entry) (h : History) → LiarsAreAtMost n f db (e ∷ h) → LiarsAreAtMost n f db h
fewer_before n f db e h few = (few.0, few.1, λ r lt none. rigorous_before db (call_at r e.event h) (journal_of r h) (few.2 r lt none))

pub few_throughout : (f : ℕ) (db : Database) (h : History) → LiarsAreAtMost f f db h → AtEachDecide (LiarsAreAtMost f f db) h
few_throughout f db [] few = tt
few_throughout f db (e ∷ h) few = (few_throughout f db h (fewer_before f f db e h few), λ decided. few)
