-- A primary is convicted as contradicted only where a transaction was just refused for it.
use Rattle.std.proofs.Common.{◌≡◌, inl, inr, ⊎_elim, ℕ, Bool, Option, Some, is_some, List, [], ◌∷◌, length, refl, ap, sym, ◌∙◌}
use Rattle.std.proofs.lemmas.Bool.{and_parts}
use Rattle.hr_base.specs.Lists.{first_some, last_of}
use Rattle.hr_rel.specs.Database.{Database}
use Rattle.hr_engine.specs.declared.reply.RunReply.{RunReply}
use Rattle.hr_engine.specs.declared.reply.RunReply.TheVariants as run
use Rattle.hr_history.specs.declared.cause.CauseAt.TheVariants as cause
use Rattle.hr_history.specs.declared.entry.Event.{Event}
use Rattle.hr_history.specs.declared.entry.Event.TheVariants as event
use Rattle.hr_history.specs.declared.evidence.Evidence.TheVariants as evidence
use Rattle.hr_history.specs.History.{History}
use Rattle.hr_history.specs.Transactions.{is_asked}
use Rattle.hr_history.specs.Primary.{primary_of}
use Rattle.hr_history.specs.Turn.{Turn, Counted, Contradiction, turn_of, owed, owed_after}
use Rattle.hr_history.specs.View.{View, view_of}
use Rattle.hr_history.specs.Processed.{phase_in, replica_in, runs_in, wait_in}
use Rattle.hr_history.specs.Jobs.{next_in_log}
use Rattle.hr_history.specs.Votes.{contradicted_by}
use Rattle.hr_history.specs.Evidence.{evidence_of, differs, bad_waits, bad_reply, bad_restart}
use Rattle.hr_history.specs.Faithful.{Begun, Correct}
use Rattle.hr_records.specs.ByRule.{HasEvidence}
use Rattle.hr_records.proofs.Options.{some_none}
use Rattle.hr_records.proofs.RuleLemmas.{begun_before, by_rule}
use Rattle.hr_records.proofs.ViewWords.{open_seen, phase_seen}
use Rattle.hr_records.proofs.KeptLemmas.{kept}
use Rattle.hr_serial.specs.Serial.{LiarsAreAtMost}
use Rattle.hr_causes.proofs.TurnWords.{when_some}
use Rattle.hr_convictions.proofs.EvidenceLemmas.{first_of, then_some, counted, replied}
use Rattle.hr_convictions.proofs.ContradictedLemmas.{not_contradicted}

-- WHAT A VIEW SHOWS IS NO CONTRADICTION
no_reply : (running : ℕ → Bool) (waits : ℕ → List ℕ) (n t u i : ℕ) (o : Option RunReply) → bad_reply running waits n t o ≡ Some (evidence.Contradicted u i) → ⊥
no_reply running waits n t u i (Some (run.Blocked named)) is = apart (when_some _ _ _ is).1
  where
    apart : evidence.BadBlocked t ≡ evidence.Contradicted u i → ⊥
    apart e = cc e
no_reply running waits n t u i (Some (run.Deadlock cycle)) is = apart (when_some _ _ _ is).1
  where
    apart : evidence.BadDeadlock t ≡ evidence.Contradicted u i → ⊥
    apart e = cc e
no_reply running waits n t u i _ is = some_none _ (sym is)

module _ (v : View) (r u i : ℕ) where
  no_wait : bad_waits v r ≡ Some (evidence.Contradicted u i) → ⊥
  no_wait is = let it = replied v r (evidence.Contradicted u i) is in no_reply (runs_in v r) (wait_in v r) (length (replica_in v r).attempts) it.txn u i (last_of v.replies) it.bad

  no_count : (o : Option Counted) → bad_restart r o ≡ Some (evidence.Contradicted u i) → ⊥
  no_count o is = apart (counted r o (evidence.Contradicted u i) is).as_evidence
    where
      apart : {n : ℕ} → evidence.BadRestart n ≡ evidence.Contradicted u i → ⊥
      apart e = cc e

  no_difference : differs v r ≡ Some (evidence.Contradicted u i) → ⊥
  no_difference is = let at = then_some _ (next_in_log v r) (evidence.Contradicted u i) is in apart (when_some _ _ (evidence.Contradicted u i) at.2).1
    where
      apart : {t n : ℕ} → evidence.Differs t n ≡ evidence.Contradicted u i → ⊥
      apart e = cc e

  not_shown : (turn : Turn) → evidence_of v r turn ≡ Some (evidence.Contradicted u i) → ⊥
  not_shown turn is =
      ⊎_elim (λ (a : differs v r ≡ Some (evidence.Contradicted u i)). no_difference a)
      (λ (a : first_some (bad_waits v r ∷ bad_restart r turn.bad_count ∷ []) ≡ Some (evidence.Contradicted u i)).
      ⊎_elim (λ (b : bad_waits v r ≡ Some (evidence.Contradicted u i)). no_wait b)
      (λ (b : first_some (bad_restart r turn.bad_count ∷ []) ≡ Some (evidence.Contradicted u i)).
      ⊎_elim (λ (d : bad_restart r turn.bad_count ≡ Some (evidence.Contradicted u i)). no_count turn.bad_count d) (λ (d : first_some [] ≡ Some (evidence.Contradicted u i)). some_none _ (sym d))
      (first_of (bad_restart r turn.bad_count) [] (evidence.Contradicted u i) b))
      (first_of (bad_waits v r) (bad_restart r turn.bad_count ∷ []) (evidence.Contradicted u i) a))
      (first_of (differs v r) (bad_waits v r ∷ bad_restart r turn.bad_count ∷ []) (evidence.Contradicted u i) is)

-- WHERE IT IS OWED
pub refused_as : (f s c t index by at p : ℕ) (db : Database) (h : History) → Begun f s (record { caller = c; event = event.Refuse t (cause.Differ index by at) } ∷ h) → primary_of h ≡ Some p → Correct db h p → LiarsAreAtMost f f db h → ⊥
refused_as f s c t index by at p db h b lead correct few =
    let v = view_of f h in
    let rule = by_rule f s record { caller = c; event = event.Refuse t (cause.Differ index by at) } h b refl in
    let before = begun_before f s record { caller = c; event = event.Refuse t (cause.Differ index by at) } h b in
    let born = (open_seen f t h rule.0).0 in
    let asked = (and_parts (is_asked (phase_in v t)) (is_some (contradicted_by v t)) (rule.1).0).0 in
    not_contradicted f s p t db h before (kept f s h before) lead correct born (ap is_asked (sym (phase_seen f t h born)) ∙ asked) few by (rule.1).1

owed_by : (f s c p : ℕ) (e : Event) (x : Contradiction) (db : Database) (h : History) → Begun f s (record { caller = c; event = e } ∷ h) → owed_after e ≡ Some x → primary_of (record { caller = c; event = e } ∷ h) ≡ Some p
    → Correct db (record { caller = c; event = e } ∷ h) p → LiarsAreAtMost f f db (record { caller = c; event = e } ∷ h) → ⊥
owed_by f s c p (event.Refuse t (cause.Differ index by at)) x db h b is lead correct few = refused_as f s c t index by at p db h b lead correct few
owed_by f s c p _ x db h b is lead correct few = some_none x (sym is)

owed_in : (f s p : ℕ) (x : Contradiction) (db : Database) (h : History) → Begun f s h → owed h ≡ Some x → primary_of h ≡ Some p → Correct db h p → LiarsAreAtMost f f db h → ⊥
owed_in f s p x db [] b is lead correct few = some_none x (sym is)
owed_in f s p x db (e ∷ h) b is lead correct few = owed_by f s e.caller p e.event x db h b is lead correct few

pub contradicted_never : (f s c r u i : ℕ) (db : Database) (h : History) → Begun f s (record { caller = c; event = event.Convict r (evidence.Contradicted u i) } ∷ h) → Correct db h r → LiarsAreAtMost f f db h → ⊥
contradicted_never f s c r u i db h b correct few = by_case (by_rule f s record { caller = c; event = event.Convict r (evidence.Contradicted u i) } h b refl)
  where
    by_case : HasEvidence (view_of f h) (turn_of h) r (evidence.Contradicted u i) → ⊥
    by_case (inl by) = not_shown (view_of f h) r u i (turn_of h) by.2
    by_case (inr it) = owed_in f s r it.0 db h (begun_before f s record { caller = c; event = event.Convict r (evidence.Contradicted u i) } h b) it.1 it.2 correct few
