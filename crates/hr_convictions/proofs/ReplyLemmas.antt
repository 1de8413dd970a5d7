-- A correct replica's replies that tell of waits pass their tests.
use Rattle.std.proofs.Common.{◌≡◌, ◌⊎◌, inl, inr, ℕ, ◌+◌, ◌*◌, ◌<◌, Bool, true, false, Some, List, ◌∷◌, length, refl, ap, ◌∙◌, subst}
use Rattle.hr_base.specs.Lists.{last_of}
use Rattle.hr_rel.specs.Database.{Database}
use Rattle.hr_engine.specs.Journal.{Ran}
use Rattle.hr_engine.specs.Attempts.{is_running}
use Rattle.hr_engine.specs.Waits.{wait, is_sound_deadlock}
use Rattle.hr_engine.specs.Rigorous.{Rigorous, IsSound}
use Rattle.hr_engine.specs.declared.reply.RunReply.{RunReply}
use Rattle.hr_engine.specs.declared.reply.RunReply.TheVariants as run
use Rattle.hr_engine.proofs.WaitLaws.{wait-blocked_other, wait-deadlock_other}
use Rattle.hr_history.specs.declared.entry.Event.TheVariants as event
use Rattle.hr_history.specs.declared.evidence.Evidence.{Evidence}
use Rattle.hr_history.specs.declared.evidence.Evidence.TheVariants as evidence
use Rattle.hr_history.specs.History.{History}
use Rattle.hr_history.specs.Replicas.{journal_of, stmt_at}
use Rattle.hr_history.specs.Turn.{turn_of, fresh_of, replies_to_runs}
use Rattle.hr_history.specs.View.{view_of}
use Rattle.hr_history.specs.Processed.{replica_in, runs_in, wait_in}
use Rattle.hr_history.specs.Evidence.{bad_restart, bad_waits, is_sound_blocked}
use Rattle.hr_history.specs.Faithful.{Begun, Correct}
use Rattle.hr_history.proofs.Chains.{sound_passes}
use Rattle.hr_convictions.proofs.EvidenceLemmas.{Convicted, convicted, counted, BadReply, replied, blocked_of, deadlock_of}
use Rattle.hr_convictions.proofs.ReplyWords.{runs_seen, waits_seen, LastCall, last_call}
use Rattle.hr_convictions.proofs.WaitWords.{sound_blocked_after, sound_deadlock_after}

no_both : {b : Bool} → b ≡ true → b ≡ false → ⊥
no_both e d = cc (e, d)

-- what a correct replica's last call told is sound by the journal before
sound_last : (db : Database) (r t : ℕ) (told : RunReply) (h : History) → Correct db h r → (now : LastCall r t told h) → IsSound (Ran t (stmt_at now.older t now.index) told) (journal_of r now.older)
sound_last db r t told h correct now = (subst (Rigorous db) now.journal correct).1

module _ (f r t : ℕ) (db : Database) (h : History) (lt : r < 2 * f + 1) (fresh : fresh_of h ≡ Some record { replica = r; txn = t }) (correct : Correct db h r) where
  blocked_passes : (named : List ℕ) → LastCall r t (run.Blocked named) h
      → is_sound_blocked (runs_in (view_of f h) r) (wait_in (view_of f h) r) (length (replica_in (view_of f h) r).attempts) t named ≡ true
  blocked_passes named now =
      sound_passes (wait_in (view_of f h) r) (runs_in (view_of f h) r) (length (replica_in (view_of f h) r).attempts) t named
      (sound_blocked_after (runs_in (view_of f h) r) (λ u. is_running u (journal_of r now.older)) (wait_in (view_of f h) r) (λ u. wait u (journal_of r now.older)) t
      (λ u. runs_seen f r u h lt ∙ ap (is_running u) now.journal)
      (λ u other. waits_seen f r t u h lt fresh other ∙ ap (wait u) now.journal ∙ wait-blocked_other (journal_of r now.older) t u (stmt_at now.older t now.index) named other)
      named (sound_last db r t (run.Blocked named) h correct now))

  deadlock_passes : (cycle : List ℕ) → LastCall r t (run.Deadlock cycle) h → is_sound_deadlock (runs_in (view_of f h) r) (wait_in (view_of f h) r) t cycle ≡ true
  deadlock_passes cycle now =
      sound_deadlock_after (runs_in (view_of f h) r) (λ u. is_running u (journal_of r now.older)) (wait_in (view_of f h) r) (λ u. wait u (journal_of r now.older)) t
      (λ u. runs_seen f r u h lt ∙ ap (is_running u) now.journal)
      (λ u other. waits_seen f r t u h lt fresh other ∙ ap (wait u) now.journal ∙ wait-deadlock_other (journal_of r now.older) t u (stmt_at now.older t now.index) cycle other)
      cycle (sound_last db r t (run.Deadlock cycle) h correct now)

-- a count is no such reply
no_count : (e : Evidence) (n : ℕ) → evidence.BadRestart n ≡ e → ((t : ℕ) × (e ≡ evidence.BadBlocked t)) ⊎ ((t : ℕ) × (e ≡ evidence.BadDeadlock t)) → ⊥
no_count e n is (inl at) = cc (is, at.1)
no_count e n is (inr at) = cc (is, at.1)

blocked_by : (f r t : ℕ) (db : Database) (h : History) → r < 2 * f + 1 → Correct db h r → BadReply (view_of f h) r (evidence.BadBlocked t) → ⊥
blocked_by f r t db h lt correct now =
    let told = blocked_of (runs_in (view_of f h) r) (wait_in (view_of f h) r) (length (replica_in (view_of f h) r).attempts) now.txn t (last_of (replies_to_runs h)) now.bad in
    no_both (blocked_passes f r now.txn db h lt now.fresh correct told.0 (last_call r now.txn (run.Blocked told.0) h now.fresh told.1)) told.2

deadlock_by : (f r t : ℕ) (db : Database) (h : History) → r < 2 * f + 1 → Correct db h r → BadReply (view_of f h) r (evidence.BadDeadlock t) → ⊥
deadlock_by f r t db h lt correct now =
    let told = deadlock_of (runs_in (view_of f h) r) (wait_in (view_of f h) r) (length (replica_in (view_of f h) r).attempts) now.txn t (last_of (replies_to_runs h)) now.bad in
    no_both (deadlock_passes f r now.txn db h lt now.fresh correct told.0 (last_call r now.txn (run.Deadlock told.0) h now.fresh told.1)) told.2

pub blocked_never : (f s c r t : ℕ) (db : Database) (h : History) → Begun f s (record { caller = c; event = event.Convict r (evidence.BadBlocked t) } ∷ h) → Correct db h r → ⊥
blocked_never f s c r t db h b correct = by_case now.shown
  where
    now : Convicted f r (evidence.BadBlocked t) h
    now = convicted f s c r (evidence.BadBlocked t) h tt b

    by_case : (bad_waits (view_of f h) r ≡ Some (evidence.BadBlocked t)) ⊎ (bad_restart r (turn_of h).bad_count ≡ Some (evidence.BadBlocked t)) → ⊥
    by_case (inl waits) = blocked_by f r t db h now.within correct (replied (view_of f h) r (evidence.BadBlocked t) waits)
    by_case (inr count) = no_count (evidence.BadBlocked t) _ (counted r (turn_of h).bad_count (evidence.BadBlocked t) count).as_evidence (inl (t, refl))

pub deadlock_never : (f s c r t : ℕ) (db : Database) (h : History) → Begun f s (record { caller = c; event = event.Convict r (evidence.BadDeadlock t) } ∷ h) → Correct db h r → ⊥
deadlock_never f s c r t db h b correct = by_case now.shown
  where
    now : Convicted f r (evidence.BadDeadlock t) h
    now = convicted f s c r (evidence.BadDeadlock t) h tt b

    by_case : (bad_waits (view_of f h) r ≡ Some (evidence.BadDeadlock t)) ⊎ (bad_restart r (turn_of h).bad_count ≡ Some (evidence.BadDeadlock t)) → ⊥
    by_case (inl waits) = deadlock_by f r t db h now.within correct (replied (view_of f h) r (evidence.BadDeadlock t) waits)
    by_case (inr count) = no_count (evidence.BadDeadlock t) _ (counted r (turn_of h).bad_count (evidence.BadDeadlock t) count).as_evidence (inr (t, refl))
