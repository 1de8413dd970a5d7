-- A correct replica's counts pass their test.
use Rattle.std.proofs.Common.{◌≡◌, ◌⊎◌, inl, inr, ℕ, ◌+◌, Bool, true, false, not, ◌&&◌, ◌==◌, Option, Some, None, is_some, IsSome, Ok, List, [], ◌∷◌, length, refl, ap, sym, ◌∙◌, subst}
use Rattle.std.proofs.lemmas.Bool.{eq-eqb, not-true}
use Rattle.hr_base.specs.Lists.{when, last_of}
use Rattle.hr_base.specs.Counters.{shown}
use Rattle.hr_base.proofs.Tests.{or_first, or_second}
use Rattle.hr_rel.specs.Database.{Database}
use Rattle.hr_rel.specs.declared.stmt.Stmt.{Stmt}
use Rattle.hr_engine.specs.Journal.{Restarted, Journal}
use Rattle.hr_engine.specs.Base.{settled, count, IsSoundCount}
use Rattle.hr_engine.specs.Rigorous.{Rigorous}
use Rattle.hr_history.specs.declared.entry.Entry.{Entry}
use Rattle.hr_history.specs.declared.entry.Event.{Event}
use Rattle.hr_history.specs.declared.entry.Event.TheVariants as event
use Rattle.hr_history.specs.declared.evidence.Evidence.TheVariants as evidence
use Rattle.hr_history.specs.History.{History}
use Rattle.hr_history.specs.Replicas.{out_at, journal_of, restart_if, restart_of, next_journal}
use Rattle.hr_history.specs.Turn.{Counted, turn_of, bad_count, replies_to_runs, is_sound_count}
use Rattle.hr_history.specs.View.{view_of}
use Rattle.hr_history.specs.Processed.{replica_in, runs_in, wait_in}
use Rattle.hr_history.specs.Evidence.{bad_waits, bad_restart}
use Rattle.hr_history.specs.Faithful.{Begun, Correct}
use Rattle.hr_history.proofs.StepLemmas.{call_allowed}
use Rattle.hr_records.proofs.Options.{some_none}
use Rattle.hr_records.proofs.Allowed.{restart_allowed}
use Rattle.hr_records.proofs.RuleLemmas.{begun_before}
use Rattle.hr_causes.proofs.TurnWords.{when_some}
use Rattle.hr_convictions.proofs.EvidenceLemmas.{convicted, BadCount, counted, BadReply, replied, reply_is_no_count}

-- The replica told this count at a restart, by the journal then, and it fails the test; its journal ends there.
record ToldCount (bad : Counted) (h : History) : Type 0 where
  older : History
  journal : journal_of bad.replica h ≡ Restarted (Ok bad.count) ∷ journal_of bad.replica older
  fails : is_sound_count bad.count (journal_of bad.replica older) ≡ false

told_now : (f s c q n : ℕ) (h : History) (bad : Counted) → Begun f s (record { caller = c; event = event.Restarted q n } ∷ h)
    → when (not (is_sound_count n (journal_of q h))) record { replica = q; count = n } ≡ Some bad → ToldCount bad (record { caller = c; event = event.Restarted q n } ∷ h)
told_now f s c q n h bad b e =
    let it = when_some (not (is_sound_count n (journal_of q h))) record { replica = q; count = n } bad e in
    let out = (restart_allowed f s c h q n (call_allowed f s record { caller = c; event = event.Restarted q n } h b refl)).1 in
    subst (λ (x : Counted). ToldCount x (record { caller = c; event = event.Restarted q n } ∷ h)) it.1 record {
      older = h;
      journal = ap (λ x. next_journal (restart_if x q n (λ p. out_at p h)) (journal_of q h)) (eq-eqb q q refl) ∙ ap (λ o. next_journal (restart_of o n) (journal_of q h)) out;
      fails = not-true (is_sound_count n (journal_of q h)) it.0;
    }

told_before : (e : Entry) (h : History) (bad : Counted) → journal_of bad.replica (e ∷ h) ≡ journal_of bad.replica h → ToldCount bad h → ToldCount bad (e ∷ h)
told_before e h bad same it = record { older = it.older; journal = same ∙ it.journal; fails = it.fails }

told_by : (f s c : ℕ) (e : Event) (h : History) (bad : Counted) → Begun f s (record { caller = c; event = e } ∷ h) → bad_count (record { caller = c; event = e } ∷ h) ≡ Some bad
    → (bad_count h ≡ Some bad → ToldCount bad h) → ToldCount bad (record { caller = c; event = e } ∷ h)
told_by f s c (event.Restarted q n) h bad b is rest = told_now f s c q n h bad b is
told_by f s c (event.Decide txn) h bad b is rest = told_before record { caller = c; event = event.Decide txn } h bad refl (rest is)
told_by f s c (event.Refuse txn x) h bad b is rest = told_before record { caller = c; event = event.Refuse txn x } h bad refl (rest is)
told_by f s c (event.Convict q x) h bad b is rest = told_before record { caller = c; event = event.Convict q x } h bad refl (rest is)
told_by f s c (event.NewPrimary q) h bad b is rest = told_before record { caller = c; event = event.NewPrimary q } h bad refl (rest is)
told_by f s c (event.Preempt q txn) h bad b is rest = told_before record { caller = c; event = event.Preempt q txn } h bad refl (rest is)
told_by f s c _ h bad b is rest = absurd (some_none bad (sym is))

told_count : (f s : ℕ) (h : History) (bad : Counted) → Begun f s h → bad_count h ≡ Some bad → ToldCount bad h
told_count f s [] bad b is = absurd (some_none bad (sym is))
told_count f s (e ∷ h) bad b is = told_by f s e.caller e.event h bad b is (λ before. told_count f s h bad (begun_before f s e h b) before)

-- a count that a rigorous journal may have passes the test
doubt_shown : (o : Option (List Stmt)) → IsSome o → is_some o ≡ true
doubt_shown (Some stmts) is = refl
doubt_shown None is = is

count_passes : (told : ℕ) (j : Journal) → IsSoundCount told j → is_sound_count told j ≡ true
count_passes told j (inl e) = or_first (told == shown (count j)) _ (eq-eqb told (shown (count j)) e)
count_passes told j (inr e) =
    or_second (told == shown (count j)) (is_some (settled j).doubt && (told == shown (count j + 1)))
    (λ i. doubt_shown (settled j).doubt e.0 i && eq-eqb told (shown (count j + 1)) e.1 i)

no_both : {b : Bool} → b ≡ true → b ≡ false → ⊥
no_both e d = cc (e, d)

never_told : (db : Database) (h : History) (bad : Counted) → Correct db h bad.replica → ToldCount bad h → ⊥
never_told db h bad correct it = no_both (count_passes bad.count (journal_of bad.replica it.older) (subst (Rigorous db) it.journal correct).1) it.fails

pub restart_never : (f s c r n : ℕ) (db : Database) (h : History) → Begun f s (record { caller = c; event = event.Convict r (evidence.BadRestart n) } ∷ h) → Correct db h r → ⊥
restart_never f s c r n db h b correct = by_case (convicted f s c r (evidence.BadRestart n) h tt b).shown
  where
    of_reply : BadReply (view_of f h) r (evidence.BadRestart n) → ⊥
    of_reply now = reply_is_no_count (runs_in (view_of f h) r) (wait_in (view_of f h) r) (length (replica_in (view_of f h) r).attempts) now.txn n (last_of (replies_to_runs h)) now.bad

    of_count : BadCount r (turn_of h).bad_count (evidence.BadRestart n) → ⊥
    of_count it =
        never_told db h record { replica = r; count = it.count } correct
        (told_count f s h record { replica = r; count = it.count } (begun_before f s record { caller = c; event = event.Convict r (evidence.BadRestart n) } h b) it.told)

    by_case : (bad_waits (view_of f h) r ≡ Some (evidence.BadRestart n)) ⊎ (bad_restart r (turn_of h).bad_count ≡ Some (evidence.BadRestart n)) → ⊥
    by_case (inl waits) = of_reply (replied (view_of f h) r (evidence.BadRestart n) waits)
    by_case (inr told) = of_count (counted r (turn_of h).bad_count (evidence.BadRestart n) told)
