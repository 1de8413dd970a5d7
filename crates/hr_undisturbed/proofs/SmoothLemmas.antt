-- A run of a scenario that disturbs nothing is undisturbed, and what follows from that.
use Rattle.std.proofs.Common.{◌≡◌, inl, inr, ℕ, ◌*◌, ◌≤◌, Bool, true, false, cond, nat_le, ◌==◌, Option, Some, None, List, [], ◌∷◌, ◌++◌, length, refl, ap, sym, ◌∙◌, subst, arith}
use Rattle.std.specs.Prelude.{slice_get, unwrap_or, is_none}
use Rattle.std.specs.List.{All}
use Rattle.std.proofs.lemmas.Bool.{and_parts, leb-true, leb-false}
use Rattle.std.proofs.lemmas.Option.{get_or_from_slice_get}
use Rattle.hr_rel.specs.Database.{Database}
use Rattle.hr_engine.specs.Rigorous.{Rigorous}
use Rattle.hr_engine.specs.Exact.{Exact}
use Rattle.hr_faulty.specs.declared.script.Fault.{Fault}
use Rattle.hr_faulty.specs.Told.{Scripted}
use Rattle.hr_said.specs.declared.scenario.Scenario.{Scenario}
use Rattle.hr_history.specs.declared.cause.Cause.{Cause}
use Rattle.hr_history.specs.declared.cause.CauseAt.{CauseAt}
use Rattle.hr_history.specs.declared.entry.Entry.{Entry}
use Rattle.hr_history.specs.declared.entry.Event.{Event}
use Rattle.hr_history.specs.declared.entry.Event.TheVariants as event
use Rattle.hr_history.specs.declared.phase.Phase.{Phase}
use Rattle.hr_history.specs.declared.phase.Phase.TheVariants as phase
use Rattle.hr_history.specs.declared.reply.Ending.{Ending}
use Rattle.hr_history.specs.declared.reply.Ending.TheVariants as ending
use Rattle.hr_history.specs.History.{History}
use Rattle.hr_history.specs.Transactions.{phase_of}
use Rattle.hr_history.specs.Replicas.{journal_of, call_at}
use Rattle.hr_history.specs.Replies.{cause_told, refusal_of, ending_by}
use Rattle.hr_history.specs.Rules.{due}
use Rattle.hr_history.specs.Faithful.{Begun, is_begun}
use Rattle.hr_records.proofs.Options.{same_some, some_none}
use Rattle.hr_records.proofs.Places.{got_within}
use Rattle.hr_records.proofs.RuleLemmas.{begun_before, begun_until}
use Rattle.hr_serial.proofs.SerialLemmas.{rigorous_before}
use Rattle.hr_complete.specs.Undisturbed.{is_loss_of, HasNone, IsUndisturbed, IsPrimarysReply}
use Rattle.hr_complete.proofs.LedLemmas.{undisturbed_led, unconvicted, stays, for_reply}
use Rattle.hr_complete.proofs.UnaskedLemmas.{never_asked}
use Rattle.hr_complete.proofs.ReadyLemmas.{decided_by_ready}
use Rattle.hr_schedule.specs.Claims.{Locking, TableRows, start, kind_of, script_of, IsRun}
use Rattle.hr_undisturbed.specs.Quiet.{IsQuiet, IsOfPrimary, IsSmooth}
use Rattle.hr_undisturbed.proofs.ToldLemmas.{nothing_told}
use Rattle.hr_undisturbed.proofs.LossLemmas.{never_lost, none_outside}
use Rattle.hr_undisturbed.proofs.SuspicionLemmas.{unsuspected}

-- ---- the run is undisturbed

all_at : (xs : List (List Fault)) (r : ℕ) (script : List Fault) → All (λ (s : List Fault). s ≡ []) xs → slice_get xs r ≡ Some script → script ≡ []
all_at xs r script all at = sym (get_or_from_slice_get xs r script script at) ∙ all r script (got_within xs r script at)

module _ (locking : Locking) (sc : Scenario) (h : History) (dumps : List TableRows) (quiet : IsQuiet sc) (run : IsRun locking sc h dumps) where
  begins : Begun sc.f (length sc.scripts) h
  begins = (and_parts (is_begun sc.f (length sc.scripts) h) (is_none (due sc.f h)) run.faithful).0

  no_script : (r : ℕ) → script_of locking sc r ≡ []
  no_script r = by_there (slice_get sc.faults r) refl
    where
      by_there : (o : Option (List Fault)) → slice_get sc.faults r ≡ o → unwrap_or o [] ≡ []
      by_there None is = refl
      by_there (Some script) is = all_at sc.faults r script quiet.faultless is

  -- each replica's journal is that of its engine
  is_engines : (r : ℕ) (le : r ≤ 2 * sc.f) → journal_of r h ≡ (run.told r le).within
  is_engines r le =
      let told = run.told r le in
      (nothing_told (locking (kind_of locking sc r)) told.within (journal_of r h) told.exact (subst (λ s. Scripted s told.within (journal_of r h)) (no_script r) told.told)).0

  not_lost : (r : ℕ) (b : Bool) → nat_le r (2 * sc.f) ≡ b → HasNone (is_loss_of r) h
  not_lost r true e =
      let le = leb-true r (2 * sc.f) e in
      never_lost (locking (kind_of locking sc r)) sc.f (length sc.scripts) r h begins (subst (Exact (locking (kind_of locking sc r))) (sym (is_engines r le)) (run.told r le).exact)
  not_lost r false e = none_outside sc.f (length sc.scripts) r h (omega (arith, leb-false r (2 * sc.f) e)) begins

  pub undisturbed : IsUndisturbed sc.f (start locking sc) h
  undisturbed = record {
    correct = λ r lt. let le : r ≤ 2 * sc.f = omega (arith, lt) in subst (Rigorous (start locking sc)) (sym (is_engines r le)) (run.told r le).rigorous;
    not_lost = λ r. not_lost r (nat_le r (2 * sc.f)) refl;
    unsuspected = unsuspected sc quiet.unsuspected h run.chosen;
  }

-- ---- what follows

undisturbed_before : (f : ℕ) (db : Database) (e : Entry) (h : History) → IsUndisturbed f db (e ∷ h) → IsUndisturbed f db h
undisturbed_before f db e h is = record {
  correct = λ r lt. rigorous_before db (call_at r e.event h) (journal_of r h) (is.correct r lt);
  not_lost = λ r. (is.not_lost r).0;
  unsuspected = (is.unsuspected).0;
}

undisturbed_until : (f : ℕ) (db : Database) (more : List Entry) (h : History) → IsUndisturbed f db (more ++ h) → IsUndisturbed f db h
undisturbed_until f db [] h is = is
undisturbed_until f db (e ∷ more) h is = undisturbed_until f db more h (undisturbed_before f db e (more ++ h) is)

told_of_primary : (t : ℕ) (x : CauseAt) (h : History) → IsPrimarysReply x → IsOfPrimary (cause_told t x h)
told_of_primary t x h (inl it) = inl (_, ap (λ y. cause_told t y h) it.1)
told_of_primary t x h (inr it) = inr (ap (λ y. cause_told t y h) it.1)

module _ (f s t : ℕ) (db : Database) where
  refused_by : (c : ℕ) (e : Event) (h : History) → Begun f s (record { caller = c; event = e } ∷ h) → IsUndisturbed f db h → ((x : Cause) → refusal_of t h ≡ Some x → IsOfPrimary x)
      → (x : Cause) → refusal_of t (record { caller = c; event = e } ∷ h) ≡ Some x → IsOfPrimary x
  refused_by c (event.Refuse txn y) h b is earlier x refused = by_test (txn == t) refused
    where
      by_test : (mine : Bool) → cond mine (Some (cause_told txn y h)) (refusal_of t h) ≡ Some x → IsOfPrimary x
      by_test true e = subst IsOfPrimary (same_some (cause_told txn y h) x e) (told_of_primary txn y h (for_reply f s c txn y db h b (undisturbed_led f db h is)))
      by_test false e = earlier x e
  refused_by c _ h b is earlier x refused = earlier x refused

  refused : (h : History) → Begun f s h → IsUndisturbed f db h → (x : Cause) → refusal_of t h ≡ Some x → IsOfPrimary x
  refused [] b is x e = absurd (some_none x (sym e))
  refused (e ∷ h) b is x refusal =
      let before = undisturbed_before f db e h is in
      refused_by e.caller e.event h b before (refused h (begun_before f s e h b) before) x refusal

abbrev why_in : Cause → Ending → Cause
why_in d (ending.Refused z) = z
why_in d _ = d

why_refused : (p : Phase) (o : Option Cause) (x : Cause) → ending_by p o ≡ Some (ending.Refused x) → o ≡ Some x
why_refused phase.Active o x e = cc
why_refused (phase.Asked n) o x e = cc
why_refused (phase.Logged place) o x e = cc
why_refused phase.RolledBack o x e = cc
why_refused phase.Refused None x e = cc
why_refused phase.Refused (Some y) x e = ap Some (ap (why_in y) (same_some (ending.Refused y) (ending.Refused x) e))

pub smooth : (locking : Locking) (sc : Scenario) (h : History) (dumps : List TableRows) → IsQuiet sc → IsRun locking sc h dumps → IsSmooth sc.f h
smooth locking sc h dumps quiet run =
    let is = undisturbed locking sc h dumps quiet run in
    let b = begins locking sc h dumps quiet run in
    let n = length sc.scripts in
    record {
      primary = (stays sc.f n (start locking sc) h b (undisturbed_led sc.f (start locking sc) h is)).0;
      unconvicted = λ r. unconvicted sc.f n r (start locking sc) h b is;
      refused = λ t x e. refused sc.f n t (start locking sc) h b is x (why_refused (phase_of t h) (refusal_of t h) x e);
      unasked = λ newer c t x before whole.
          let e : Entry = record { caller = c; event = event.Refuse t x } in
          let b_then = begun_until sc.f n newer (e ∷ before) (subst (Begun sc.f n) whole b) in
          let is_then = undisturbed_before sc.f (start locking sc) e before (undisturbed_until sc.f (start locking sc) newer (e ∷ before) (subst (IsUndisturbed sc.f (start locking sc)) whole is)) in
          never_asked sc.f n c t x before b_then (for_reply sc.f n c t x (start locking sc) before b_then (undisturbed_led sc.f (start locking sc) before is_then));
      decided = λ t many. decided_by_ready sc.f n t (start locking sc) h run.faithful is many;
    }
