-- Where nobody is to be suspected, the choices make no suspicion.
use Rattle.std.proofs.Common.{◌≡◌, ℕ, true, false, List, [], ◌∷◌, ◌++◌, length, refl, ap, sym, subst}
use Rattle.std.specs.Prelude.{slice_get}
use Rattle.hr_said.specs.declared.scenario.Scenario.{Scenario}
use Rattle.hr_history.specs.declared.entry.Entry.{Entry}
use Rattle.hr_history.specs.declared.entry.Event.{Event}
use Rattle.hr_history.specs.declared.entry.Event.TheVariants as event
use Rattle.hr_history.specs.History.{History, is_call}
use Rattle.hr_history.specs.Rules.{due}
use Rattle.hr_history.specs.Transactions.{log}
use Rattle.hr_history.specs.Faithful.{session_caller, replica_caller}
use Rattle.hr_history.specs.Turns.{FollowFrom}
use Rattle.hr_records.proofs.NumberSteps.{not_both}
use Rattle.hr_moves.specs.Callers.{IsTurn}
use Rattle.hr_core.specs.Suspects.{suspects}
use Rattle.hr_complete.specs.Undisturbed.{is_suspicion, HasNone}
use Rattle.hr_schedule.specs.Choices.{IsReply, is_reached, is_suspect_due, Chosen}
use Rattle.hr_scripted.specs.Calls.{is_session_call}
use Rattle.hr_scripted.proofs.RunLemmas.{KeptByTurns, by_turns}
use Rattle.hr_scripted.proofs.NextCalls.{is_sessions}
use Rattle.hr_scripted.proofs.CallLemmas.{not_call}

not_following : (e : Event) → is_call e ≡ false → is_suspicion e ≡ false
not_following event.Suspect h = cc
not_following _ h = refl

not_sessions : (e : Event) → is_session_call e ≡ true → is_suspicion e ≡ false
not_sessions event.Suspect h = cc
not_sessions _ h = refl

not_replied : (r : ℕ) (e : Event) → IsReply r e → is_suspicion e ≡ false
not_replied r (event.Give q told) is = refl
not_replied r (event.Restarted q count) is = refl
not_replied r (event.Begin session txn) is = absurd is
not_replied r (event.Submit txn index stmt) is = absurd is
not_replied r (event.AskCommit txn) is = absurd is
not_replied r (event.AskRollback txn) is = absurd is
not_replied r (event.Take q j) is = absurd is
not_replied r event.Suspect is = absurd is
not_replied r (event.Decide txn) is = absurd is
not_replied r (event.Refuse txn why) is = absurd is
not_replied r (event.Convict q x) is = absurd is
not_replied r (event.NewPrimary q) is = absurd is
not_replied r (event.Preempt q txn) is = absurd is

follow_ups : (f caller : ℕ) (more : List Entry) (h : History) → FollowFrom f caller more h → HasNone is_suspicion h → HasNone is_suspicion (more ++ h)
follow_ups f caller [] h follow none = none
follow_ups f caller (e ∷ more) h follow none = (follow_ups f caller more h follow.2 none, not_following e.event (not_call e.event (due f (more ++ h)) follow.0))

module _ (sc : Scenario) (nobody : sc.suspects ≡ []) where
  over_turn : (caller : ℕ) (call : Event) (a b : History) → IsTurn sc.f caller call a b → is_suspicion call ≡ false → HasNone is_suspicion a → HasNone is_suspicion b
  over_turn caller call a b turn calm none =
      subst (HasNone is_suspicion) (sym turn.is) (follow_ups sc.f caller turn.more (record { caller = caller; event = call } ∷ a) turn.follows (none, calm))

  never_due : (h : History) → is_suspect_due sc h ≡ false
  never_due h = ap (λ (thresholds : List ℕ). is_reached (slice_get thresholds (suspects h)) (length (log h))) nobody

  kept_by_turns : KeptByTurns sc (HasNone is_suspicion)
  kept_by_turns = record {
    call = λ s e a b is turn none. over_turn (session_caller sc.f s) e a b turn (not_sessions e (is_sessions sc s a e is)) none;
    take = λ r j a b is turn none. over_turn (replica_caller r) (event.Take r j) a b turn refl none;
    reply = λ r j e a b out is turn none. over_turn (replica_caller r) e a b turn (not_replied r e is) none;
    suspect = λ a b is turn none. absurd (not_both (is_suspect_due sc a) is (never_due a));
  }

  pub unsuspected : (h : History) → Chosen sc h → HasNone is_suspicion h
  unsuspected h chosen = by_turns (HasNone is_suspicion) sc kept_by_turns h tt chosen
