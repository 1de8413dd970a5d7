-- Each call of a session was, when it came, the next of its script.
use Rattle.std.proofs.Common.{◌≡◌, ℕ, true, false, Option, Some, None, List, [], ◌∷◌, ◌++◌, refl, sym, subst}
use Rattle.hr_said.specs.declared.scenario.Scenario.{Scenario}
use Rattle.hr_history.specs.declared.entry.Entry.{Entry}
use Rattle.hr_history.specs.declared.entry.Event.{Event}
use Rattle.hr_history.specs.declared.entry.Event.TheVariants as event
use Rattle.hr_history.specs.History.{History, is_call}
use Rattle.hr_history.specs.Rules.{due}
use Rattle.hr_history.specs.Faithful.{same_event, session_caller, replica_caller}
use Rattle.hr_history.specs.Turns.{is_due, FollowFrom}
use Rattle.hr_records.proofs.NumberSteps.{not_both}
use Rattle.hr_moves.specs.Callers.{IsTurn}
use Rattle.hr_schedule.specs.Choices.{IsReply, Chosen}
use Rattle.hr_scripted.specs.Calls.{is_session_call}
use Rattle.hr_scripted.specs.Scripted.{IsNextOfScript}
use Rattle.hr_scripted.proofs.RunLemmas.{KeptByTurns, by_turns}
use Rattle.hr_scripted.proofs.NextCalls.{is_of_scenario}

-- ---- what follows from a call

same_follows : (d e : Event) → same_event d e ≡ true → is_call e ≡ false
same_follows (event.Decide t) (event.Decide u) h = refl
same_follows (event.Refuse t c) (event.Refuse u k) h = refl
same_follows (event.Convict r e) (event.Convict s g) h = refl
same_follows (event.NewPrimary r) (event.NewPrimary s) h = refl
same_follows (event.Preempt r t) (event.Preempt s u) h = refl
same_follows _ _ h = cc

-- what is due is no call
pub not_call : (e : Event) (o : Option Event) → is_due e o ≡ true → is_call e ≡ false
not_call e None h = cc
not_call e (Some next) h = same_follows next e h

not_sessions : (e : Event) → is_call e ≡ false → is_session_call e ≡ false
not_sessions (event.Begin session txn) h = cc
not_sessions (event.Submit txn index stmt) h = cc
not_sessions (event.AskCommit txn) h = cc
not_sessions (event.AskRollback txn) h = cc
not_sessions _ h = refl

reply_not_sessions : (r : ℕ) (e : Event) → IsReply r e → is_session_call e ≡ false
reply_not_sessions r (event.Give q told) is = refl
reply_not_sessions r (event.Restarted q count) is = refl
reply_not_sessions r (event.Begin session txn) is = absurd is
reply_not_sessions r (event.Submit txn index stmt) is = absurd is
reply_not_sessions r (event.AskCommit txn) is = absurd is
reply_not_sessions r (event.AskRollback txn) is = absurd is
reply_not_sessions r (event.Take q j) is = absurd is
reply_not_sessions r event.Suspect is = absurd is
reply_not_sessions r (event.Decide txn) is = absurd is
reply_not_sessions r (event.Refuse txn why) is = absurd is
reply_not_sessions r (event.Convict q x) is = absurd is
reply_not_sessions r (event.NewPrimary q) is = absurd is
reply_not_sessions r (event.Preempt q txn) is = absurd is

-- ---- entry by entry

module _ (sc : Scenario) where
  abbrev IsRight : Entry → History → Type 0
  IsRight e before = is_session_call e.event ≡ true → IsNextOfScript sc e before

  -- each entry is so, where it stands
  abbrev pub AreRight : History → Type 0
  AreRight [] = Unit {0}
  AreRight (e ∷ before) = AreRight before × IsRight e before

  right_anyway : (e : Entry) (before : History) → is_session_call e.event ≡ false → IsRight e before
  right_anyway e before not_one one = absurd (not_both (is_session_call e.event) one not_one)

  follow_ups : (f caller : ℕ) (more : List Entry) (h : History) → FollowFrom f caller more h → AreRight h → AreRight (more ++ h)
  follow_ups f caller [] h follow right = right
  follow_ups f caller (e ∷ more) h follow right =
      (follow_ups f caller more h follow.2 right, right_anyway e (more ++ h) (not_sessions e.event (not_call e.event (due f (more ++ h)) follow.0)))

  over_turn : (caller : ℕ) (call : Event) (a b : History) → IsTurn sc.f caller call a b → IsRight record { caller = caller; event = call } a → AreRight a → AreRight b
  over_turn caller call a b turn one right =
      subst AreRight (sym turn.is) (follow_ups sc.f caller turn.more (record { caller = caller; event = call } ∷ a) turn.follows (right, one))

  kept_by_turns : KeptByTurns sc AreRight
  kept_by_turns = record {
    call = λ s e a b is turn right.
        let there = is_of_scenario sc s a e is in
        over_turn (session_caller sc.f s) e a b turn (λ one. record { session = s; first = there.0; last = there.1; caller = refl; call = is }) right;
    take = λ r j a b is turn right. over_turn (replica_caller r) (event.Take r j) a b turn (right_anyway record { caller = replica_caller r; event = event.Take r j } a refl) right;
    reply = λ r j e a b out is turn right. over_turn (replica_caller r) e a b turn (right_anyway record { caller = replica_caller r; event = e } a (reply_not_sessions r e is)) right;
    suspect = λ a b is turn right. over_turn 0 event.Suspect a b turn (right_anyway record { caller = 0; event = event.Suspect } a refl) right;
  }

  pub all_right : (h : History) → Chosen sc h → AreRight h
  all_right h chosen = by_turns AreRight sc kept_by_turns h tt chosen

  within : (newer : List Entry) (e : Entry) (before : History) → AreRight (newer ++ e ∷ before) → IsRight e before
  within [] e before right = right.1
  within (n ∷ newer) e before right = within newer e before right.0

  pub each_right : (h : History) → AreRight h → (newer : List Entry) (e : Entry) (before : History) → h ≡ newer ++ e ∷ before → is_session_call e.event ≡ true → IsNextOfScript sc e before
  each_right h right newer e before is one = within newer e before (subst AreRight is right) one
