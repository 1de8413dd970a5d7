-- A history is faithful exactly where it is made of turns.
use Rattle.std.proofs.Common.{◌≡◌, ℕ, Bool, true, false, ◌&&◌, Option, Some, None, is_none, option_and_then, map, List, [], ◌∷◌, ◌++◌, IsTrue, ◌↔◌, refl, ap, sym, ◌∙◌, subst}
use Rattle.std.proofs.lemmas.Bool.Decides.{Decides-eqb}
use Rattle.hr_history.specs.declared.entry.Entry.{Entry}
use Rattle.hr_history.specs.declared.entry.Event.{Event}
use Rattle.hr_history.specs.declared.entry.Event.TheVariants as event
use Rattle.hr_history.specs.History.{History}
use Rattle.hr_base.specs.Lists.{first_some, when}
use Rattle.hr_history.specs.ReplicaNumbers.{replica_numbers}
use Rattle.hr_history.specs.View.{View, view_of}
use Rattle.hr_history.specs.Processed.{candidate_in, is_caught_up}
use Rattle.hr_history.specs.Rules.{due}
use Rattle.hr_history.specs.Faithful.{is_begun, is_next, is_allowed, is_faithful, is_turn_of, same_event, Faithful}
use Rattle.hr_history.specs.Turns.{OneTurn, history_of_turns, is_due, FollowFrom, AreTurns, IsMadeOfTurns}
use Rattle.hr_history.proofs.StepLemmas.{both}

and_both : (a b : Bool) → a ≡ true → b ≡ true → (a && b) ≡ true
and_both true b e d = d
and_both false b e d = cc

none_of : {X : Type 0} (o : Option X) → is_none o ≡ true → o ≡ None
none_of None e = refl
none_of (Some x) e = cc

-- nothing is due before the first call
first_of_none : (xs : List ℕ) → first_some {X = Event} (map (λ (r : ℕ). None) xs) ≡ None
first_of_none [] = refl
first_of_none (x ∷ xs) = first_of_none xs

no_candidate : (o : Option ℕ) (v : View) → option_and_then (λ r. when (false && is_caught_up v r) (event.NewPrimary r)) o ≡ None
no_candidate None v = refl
no_candidate (Some r) v = refl

nothing_due : (f : ℕ) → due f [] ≡ None
nothing_due f =
    let none = first_of_none (replica_numbers f) in
    let primary = no_candidate (candidate_in (view_of f [])) (view_of f []) in
    λ i. first_some (None ∷ none i ∷ None ∷ None ∷ None ∷ None ∷ primary i ∷ none i ∷ [])

-- a history within a turn: turns, and an open one
record Open (f s : ℕ) (h : History) : Type 0 where
  turn : OneTurn
  earlier : List OneTurn
  complete : AreTurns f s earlier
  allowed : IsTrue (is_allowed f s turn.call.caller turn.call.event (history_of_turns earlier))
  follow : FollowFrom f turn.call.caller turn.more (turn.call ∷ history_of_turns earlier)
  same : history_of_turns (turn ∷ earlier) ≡ h

-- the latest entry of an open turn carries its caller's number
latest_caller : (f caller : ℕ) (more : List Entry) (call : Entry) (before : History) (n : ℕ) → FollowFrom f call.caller more (call ∷ before) → is_turn_of n (more ++ call ∷ before) ≡ true → call.caller ≡ n
latest_caller f caller [] call before n follow e = (Decides-eqb call.caller n).0 e
latest_caller f caller (x ∷ more) call before n follow e = sym follow.1 ∙ (Decides-eqb x.caller n).0 e

open_first : (f s : ℕ) (d : Option Event) (e : Entry) → due f [] ≡ d → is_next f s d e [] ≡ true → Open f s (e ∷ [])
open_first f s None e none next = record { turn = record { call = e; more = [] }; earlier = []; complete = tt; allowed = next; follow = tt; same = refl }
open_first f s (Some x) e some next = cc (both (same_event x e.event) _ next).1

open_next : (f s : ℕ) (d : Option Event) (e : Entry) (h : History) → due f h ≡ d → is_next f s d e h ≡ true → Open f s h → Open f s (e ∷ h)
open_next f s None e h none next o =
    let turns = o.turn ∷ o.earlier in
    record {
      turn = record { call = e; more = [] };
      earlier = turns;
      complete = (o.complete, o.allowed, o.follow, ap (due f) o.same ∙ none);
      allowed = subst (λ k. IsTrue (is_allowed f s e.caller e.event k)) (sym o.same) next;
      follow = tt;
      same = ap (λ k. e ∷ k) o.same;
    }
open_next f s (Some x) e h some next o =
    let parts = both (same_event x e.event) (is_turn_of e.caller h) next in
    let caller = latest_caller f o.turn.call.caller o.turn.more o.turn.call (history_of_turns o.earlier) e.caller o.follow (subst (λ k. is_turn_of e.caller k ≡ true) (sym o.same) parts.1) in
    record {
      turn = record { call = o.turn.call; more = e ∷ o.turn.more };
      earlier = o.earlier;
      complete = o.complete;
      allowed = o.allowed;
      follow = (ap (is_due e.event) (ap (due f) o.same ∙ some) ∙ parts.0, sym caller, o.follow);
      same = ap (λ k. e ∷ k) o.same;
    }

open_turn : (f s : ℕ) (e : Entry) (h : History) → is_begun f s (e ∷ h) ≡ true → Open f s (e ∷ h)
open_turn f s e [] begun = open_first f s (due f []) e refl (both (is_begun f s []) _ begun).1
open_turn f s e (x ∷ h) begun =
    let parts = both (is_begun f s (x ∷ h)) _ begun in
    open_next f s (due f (x ∷ h)) e (x ∷ h) refl parts.1 (open_turn f s x h parts.0)

made_of_turns : (f s : ℕ) (h : History) → is_faithful f s h ≡ true → IsMadeOfTurns f s h
made_of_turns f s [] faithful = ([], tt, refl)
made_of_turns f s (e ∷ h) faithful =
    let parts = both (is_begun f s (e ∷ h)) _ faithful in
    let o = open_turn f s e h parts.0 in
    (o.turn ∷ o.earlier, (o.complete, o.allowed, o.follow, ap (due f) o.same ∙ none_of (due f (e ∷ h)) parts.1), o.same)

-- the other way
due_next : (f s : ℕ) (d : Option Event) (e : Entry) (h : History) → is_due e.event d ≡ true → is_turn_of e.caller h ≡ true → is_next f s d e h ≡ true
due_next f s None e h is turn = cc
due_next f s (Some x) e h is turn = and_both (same_event x e.event) _ is turn

caller_of : (f : ℕ) (more : List Entry) (call : Entry) (before : History) (n : ℕ) → FollowFrom f call.caller more (call ∷ before) → n ≡ call.caller → is_turn_of n (more ++ call ∷ before) ≡ true
caller_of f [] call before n follow e = (Decides-eqb call.caller n).1 (sym e)
caller_of f (x ∷ more) call before n follow e = (Decides-eqb x.caller n).1 (follow.1 ∙ sym e)

call_next : (f s : ℕ) (d : Option Event) (e : Entry) (h : History) → d ≡ None → is_allowed f s e.caller e.event h ≡ true → is_next f s d e h ≡ true
call_next f s None e h none allowed = allowed
call_next f s (Some x) e h none allowed = cc

begun_more : (f s : ℕ) (more : List Entry) (call : Entry) (before : History) → is_begun f s (call ∷ before) ≡ true → FollowFrom f call.caller more (call ∷ before) → is_begun f s (more ++ call ∷ before) ≡ true
begun_more f s [] call before begun follow = begun
begun_more f s (e ∷ more) call before begun follow =
    and_both (is_begun f s (more ++ call ∷ before)) _ (begun_more f s more call before begun follow.2)
    (due_next f s (due f (more ++ call ∷ before)) e (more ++ call ∷ before) follow.0 (caller_of f more call before e.caller follow.2 follow.1))

none_due : (f s : ℕ) (turns : List OneTurn) → AreTurns f s turns → due f (history_of_turns turns) ≡ None
none_due f s [] are = nothing_due f
none_due f s (turn ∷ earlier) are = are.3

begun_turns : (f s : ℕ) (turns : List OneTurn) → AreTurns f s turns → is_begun f s (history_of_turns turns) ≡ true
begun_turns f s [] are = refl
begun_turns f s (turn ∷ earlier) are =
    let before = history_of_turns earlier in
    let called = and_both (is_begun f s before) _ (begun_turns f s earlier are.0) (call_next f s (due f before) turn.call before (none_due f s earlier are.0) are.1) in
    begun_more f s turn.more turn.call before called are.2

faithful_turns : (f s : ℕ) (turns : List OneTurn) → AreTurns f s turns → is_faithful f s (history_of_turns turns) ≡ true
faithful_turns f s turns are = and_both (is_begun f s (history_of_turns turns)) _ (begun_turns f s turns are) (ap is_none (none_due f s turns are))

pub faithful_by_turns : (f s : ℕ) (h : History) → Faithful f s h ↔ IsMadeOfTurns f s h
faithful_by_turns f s h = (λ faithful. made_of_turns f s h faithful, λ made. subst (λ k. is_faithful f s k ≡ true) made.2 (faithful_turns f s made.0 made.1))
