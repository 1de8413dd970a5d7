-- Evidence read backwards: which part of a view shows it.
use Rattle.std.proofs.Common.{◌≡◌, ◌⊎◌, inl, inr, ⊎_elim, ℕ, ◌+◌, ◌*◌, ◌<◌, Bool, true, false, not, ◌==◌, Option, Some, None, List, [], ◌∷◌, length, option_and_then, refl, sym}
use Rattle.std.proofs.lemmas.Bool.{eqb-true}
use Rattle.hr_base.specs.Lists.{last_of, first_some, when}
use Rattle.hr_engine.specs.Waits.{is_sound_deadlock}
use Rattle.hr_engine.specs.declared.reply.RunReply.{RunReply}
use Rattle.hr_engine.specs.declared.reply.RunReply.TheVariants as run
use Rattle.hr_history.specs.declared.entry.Event.TheVariants as event
use Rattle.hr_history.specs.declared.evidence.Evidence.{Evidence}
use Rattle.hr_history.specs.declared.evidence.Evidence.TheVariants as evidence
use Rattle.hr_history.specs.declared.phase.Fresh.{Fresh}
use Rattle.hr_history.specs.History.{History}
use Rattle.hr_history.specs.Turn.{Turn, Counted, turn_of}
use Rattle.hr_history.specs.View.{View, view_of}
use Rattle.hr_history.specs.Processed.{replica_in, runs_in, wait_in}
use Rattle.hr_history.specs.Jobs.{next_in_log}
use Rattle.hr_history.specs.Evidence.{evidence_of, differs, bad_waits, bad_reply, bad_restart, asker_of, is_sound_blocked}
use Rattle.hr_history.specs.Faithful.{Begun}
use Rattle.hr_records.specs.ByRule.{HasEvidence}
use Rattle.hr_records.proofs.Options.{some_none}
use Rattle.hr_records.proofs.RuleLemmas.{by_rule}
use Rattle.hr_causes.proofs.TurnWords.{when_some}

pub first_of : {X : Type 0} (o : Option X) (os : List (Option X)) (x : X) → first_some (o ∷ os) ≡ Some x → (o ≡ Some x) ⊎ (first_some os ≡ Some x)
first_of None os x e = inr e
first_of (Some y) os x e = inl e

pub then_some : {X Y : Type 0} (g : X → Option Y) (o : Option X) (y : Y) → option_and_then g o ≡ Some y → (x : X) × (o ≡ Some x) × (g x ≡ Some y)
then_some g None y e = absurd (some_none y (sym e))
then_some g (Some x) y e = (x, refl, e)

-- OF WHICH KIND
-- what a contradiction or a difference shows is no reply that can't be
abbrev pub IsBadReply : Evidence → Type 0
IsBadReply (evidence.Contradicted t i) = ⊥
IsBadReply (evidence.Differs t i) = ⊥
IsBadReply (evidence.BadBlocked t) = Unit {0}
IsBadReply (evidence.BadDeadlock t) = Unit {0}
IsBadReply (evidence.BadRestart n) = Unit {0}

no_contradiction : (e : Evidence) (t i : ℕ) → IsBadReply e → e ≡ evidence.Contradicted t i → ⊥
no_contradiction (evidence.BadBlocked u) t i is e = cc e
no_contradiction (evidence.BadDeadlock u) t i is e = cc e
no_contradiction (evidence.BadRestart n) t i is e = cc e
no_contradiction (evidence.Contradicted u k) t i is e = is
no_contradiction (evidence.Differs u k) t i is e = is

no_difference : (e : Evidence) (t i : ℕ) → IsBadReply e → evidence.Differs t i ≡ e → ⊥
no_difference (evidence.BadBlocked u) t i is e = cc e
no_difference (evidence.BadDeadlock u) t i is e = cc e
no_difference (evidence.BadRestart n) t i is e = cc e
no_difference (evidence.Contradicted u k) t i is e = is
no_difference (evidence.Differs u k) t i is e = is

module _ (v : View) (r : ℕ) (e : Evidence) (is : IsBadReply e) where
  not_differs : differs v r ≡ Some e → ⊥
  not_differs shown =
      let at = then_some _ (next_in_log v r) e shown in
      no_difference e at.0 _ is (when_some _ _ e at.2).1

  shown_by : (turn : Turn) → evidence_of v r turn ≡ Some e → (bad_waits v r ≡ Some e) ⊎ (bad_restart r turn.bad_count ≡ Some e)
  shown_by turn shown =
      ⊎_elim (λ (a : differs v r ≡ Some e). absurd (not_differs a))
      (λ (a : first_some (bad_waits v r ∷ bad_restart r turn.bad_count ∷ []) ≡ Some e).
      ⊎_elim (λ (b : bad_waits v r ≡ Some e). inl b) (λ (b : first_some (bad_restart r turn.bad_count ∷ []) ≡ Some e). inr (only (bad_restart r turn.bad_count) b))
      (first_of (bad_waits v r) (bad_restart r turn.bad_count ∷ []) e a))
      (first_of (differs v r) (bad_waits v r ∷ bad_restart r turn.bad_count ∷ []) e shown)
    where
      only : (o : Option Evidence) → first_some (o ∷ []) ≡ Some e → o ≡ Some e
      only None x = absurd (some_none e (sym x))
      only (Some y) x = x

-- the conviction that follows is of a replica of the hall, for what its reply shows
pub record Convicted (f r : ℕ) (e : Evidence) (h : History) : Type 0 where
  pub within : r < 2 * f + 1
  pub shown : (bad_waits (view_of f h) r ≡ Some e) ⊎ (bad_restart r (turn_of h).bad_count ≡ Some e)

convicted_by : (f r : ℕ) (e : Evidence) (h : History) → IsBadReply e → HasEvidence (view_of f h) (turn_of h) r e → Convicted f r e h
convicted_by f r e h is (inl by) = record { within = by.0; shown = shown_by (view_of f h) r e is (turn_of h) by.2 }
convicted_by f r e h is (inr owed) = absurd (no_contradiction e _ _ is owed.3)

pub convicted : (f s c r : ℕ) (e : Evidence) (h : History) → IsBadReply e → Begun f s (record { caller = c; event = event.Convict r e } ∷ h) → Convicted f r e h
convicted f s c r e h is b = convicted_by f r e h is (by_rule f s record { caller = c; event = event.Convict r e } h b refl)

-- WHAT IT IS
-- The turn's call told this count at the replica's restart, and it fails the test.
pub record BadCount (r : ℕ) (o : Option Counted) (e : Evidence) : Type 0 where
  pub count : ℕ
  pub told : o ≡ Some record { replica = r; count = count }
  pub as_evidence : evidence.BadRestart count ≡ e

pub counted : (r : ℕ) (o : Option Counted) (e : Evidence) → bad_restart r o ≡ Some e → BadCount r o e
counted r None e is = absurd (some_none e (sym is))
counted r (Some bad) e is =
    let it = when_some (bad.replica == r) (evidence.BadRestart bad.count) e is in
    let same = eqb-true bad.replica r it.0 in
    record { count = bad.count; told = λ i. Some record { replica = same i; count = bad.count }; as_evidence = it.1 }

asked : (r t : ℕ) (o : Option Fresh) → asker_of r o ≡ Some t → o ≡ Some record { replica = r; txn = t }
asked r t None e = absurd (some_none t (sym e))
asked r t (Some fresh) e =
    let it = when_some (fresh.replica == r) fresh.txn t e in
    let same = eqb-true fresh.replica r it.0 in
    λ i. Some record { replica = same i; txn = it.1 i }

-- The turn's call is such a reply of the replica, and fails the test.
pub record BadReply (v : View) (r : ℕ) (e : Evidence) : Type 0 where
  pub txn : ℕ
  pub fresh : v.fresh ≡ Some record { replica = r; txn = txn }
  pub bad : bad_reply (runs_in v r) (wait_in v r) (length (replica_in v r).attempts) txn (last_of v.replies) ≡ Some e

pub replied : (v : View) (r : ℕ) (e : Evidence) → bad_waits v r ≡ Some e → BadReply v r e
replied v r e is =
    let at = then_some _ (asker_of r v.fresh) e is in
    record { txn = at.0; fresh = asked r at.0 v.fresh at.1; bad = at.2 }

fails : (b : Bool) (x e : Evidence) → when (not b) x ≡ Some e → b ≡ false
fails true x e is = absurd (some_none e (sym is))
fails false x e is = refl

module _ (running : ℕ → Bool) (waits : ℕ → List ℕ) (n t u : ℕ) where
  pub blocked_of : (o : Option RunReply) → bad_reply running waits n t o ≡ Some (evidence.BadBlocked u) → (named : List ℕ) × (o ≡ Some (run.Blocked named)) × (is_sound_blocked running waits n t named ≡ false)
  blocked_of (Some (run.Blocked named)) is = (named, refl, fails (is_sound_blocked running waits n t named) _ _ is)
  blocked_of (Some (run.Deadlock cycle)) is = absurd (apart (when_some _ _ _ is).1)
    where
      apart : evidence.BadDeadlock t ≡ evidence.BadBlocked u → ⊥
      apart e = cc e
  blocked_of _ is = absurd (some_none _ (sym is))

  pub deadlock_of : (o : Option RunReply) → bad_reply running waits n t o ≡ Some (evidence.BadDeadlock u) → (cycle : List ℕ) × (o ≡ Some (run.Deadlock cycle)) × (is_sound_deadlock running waits t cycle ≡ false)
  deadlock_of (Some (run.Deadlock cycle)) is = (cycle, refl, fails (is_sound_deadlock running waits t cycle) _ _ is)
  deadlock_of (Some (run.Blocked named)) is = absurd (apart (when_some _ _ _ is).1)
    where
      apart : evidence.BadBlocked t ≡ evidence.BadDeadlock u → ⊥
      apart e = cc e
  deadlock_of _ is = absurd (some_none _ (sym is))

  pub reply_is_no_count : (o : Option RunReply) → bad_reply running waits n t o ≡ Some (evidence.BadRestart u) → ⊥
  reply_is_no_count (Some (run.Blocked named)) is = apart (when_some _ _ _ is).1
    where
      apart : evidence.BadBlocked t ≡ evidence.BadRestart u → ⊥
      apart e = cc e
  reply_is_no_count (Some (run.Deadlock cycle)) is = apart (when_some _ _ _ is).1
    where
      apart : evidence.BadDeadlock t ≡ evidence.BadRestart u → ⊥
      apart e = cc e
  reply_is_no_count _ is = some_none _ (sym is)
