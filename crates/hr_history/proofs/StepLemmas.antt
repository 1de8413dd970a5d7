-- Field by field, the view of a history with one more entry is the step of the view before it.
use Rattle.std.proofs.Common.{◌≡◌, ℕ, zero, suc, ◌+◌, ◌*◌, ◌<◌, ◌≤◌, Bool, true, false, ◌&&◌, Option, Some, None, unwrap_or, ◌∷◌, length, map, slice_get, refl, ap, ◌∙◌, arith}
use Rattle.std.specs.Option.{option_map}
use Rattle.std.specs.List.{range_with_len}
use Rattle.std.proofs.lemmas.Option.{slice_get-map}
use Rattle.hr_history.specs.declared.entry.Entry.{Entry}
use Rattle.hr_history.specs.declared.entry.Event.{Event}
use Rattle.hr_history.specs.declared.entry.Event.TheVariants as event
use Rattle.hr_history.specs.History.{History, is_call}
use Rattle.hr_history.specs.Transactions.{begun}
use Rattle.hr_history.specs.View.{view_of, txn_state, progress_in}
use Rattle.hr_history.specs.Processed.{replica_in, txn_in, idle_replica, unknown_txn}
use Rattle.hr_history.specs.Rules.{due}
use Rattle.hr_history.specs.Faithful.{is_begun, is_next, is_allowed, same_event}

pub both : (a b : Bool) → (a && b) ≡ true → (a ≡ true) × (b ≡ true)
both true b h = (refl, h)
both false b h = cc

range_get : (a n i : ℕ) → i < n → slice_get (range_with_len a n) i ≡ Some (a + i)
range_get a zero i h = absurd (omega (arith, h))
range_get a (suc n) zero h = ap Some (omega arith)
range_get a (suc n) (suc i) h = range_get (a + 1) n i (omega (arith, h)) ∙ ap Some (omega arith)

pub mapped : {X : Type 0} (g : ℕ → X) (a n i j : ℕ) → i < n → a + i ≡ j → slice_get (map g (range_with_len a n)) i ≡ Some (g j)
mapped g a n i j lt e = slice_get-map g (range_with_len a n) i ∙ ap (option_map g) (range_get a n i lt ∙ ap Some e)

pub replica_lookup : (f r : ℕ) (h : History) → r < 2 * f + 1 → replica_in (view_of f h) r ≡ progress_in h r
replica_lookup f r h lt = ap (λ o. unwrap_or o idle_replica) (mapped (progress_in h) 0 (2 * f + 1) r r lt (omega arith))

pub txn_lookup : (f t : ℕ) (h : History) → 1 ≤ t → t ≤ length (begun h) → txn_in (view_of f h) t ≡ txn_state h t
txn_lookup f zero h low high = absurd (omega (arith, low))
txn_lookup f (suc n) h low high = ap (λ o. unwrap_or o unknown_txn) (mapped (txn_state h) 1 (length (begun h)) n (suc n) (omega (arith, high)) (omega arith))

-- no call is what is due
no_call : (d e : Event) → same_event d e ≡ true → is_call e ≡ true → ⊥
no_call (event.Decide t) (event.Decide u) h c = cc
no_call (event.Refuse t x) (event.Refuse u y) h c = cc
no_call (event.Convict r x) (event.Convict s y) h c = cc
no_call (event.NewPrimary r) (event.NewPrimary s) h c = cc
no_call (event.Preempt r t) (event.Preempt s u) h c = cc
no_call _ _ h c = cc

by_due : (f s : ℕ) (d : Option Event) (e : Entry) (h : History) → is_next f s d e h ≡ true → is_call e.event ≡ true → is_allowed f s e.caller e.event h ≡ true
by_due f s None e h next call = next
by_due f s (Some d) e h next call = absurd (no_call d e.event (both (same_event d e.event) _ next).0 call)

-- in a history that has begun rightly a call was allowed
pub call_allowed : (f s : ℕ) (e : Entry) (h : History) → is_begun f s (e ∷ h) ≡ true → is_call e.event ≡ true → is_allowed f s e.caller e.event h ≡ true
call_allowed f s e h begun call = by_due f s (due f h) e h (both (is_begun f s h) _ begun).1 call
