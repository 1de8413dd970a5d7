-- The view of a history with one more entry is the step of the view before it.
use Rattle.std.proofs.Common.{◌≡◌, ℕ, ◌+◌, ◌*◌, ◌<◌, true, List, [], ◌∷◌, length, map, refl, ap, sym, ◌∙◌, arith}
use Rattle.hr_history.specs.declared.entry.Entry.{Entry}
use Rattle.hr_history.specs.declared.entry.Event.{Event}
use Rattle.hr_history.specs.History.{History}
use Rattle.hr_history.specs.Replicas.{out_at, next_out, call_at, journal_of, next_convicted}
use Rattle.hr_history.specs.Attempts.{dispatched, next_dispatched}
use Rattle.hr_history.specs.Primary.{primary_of, search_after, next_search_after}
use Rattle.hr_history.specs.Turn.{fresh_of, next_fresh}
use Rattle.hr_history.specs.View.{Progress, Attempt, view_of, progress_in, attempt_state}
use Rattle.hr_history.specs.Faithful.{is_begun}
use Rattle.hr_history.specs.Step.{commits_after, fresh_after, replica_after, step_of}
use Rattle.hr_history.proofs.StepLemmas.{replica_lookup, call_allowed}
use Rattle.hr_history.proofs.TxnSteps.{map_same, fresh_same, txns_same}
use Rattle.hr_history.proofs.ReplicaSteps.{candidate_same}
use Rattle.hr_history.proofs.CallWords.{call_same, commits_same}
use Rattle.hr_history.proofs.AttemptSteps.{attempt_same}

-- the transactions that a replica was given statements of are the keys of its attempts
keys_of_made : {X : Type 0} (g : ℕ → X) (ts : List ℕ) → map (λ (p : ℕ × X). p.0) (map (λ t. (t, g t)) ts) ≡ ts
keys_of_made g [] = refl
keys_of_made g (t ∷ ts) = ap (λ us. t ∷ us) (keys_of_made g ts)

module _ (f caller : ℕ) (e : Event) (h : History) (fresh_too : next_fresh e (λ q. out_at q h) (fresh_of h) ≡ fresh_after (view_of f h) e) where
  replica_same : (r : ℕ) → r < 2 * f + 1 → progress_in (record { caller = caller; event = e } ∷ h) r ≡ replica_after (view_of f h) (length h) e r
  replica_same r lt =
      let here = sym (replica_lookup f r h lt) in
      let it = commits_same (call_at r e h) (journal_of r h)
      ∙ (λ k. commits_after (sym (call_same f r e h lt) k) record { lost = (here k).lost; position = (here k).position; doubt = (here k).doubt }) in
      let keys = sym (keys_of_made (λ t. attempt_state r (journal_of r h) h t) (dispatched r h)) ∙ ap (λ (p : Progress). map (λ (q : ℕ × Attempt). q.0) p.attempts) here in
      λ i. record {
        lost = (it i).lost;
        convicted = next_convicted r e (here i).convicted;
        position = (it i).position;
        doubt = (it i).doubt;
        out = next_out r e (here i).out;
        attempts = map (λ t. (t, attempt_same f r e h lt fresh_too caller t i)) (next_dispatched r e (keys i));
      }

pub replicas_same : (f s : ℕ) (e : Entry) (h : History) → is_begun f s (e ∷ h) ≡ true → (view_of f (e ∷ h)).replicas ≡ (step_of f e h).replicas
replicas_same f s e h begun =
    let fresh = fresh_same f s e.caller e.event h (fresh_of h) (call_allowed f s e h begun) in
    map_same (progress_in (e ∷ h)) (replica_after (view_of f h) (length h) e.event) 0 (2 * f + 1) (λ r low high. replica_same f e.caller e.event h fresh r (omega (arith, high)))

-- field by field
pub view_same : (f s : ℕ) (e : Entry) (h : History) → is_begun f s (e ∷ h) ≡ true → view_of f (e ∷ h) ≡ step_of f e h
view_same f s e h begun = λ i. record {
  f = f;
  log = (step_of f e h).log;
  txns = txns_same f s e h (call_allowed f s e h begun) i;
  replicas = replicas_same f s e h begun i;
  primary = (step_of f e h).primary;
  search_after = next_search_after e.event (primary_of h) (candidate_same f h i) (search_after f h);
  replies = (step_of f e h).replies;
  fresh = fresh_same f s e.caller e.event h (fresh_of h) (call_allowed f s e h begun) i;
}
