-- The whole log is processed at the primary.
use Rattle.std.proofs.Common.{◌≡◌, inl, inr, ℕ, suc, ◌+◌, ◌*◌, ◌<◌, Bool, true, false, cond, if◌then◌else◌, Some, slice_get, take, List, [], ◌∷◌, length, refl, ap, sym, ◌∙◌, subst, arith}
use Rattle.std.specs.List.{prefix_len}
use Rattle.std.proofs.lemmas.Bool.{eq-eqb, le-leb}
use Rattle.hr_base.proofs.Tests.{or_first, or_second}
use Rattle.hr_rel.specs.declared.answer.Answer.{Answer}
use Rattle.hr_engine.specs.Attempts.{attempt}
use Rattle.hr_engine.specs.Base.{count}
use Rattle.hr_history.specs.declared.entry.Event.{Event}
use Rattle.hr_history.specs.declared.entry.Event.TheVariants as event
use Rattle.hr_history.specs.declared.phase.Phase.TheVariants as phase
use Rattle.hr_history.specs.History.{History}
use Rattle.hr_history.specs.Transactions.{log, submits, phase_of}
use Rattle.hr_history.specs.Primary.{primary_of, other_than}
use Rattle.hr_history.specs.Replicas.{journal_of, tells_loss}
use Rattle.hr_history.specs.View.{view_of}
use Rattle.hr_history.specs.Processed.{replica_in, txn_in, answers_in, is_logged_by, is_committed, is_whole, is_processed}
use Rattle.hr_history.specs.Words.{processed_of}
use Rattle.hr_history.specs.Faithful.{Begun}
use Rattle.hr_records.specs.Kept.{Kept}
use Rattle.hr_records.proofs.Options.{some_none, same_some}
use Rattle.hr_records.proofs.PrimaryWords.{other_is}
use Rattle.hr_records.proofs.JobWords.{many}
use Rattle.hr_records.proofs.RuleLemmas.{begun_before, by_rule}
use Rattle.hr_records.proofs.ViewWords.{phase_seen, statements_seen, answers_seen, position_seen}
use Rattle.hr_records.proofs.KeptLemmas.{kept}
use Rattle.hr_serial.proofs.Processed.{logged_born}
use Rattle.hr_barriers.proofs.WholeWords.{IsHeld}
use Rattle.hr_barriers.proofs.WholeLemmas.{HoldsAt, holds}

-- THE PRIMARY IS A REPLICA OF THE HALL
within_by : (f s c r : ℕ) (e : Event) (h : History) → Begun f s (record { caller = c; event = e } ∷ h) → primary_of (record { caller = c; event = e } ∷ h) ≡ Some r → (primary_of h ≡ Some r → r < 2 * f + 1) → r < 2 * f + 1
within_by f s c r (event.Give q told) h b is rest = rest (still q (tells_loss told) is)
  where
    still : (q : ℕ) (x : Bool) → (if x then other_than q (primary_of h) else primary_of h) ≡ Some r → primary_of h ≡ Some r
    still q true is = (other_is q r (primary_of h) is).0
    still q false is = is
within_by f s c r (event.Convict q x) h b is rest = rest (other_is q r (primary_of h) is).0
within_by f s c r event.Suspect h b is rest = absurd (some_none r (sym is))
within_by f s c r (event.NewPrimary q) h b is rest =
    let rule = by_rule f s record { caller = c; event = event.NewPrimary q } h b refl in
    subst (λ x. x < 2 * f + 1) (same_some q r is) rule.replica
within_by f s c r (event.Begin session txn) h b is rest = rest is
within_by f s c r (event.Submit txn index stmt) h b is rest = rest is
within_by f s c r (event.AskCommit txn) h b is rest = rest is
within_by f s c r (event.AskRollback txn) h b is rest = rest is
within_by f s c r (event.Take q j) h b is rest = rest is
within_by f s c r (event.Restarted q n) h b is rest = rest is
within_by f s c r (event.Decide txn) h b is rest = rest is
within_by f s c r (event.Refuse txn x) h b is rest = rest is
within_by f s c r (event.Preempt q txn) h b is rest = rest is

pub primary_within : (f s r : ℕ) (h : History) → Begun f s h → primary_of h ≡ Some r → r < 2 * f + 1
primary_within f s r [] b is = let zero_is : 0 ≡ r = same_some 0 r is in omega (arith, zero_is)
primary_within f s r (e ∷ h) b is = within_by f s e.caller r e.event h b is (λ before. primary_within f s r h (begun_before f s e h b) before)

-- WHAT PASSES
taken_by : (p : ℕ → Bool) (x : ℕ) (xs : List ℕ) (b : Bool) → b ≡ true → length (take (prefix_len p xs) xs) ≡ length xs → length (take (cond b (1 + prefix_len p xs) 0) (x ∷ xs)) ≡ suc (length xs)
taken_by p x xs true passes rest = let one : 1 + prefix_len p xs ≡ suc (prefix_len p xs) = omega arith in ap (λ n. length (take n (x ∷ xs))) one ∙ ap suc rest
taken_by p x xs false passes rest = cc passes

all_taken : (p : ℕ → Bool) (xs : List ℕ) → ((i t : ℕ) → slice_get xs i ≡ Some t → p t ≡ true) → length (take (prefix_len p xs) xs) ≡ length xs
all_taken p [] all = refl
all_taken p (x ∷ xs) all = taken_by p x xs (p x) (all 0 x refl) (all_taken p xs (λ i t e. all (suc i) t e))

module _ (f r : ℕ) (h : History) (k : Kept h) (lt : r < 2 * f + 1) where
  -- who is held is processed
  pub held_processed : (t place : ℕ) → phase_of t h ≡ phase.Logged place → (committed : Bool)
      → IsHeld place (count (journal_of r h)) (length (attempt t (journal_of r h))) (length (submits t h)) committed → is_processed (view_of f h) r t ≡ true
  held_processed t place e _ (inl le) =
      let born = logged_born h k t place e in
      or_first (is_committed (view_of f h) r t) (is_whole (view_of f h) r t)
      (ap (is_logged_by (replica_in (view_of f h) r).position) (phase_seen f t h born ∙ e) ∙ le-leb place (replica_in (view_of f h) r).position (omega (arith, le, position_seen f r h lt)))
  held_processed t place e _ (inr all) =
      let born = logged_born h k t place e in
      let told : length (answers_in (view_of f h) r t) ≡ length (attempt t (journal_of r h)) = ap (λ (x : List Answer). length x) (answers_seen f r h lt t) ∙ many (attempt t (journal_of r h)) in
      or_second (is_committed (view_of f h) r t) (is_whole (view_of f h) r t)
      (eq-eqb (length (answers_in (view_of f h) r t)) (txn_in (view_of f h) t).statements (told ∙ all.0 ∙ sym (statements_seen f t h born)))

  processed_by : HoldsAt r h → primary_of h ≡ Some r → processed_of f h r ≡ length (log h)
  processed_by g is = all_taken (is_processed (view_of f h) r) (log h) (λ i t e.
      let logged = (k.numbers.logged t (suc i)).1 e in
      held_processed t (suc i) logged _ (g.whole is t (suc i) logged))

pub primary_processed : (f s r : ℕ) (h : History) → Begun f s h → primary_of h ≡ Some r → processed_of f h r ≡ length (log h)
primary_processed f s r h b is = processed_by f r h (kept f s h b) (primary_within f s r h b is) (holds f s r h b) is
