-- Where the whole log is processed at a replica, each of it is committed there or whole.
use Rattle.std.proofs.Common.{◌≡◌, inl, inr, ℕ, zero, suc, ◌+◌, ◌*◌, ◌<◌, ◌≤◌, Bool, true, false, cond, Some, take, slice_get, List, [], ◌∷◌, length, refl, ap, sym, ◌∙◌, arith}
use Rattle.std.specs.List.{prefix_len}
use Rattle.std.proofs.lemmas.Bool.{or_cases, eqb-true}
use Rattle.hr_rel.specs.declared.answer.Answer.{Answer}
use Rattle.hr_engine.specs.Attempts.{attempt, statements}
use Rattle.hr_engine.specs.Base.{count}
use Rattle.hr_history.specs.declared.phase.Phase.TheVariants as phase
use Rattle.hr_history.specs.History.{History}
use Rattle.hr_history.specs.Transactions.{begun, log, submits, phase_of}
use Rattle.hr_history.specs.Replicas.{journal_of}
use Rattle.hr_history.specs.View.{view_of}
use Rattle.hr_history.specs.Processed.{phase_in, replica_in, answers_in, is_committed, is_whole, is_processed, processed_in}
use Rattle.hr_records.specs.Numbers.{IsBorn}
use Rattle.hr_records.specs.Kept.{Kept}
use Rattle.hr_records.proofs.Options.{some_none, same_some}
use Rattle.hr_records.proofs.Born.{born_or_not}
use Rattle.hr_records.proofs.NumberSteps.{open_unlogged}
use Rattle.hr_records.proofs.Beginnings.{begins_whole}
use Rattle.hr_records.proofs.JobWords.{many}
use Rattle.hr_records.proofs.ReplicaSteps.{statements_many}
use Rattle.hr_records.proofs.ViewWords.{phase_seen, statements_seen, answers_seen, position_seen, later_place}

-- where the test passes of the whole list, it passes of each
short_take : {X : Type 0} (n : ℕ) (xs : List X) → length (take n xs) ≤ n
short_take zero xs = omega arith
short_take (suc n) [] = omega arith
short_take (suc n) (x ∷ xs) = omega (arith, short_take n xs)

pass_by : (p : ℕ → Bool) (x : ℕ) (xs : List ℕ) (b : Bool) → p x ≡ b → suc (length xs) ≤ cond b (1 + prefix_len p xs) 0 → (i t : ℕ) → slice_get (x ∷ xs) i ≡ Some t
    → (length xs ≤ prefix_len p xs → (n : ℕ) → slice_get xs n ≡ Some t → p t ≡ true) → p t ≡ true
pass_by p x xs true passes le zero t e rest = ap p (sym (same_some x t e)) ∙ passes
pass_by p x xs true passes le (suc n) t e rest = rest (omega (arith, le)) n e
pass_by p x xs false fails le i t e rest = absurd (omega (arith, le))

pub all_pass : (p : ℕ → Bool) (xs : List ℕ) → length xs ≤ prefix_len p xs → (i t : ℕ) → slice_get xs i ≡ Some t → p t ≡ true
all_pass p [] all i t e = absurd (some_none t (sym e))
all_pass p (x ∷ xs) all i t e = pass_by p x xs (p x) refl all i t e (λ le n d. all_pass p xs le n t d)

pub logged_born : (h : History) → Kept h → (t place : ℕ) → phase_of t h ≡ phase.Logged place → IsBorn (length (begun h)) t
logged_born h k t place e = elim (born_or_not (length (begun h)) t) [ inl born ↦ born | inr unborn ↦ absurd (open_unlogged phase.Active place refl (sym (k.numbers.unborn t unborn).0 ∙ e)) ]

module _ (f r : ℕ) (h : History) (k : Kept h) (lt : r < 2 * f + 1) where
  -- all that were submitted of a whole transaction are in its attempt
  pub whole_attempt : (t : ℕ) → IsBorn (length (begun h)) t → is_whole (view_of f h) r t ≡ true → statements (attempt t (journal_of r h)) ≡ submits t h
  whole_attempt t born whole =
      let told : length (answers_in (view_of f h) r t) ≡ length (attempt t (journal_of r h)) = ap (λ (x : List Answer). length x) (answers_seen f r h lt t) ∙ many (attempt t (journal_of r h)) in
      let same = eqb-true _ _ whole in
      begins_whole (statements (attempt t (journal_of r h))) (submits t h) ((k.replicas r).attempts t)
      (omega (arith, told, same, statements_many (attempt t (journal_of r h)), statements_seen f t h born))

  -- those after what is committed are whole
  pub later_whole : processed_in (view_of f h) r ≡ length (log h) → (i t : ℕ) → count (journal_of r h) ≤ i → slice_get (log h) i ≡ Some t → statements (attempt t (journal_of r h)) ≡ submits t h
  later_whole all i t le at =
      let v = view_of f h in
      let logged = (k.numbers.logged t (suc i)).1 at in
      let born = logged_born h k t (suc i) logged in
      let passes = all_pass (is_processed v r) (log h) (omega (arith, all, short_take (prefix_len (is_processed v r) (log h)) (log h))) i t at in
      elim (or_cases (is_committed v r t) (is_whole v r t) passes) [
        | inl committed ↦ absurd (later_place (phase_in v t) (suc i) (replica_in v r).position (phase_seen f t h born ∙ logged) (omega (arith, le, position_seen f r h lt)) committed)
        | inr whole ↦ whole_attempt t born whole
      ]
