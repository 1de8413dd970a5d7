-- What a tally says of a contradicted transaction.
use Rattle.std.proofs.Common.{◌≡◌, ℕ, Bool, true, false, ◌&&◌, Option, Some, None, is_some, IsTrue, refl, sym, ◌∙◌}
use Rattle.std.proofs.lemmas.Bool.{and_parts}
use Rattle.hr_history.specs.Processed.{phase_in}
use Rattle.hr_history.specs.Transactions.{is_asked}
use Rattle.hr_history.specs.View.{View}
use Rattle.hr_history.specs.Votes.{is_contradicted, contradicted_by, difference_at}
use Rattle.hr_moves.specs.declared.outcome.Tally.TheVariants as tally
use Rattle.hr_moves.specs.Outcomes.{tally_in}
use Rattle.hr_sane.proofs.Outcomes.{differs}

module _ (v : View) (t : ℕ) where
  it_is : (o : Option ℕ) → contradicted_by v t ≡ o → is_some o ≡ true → (by : ℕ) × (contradicted_by v t ≡ Some by)
  it_is None e h = cc h
  it_is (Some by) e h = (by, e)

  -- it is that it differs
  pub told_so : IsTrue (is_contradicted v t) → (by : ℕ) × (tally_in v t ≡ tally.Differ (difference_at v by t) by)
  told_so h =
      let found = it_is (contradicted_by v t) refl (and_parts (is_asked (phase_in v t)) (is_some (contradicted_by v t)) h).1 in
      (found.0, (differs v t (difference_at v found.0 t) found.0).1 (h, found.1, refl))

  accepted_by : (b : Bool) → is_contradicted v t ≡ b → tally_in v t ≡ tally.Accept → b ≡ false
  accepted_by false e h = refl
  accepted_by true e h = absurd (apart (told_so e).0 (sym h ∙ (told_so e).1))
    where
      apart : (by : ℕ) → tally.Accept ≡ tally.Differ (difference_at v by t) by → ⊥
      apart by d = cc d

  -- what is accepted isn't contradicted
  pub accepted : tally_in v t ≡ tally.Accept → is_contradicted v t ≡ false
  accepted h = accepted_by (is_contradicted v t) refl h
