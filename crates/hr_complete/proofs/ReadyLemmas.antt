-- What f + 1 correct replicas are ready for is decided.
use Rattle.std.proofs.Common.{◌≡◌, inl, inr, ℕ, ◌+◌, ◌*◌, ◌<◌, ◌≤◌, Bool, true, false, ◌&&◌, nat_le, count_by, List, [], ◌∷◌, length, refl, ap, sym, ◌∙◌, arith}
use Rattle.std.proofs.lemmas.Bool.{and_parts, le-leb, false_from_ne_true}
use Rattle.hr_base.specs.Lists.{has}
use Rattle.hr_rel.specs.Database.{Database}
use Rattle.hr_history.specs.History.{History}
use Rattle.hr_history.specs.ReplicaNumbers.{replica_numbers}
use Rattle.hr_history.specs.SameAnswers.{same_answers}
use Rattle.hr_history.specs.Transactions.{begun, phase_of, is_asked}
use Rattle.hr_history.specs.Turn.{turn_of}
use Rattle.hr_history.specs.View.{view_of}
use Rattle.hr_history.specs.Processed.{phase_in, answers_in, given_in}
use Rattle.hr_history.specs.Rules.{due}
use Rattle.hr_history.specs.Votes.{is_ready, agrees, is_decidable}
use Rattle.hr_history.specs.Words.{IsReady}
use Rattle.hr_history.specs.Faithful.{is_begun, Begun, Faithful, Correct}
use Rattle.hr_records.specs.Numbers.{IsBorn}
use Rattle.hr_records.specs.Kept.{Kept}
use Rattle.hr_records.proofs.Counts.{more_pass}
use Rattle.hr_records.proofs.Options.{has_range}
use Rattle.hr_records.proofs.ViewWords.{phase_seen}
use Rattle.hr_records.proofs.KeptLemmas.{kept, asked_born}
use Rattle.hr_decisions.specs.Groups.{IsGroup}
use Rattle.hr_decisions.proofs.DecisionLemmas.{none_decidable, nothing_after}
use Rattle.hr_convictions.proofs.ContradictedLemmas.{ready_equal}
use Rattle.hr_complete.specs.Undisturbed.{IsUndisturbed, IsLed}
use Rattle.hr_complete.proofs.LedLemmas.{stays, undisturbed_led}

module _ (f s t : ℕ) (db : Database) (group : ℕ → Bool) (h : History) (faithful : Faithful f s h) (led : IsLed f db h) (many : IsGroup f group) (its : (r : ℕ) → r < 2 * f + 1 → group r ≡ true → Correct db h r × IsReady f h t r)
    (asked : is_asked (phase_of t h) ≡ true) where
  b : Begun f s h
  b = (and_parts (is_begun f s h) _ faithful).0

  k : Kept h
  k = kept f s h b

  born : IsBorn (length (begun h)) t
  born = asked_born t h k asked

  each_agrees : (r : ℕ) → has (replica_numbers f) r ≡ true → group r ≡ true → agrees (view_of f h) t r ≡ true
  each_agrees r there of =
      let within = has_range 0 (2 * f + 1) r there in
      let lt : r < 2 * f + 1 = omega (arith, within.1) in
      let same = ready_equal f s 0 t db h b k (stays f s db h b led).0 led.correct born asked r lt (its r lt of).0 (its r lt of).1 in
      λ i. (its r lt of).1 i && same i

  decidable : is_decidable (view_of f h) t ≡ true
  decidable =
      let enough : f + 1 ≤ count_by (agrees (view_of f h) t) (replica_numbers f) = omega (arith, many, more_pass group (agrees (view_of f h) t) (replica_numbers f) each_agrees) in
      λ i. (ap is_asked (phase_seen f t h born) ∙ asked) i && le-leb (f + 1) (count_by (agrees (view_of f h) t) (replica_numbers f)) enough i

  pub not_left : ⊥
  not_left = none_decidable (view_of f h) (turn_of h) (nothing_after f s h faithful) t decidable

pub decided : (f s t : ℕ) (db : Database) (group : ℕ → Bool) (h : History) → Faithful f s h → IsLed f db h → IsGroup f group → ((r : ℕ) → r < 2 * f + 1 → group r ≡ true → Correct db h r × IsReady f h t r) → is_asked (phase_of t h) ≡ false
decided f s t db group h faithful led many its = false_from_ne_true (is_asked (phase_of t h)) (λ asked. not_left f s t db group h faithful led many its asked)

-- where all are correct, all that are ready count
pub decided_by_ready : (f s t : ℕ) (db : Database) (h : History) → Faithful f s h → IsUndisturbed f db h → IsGroup f (is_ready (view_of f h) t) → is_asked (phase_of t h) ≡ false
decided_by_ready f s t db h faithful is many = decided f s t db (is_ready (view_of f h) t) h faithful (undisturbed_led f db h is) many (λ r lt ready. (is.correct r lt, ready))
