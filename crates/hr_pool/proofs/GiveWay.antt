-- Who has to give way, and for whom, has something to roll back.
use Rattle.std.proofs.Common.{◌≡◌, ℕ, Bool, true, false, cond, not, ◌&&◌, ◌||◌, Some, None, option_and_then, List, [], ◌∷◌, find, refl, ap, sym, ◌∙◌}
use Rattle.std.proofs.lemmas.Bool.{and_parts}
use Rattle.hr_base.specs.Lists.{has, is_empty}
use Rattle.hr_engine.specs.Waits.{if_all}
use Rattle.hr_history.specs.Transactions.{is_logged, is_asked}
use Rattle.hr_history.specs.View.{View, Attempt}
use Rattle.hr_history.specs.Processed.{phase_in, attempt_in, runs_in, live_in, is_primary, wait_in, named_in, cycle_in, no_attempt}
use Rattle.hr_history.specs.Ranks.{ranks_before}
use Rattle.hr_history.specs.Jobs.{txn_numbers}
use Rattle.hr_history.specs.Preemption.{stays, is_held_up, gives_way_in, is_last_of_cycle, is_to_give_way, preempted_next}
use Rattle.hr_moves.specs.Sane.{IsSane}
use Rattle.hr_moves.specs.Kept.{touched_in}
use Rattle.hr_pool.specs.Searched.{gives_way_here, preempt_next}
use Rattle.hr_pool.proofs.Searches.{wrong, find_within, any_within}

pub find_agree : (p q : ℕ → Bool) → ((t : ℕ) → p t ≡ q t) → (xs : List ℕ) → find p xs ≡ find q xs
find_agree p q same [] = refl
find_agree p q same (x ∷ xs) = λ i. cond (same x i) (Some x) (find_agree p q same xs i)

pub find_never : (p : ℕ → Bool) → ((t : ℕ) → p t ≡ false) → (xs : List ℕ) → find p xs ≡ None
find_never p fails [] = refl
find_never p fails (x ∷ xs) = ap (λ b. cond b (Some x) (find p xs)) (fails x) ∙ find_never p fails xs

module _ (v : View) (r : ℕ) (sane : IsSane v) where
  abbrev touched : ℕ → Bool
  touched t = (attempt_in v r t).touched

  -- what fails of one that had never begun passes only of those that have something to roll back
  only_touched : (p : Attempt → Bool) → p no_attempt ≡ false → (t : ℕ) → p (attempt_in v r t) ≡ true → touched t ≡ true
  only_touched p none t h = by (touched t) refl
    where
      by : (b : Bool) → touched t ≡ b → b ≡ true
      by true e = refl
      by false e = absurd (wrong h (ap p (sane.untouched r t e) ∙ none))

  runs_touched : (h : ℕ) → runs_in v r h ≡ true → touched h ≡ true
  runs_touched h runs = only_touched (λ a. not (is_empty a.answers)) refl h runs

  waits_touched : (h t : ℕ) → is_held_up v r h t ≡ true → touched t ≡ true
  waits_touched h t held = only_touched (λ a. has (named_in a.last) h) refl t (and_parts ((is_logged (phase_in v t) || is_asked (phase_in v t)) && ranks_before v t h) (has (wait_in v r t) h) held).1

  cycles_touched : (h t : ℕ) → is_last_of_cycle v r h t ≡ true → touched t ≡ true
  cycles_touched h t last = only_touched (λ a. gives_way_in v r h (option_and_then (if_all (runs_in v r)) (cycle_in a.last))) refl t last

  same_gives_way : (h : ℕ) → is_to_give_way v r h ≡ gives_way_here v r h
  same_gives_way h =
      let held = any_within touched (is_held_up v r h) (waits_touched h) (txn_numbers v) in
      let cycles = any_within touched (is_last_of_cycle v r h) (cycles_touched h) (txn_numbers v) in
      λ i. runs_in v r h && stays v r h && (sym held i || sym cycles i)

  abbrev gives_way : ℕ → Bool
  gives_way h = live_in v r && not (is_primary v r) && is_to_give_way v r h

  gives_touched : (h : ℕ) → gives_way h ≡ true → touched h ≡ true
  gives_touched h gives =
      let here = (and_parts (live_in v r && not (is_primary v r)) (is_to_give_way v r h) gives).1 in
      let runs = (and_parts (runs_in v r h) (stays v r h) (and_parts (runs_in v r h && stays v r h) _ here).0).0 in
      runs_touched h runs

  pub preempts_found : preempted_next v r ≡ preempt_next v r
  preempts_found =
      sym (find_within touched gives_way gives_touched (txn_numbers v))
      ∙ find_agree gives_way (λ h. live_in v r && not (is_primary v r) && gives_way_here v r h) (λ h. ap (λ b. live_in v r && not (is_primary v r) && b) (same_gives_way h)) (touched_in v r)
