-- What a call makes of an attempt that has nothing to roll back after it: nothing is left, as if it had never begun.
use Rattle.std.proofs.Common.{◌≡◌, ℕ, Bool, true, false, not, ◌&&◌, ◌==◌, if◌then◌else◌, Option, Some, None, List, [], filter, option_and_then, refl, ap, ◌∙◌}
use Rattle.hr_base.proofs.Tests.{or_false, and_false, if_false, if_same}
use Rattle.hr_engine.specs.Effects.{Effect, effect_of, next_items}
use Rattle.hr_engine.specs.Effects as does
use Rattle.hr_engine.specs.Waits.{next_wait, next_standing, if_all}
use Rattle.hr_history.specs.declared.phase.Last.{Last}
use Rattle.hr_history.specs.declared.phase.Last.TheVariants as last
use Rattle.hr_history.specs.Attempts.{next_touched, ends_attempt, told_by, still_told}
use Rattle.hr_history.specs.View.{Attempt}
use Rattle.hr_history.specs.Processed.{no_attempt}
use Rattle.hr_history.specs.Step.{last_if}

-- No answer, no place, no wait, no cycle of waits and nothing told is left, and it isn't preempted.
pub record IsQuiet (t : ℕ) (effect : Effect) (a : Attempt) (w : List ℕ) (s : Option (List ℕ)) : Type 0 where
  pub answers : next_items t (λ stmt answer. answer) effect a.answers ≡ []
  pub places : (place : ℕ) → next_items t (λ stmt answer. place) effect a.places ≡ []
  pub wait : next_wait t effect w ≡ []
  pub cycle : next_standing t effect s ≡ None
  pub told : told_by t effect ≡ None
  pub preempted : (not (ends_attempt t effect) && a.preempted) ≡ false

-- nothing is known of it
pub record IsIdle (a : Attempt) (w : List ℕ) (s : Option (List ℕ)) : Type 0 where
  pub attempt : a ≡ no_attempt
  pub wait : w ≡ []
  pub cycle : s ≡ None

both_false : (b : Bool) {X : Type 0} (x y : X) → b ≡ false → y ≡ x → (if b then x else y) ≡ x
both_false true x y e d = refl
both_false false x y e d = d

ends_here : (b : Bool) (t : ℕ) (a : Attempt) (w : List ℕ) (s : Option (List ℕ)) (u : ℕ) → (t == u) ≡ b → (a.touched ≡ false → IsIdle a w s) → (not b && a.touched) ≡ false → IsQuiet t (does.Ends u) a w s
ends_here true t a w s u e idle h = record {
  answers = ap (λ b. if b then [] else a.answers) e;
  places = λ place. ap (λ b. if b then [] else a.places) e;
  wait = ap (λ b. if b then [] else w) e;
  cycle = ap (λ b. if b then None else s) e;
  told = refl;
  preempted = ap (λ b. not b && a.preempted) e;
}
ends_here false t a w s u e idle h =
    let i = idle h in
    record {
      answers = if_same (t == u) [] a.answers (ap (λ x. x.answers) i.attempt);
      places = λ place. if_same (t == u) [] a.places (ap (λ x. x.places) i.attempt);
      wait = if_same (t == u) [] w i.wait;
      cycle = if_same (t == u) None s i.cycle;
      told = refl;
      preempted = and_false (not (t == u)) a.preempted (ap (λ x. x.preempted) i.attempt);
    }

pub quiet : (t : ℕ) (effect : Effect) (a : Attempt) (w : List ℕ) (s : Option (List ℕ)) → (a.touched ≡ false → IsIdle a w s) → next_touched t effect a.touched ≡ false → IsQuiet t effect a w s
quiet t (does.Runs u stmt answer) a w s idle h =
    let both = or_false (t == u) a.touched h in
    let i = idle both.1 in
    record {
      answers = if_false (t == u) _ a.answers both.0 ∙ ap (λ x. x.answers) i.attempt;
      places = λ place. if_false (t == u) _ a.places both.0 ∙ ap (λ x. x.places) i.attempt;
      wait = if_false (t == u) [] w both.0 ∙ i.wait;
      cycle = if_false (t == u) None s both.0 ∙ i.cycle;
      told = refl;
      preempted = ap (λ x. x.preempted) i.attempt;
    }
quiet t (does.Waits u named) a w s idle h =
    let both = or_false (t == u) a.touched h in
    let i = idle both.1 in
    record {
      answers = ap (λ x. x.answers) i.attempt;
      places = λ place. ap (λ x. x.places) i.attempt;
      wait = if_false (t == u) _ w both.0 ∙ i.wait;
      cycle = if_false (t == u) None s both.0 ∙ i.cycle;
      told = if_false (t == u) (Some (last.Blocked named)) None both.0;
      preempted = ap (λ x. x.preempted) i.attempt;
    }
quiet t (does.Closes u cycle) a w s idle h =
    let both = or_false (t == u) a.touched h in
    let i = idle both.1 in
    record {
      answers = ap (λ x. x.answers) i.attempt;
      places = λ place. ap (λ x. x.places) i.attempt;
      wait = if_false (t == u) [] w both.0 ∙ i.wait;
      cycle = if_false (t == u) (Some cycle) s both.0 ∙ i.cycle;
      told = if_false (t == u) (Some (last.Deadlock cycle)) None both.0;
      preempted = ap (λ x. x.preempted) i.attempt;
    }
quiet t (does.Ends u) a w s idle h = ends_here (t == u) t a w s u refl idle h
quiet t does.EndsAll a w s idle h = record { answers = refl; places = λ place. refl; wait = refl; cycle = refl; told = refl; preempted = refl }
quiet t does.Nothing a w s idle h =
    let i = idle h in
    record {
      answers = ap (λ x. x.answers) i.attempt;
      places = λ place. ap (λ x. x.places) i.attempt;
      wait = i.wait;
      cycle = i.cycle;
      told = refl;
      preempted = ap (λ x. x.preempted) i.attempt;
    }

-- then the last reply tells of nothing
pub quiet_last : (fresh : Bool) (runs : ℕ → Bool) (told : Option Last) (w : List ℕ) (s : Option (List ℕ)) → told ≡ None → w ≡ [] → s ≡ None
    → last_if fresh told (still_told (filter runs w) (option_and_then (if_all runs) s)) ≡ last.Answered
quiet_last true runs told w s e d c = λ i. last_if true (e i) (still_told (filter runs (d i)) (option_and_then (if_all runs) (c i)))
quiet_last false runs told w s e d c = λ i. still_told (filter runs (d i)) (option_and_then (if_all runs) (c i))
