-- A last reply that is cut to those that still run stays so, whatever call comes.
use Rattle.std.proofs.Common.{◌≡◌, ℕ, Bool, true, false, ◌==◌, if◌then◌else◌, Option, Some, None, List, [], ◌∷◌, filter, option_and_then, refl, ap, sym, ◌∙◌}
use Rattle.hr_base.specs.Lists.{once}
use Rattle.hr_base.proofs.Tests.{filter_again, once_filter, once_again}
use Rattle.hr_engine.specs.Effects.{Effect}
use Rattle.hr_engine.specs.Effects as does
use Rattle.hr_engine.specs.Waits.{next_wait, next_standing, if_all}
use Rattle.hr_history.specs.declared.phase.Last.{Last}
use Rattle.hr_history.specs.declared.phase.Last.TheVariants as last
use Rattle.hr_history.specs.Attempts.{still_told}
use Rattle.hr_history.specs.View.{View, is_fresh}
use Rattle.hr_history.specs.Processed.{attempt_in, runs_in, named_in, cycle_in}
use Rattle.hr_history.specs.Step.{wait_left, standing_left}
use Rattle.hr_history.proofs.WaitLaws.{if_all_again}
use Rattle.hr_moves.specs.Sane.{IsSane, cut_to}

-- one that waits has no Deadlock that stands
abbrev pub Apart : List ℕ → Option (List ℕ) → Type 0
Apart [] s = Unit {0}
Apart (t ∷ w) s = s ≡ None

apart_none : (w : List ℕ) → Apart w None
apart_none [] = tt
apart_none (t ∷ w) = refl

pub apart_cut : (p : ℕ → Bool) (w : List ℕ) (s : Option (List ℕ)) → Apart w s → Apart (filter p w) (option_and_then (if_all p) s)
apart_cut p [] s a = tt
apart_cut p (t ∷ w) None a = apart_none (filter p (t ∷ w))
apart_cut p (t ∷ w) (Some cycle) a = cc

apart_if : (b : Bool) (w v : List ℕ) (s r : Option (List ℕ)) → Apart w s → Apart v r → Apart (if b then w else v) (if b then s else r)
apart_if true w v s r a c = a
apart_if false w v s r a c = c

apart_next : (t : ℕ) (effect : Effect) (w : List ℕ) (s : Option (List ℕ)) → Apart w s → Apart (next_wait t effect w) (next_standing t effect s)
apart_next t (does.Runs u x answer) w s a = apart_if (t == u) [] w None s tt a
apart_next t (does.Waits u named) w s a = apart_if (t == u) (once named) w None s (apart_none (once named)) a
apart_next t (does.Closes u cycle) w s a = apart_if (t == u) [] w (Some cycle) s tt a
apart_next t (does.Ends u) w s a = apart_if (t == u) [] w None s tt a
apart_next t does.EndsAll w s a = tt
apart_next t does.Nothing w s a = a

pub apart_last : (l : Last) → Apart (once (named_in l)) (cycle_in l)
apart_last last.Answered = tt
apart_last (last.Blocked named) = apart_none (once named)
apart_last (last.Deadlock cycle) = tt

once_if : (b : Bool) (xs ys : List ℕ) → once xs ≡ xs → once ys ≡ ys → once (if b then xs else ys) ≡ (if b then xs else ys)
once_if true xs ys e d = e
once_if false xs ys e d = d

once_next : (t : ℕ) (effect : Effect) (w : List ℕ) → once w ≡ w → once (next_wait t effect w) ≡ next_wait t effect w
once_next t (does.Runs u s a) w e = once_if (t == u) [] w refl e
once_next t (does.Waits u named) w e = once_if (t == u) (once named) w (once_again named) e
once_next t (does.Closes u cycle) w e = once_if (t == u) [] w refl e
once_next t (does.Ends u) w e = once_if (t == u) [] w refl e
once_next t does.EndsAll w e = refl
once_next t does.Nothing w e = e

pub named_still : (w : List ℕ) (s : Option (List ℕ)) → named_in (still_told w s) ≡ w
named_still [] None = refl
named_still [] (Some cycle) = refl
named_still (t ∷ w) s = refl

pub cycle_still : (w : List ℕ) (s : Option (List ℕ)) → Apart w s → cycle_in (still_told w s) ≡ s
cycle_still [] None a = refl
cycle_still [] (Some cycle) a = refl
cycle_still (t ∷ w) s a = sym a

pub once_cut : (p : ℕ → Bool) (named : List ℕ) → once (filter p (once named)) ≡ filter p (once named)
once_cut p named = once_filter p (once named) ∙ ap (filter p) (once_again named)

-- what passes the test, each once, is cut already
pub cut_still : (p : ℕ → Bool) (w : List ℕ) (s : Option (List ℕ)) → once w ≡ w → Apart w s
    → still_told (filter p w) (option_and_then (if_all p) s) ≡ cut_to p (still_told (filter p w) (option_and_then (if_all p) s))
cut_still p w s o a =
    let named = named_still (filter p w) (option_and_then (if_all p) s) in
    let cycle = cycle_still (filter p w) (option_and_then (if_all p) s) (apart_cut p w s a) in
    let again = ap (filter p) (once_filter p w ∙ ap (filter p) o) ∙ filter_again p w in
    sym ((λ i. still_told (filter p (once (named i))) (option_and_then (if_all p) (cycle i))) ∙ (λ i. still_told (again i) (if_all_again p s i)))

-- cut once more, by a test that whoever passes it passed the first
pub cut_again : (p : ℕ → Bool) (l : Last) → cut_to p l ≡ cut_to p (cut_to p l)
cut_again p l = cut_still p (once (named_in l)) (cycle_in l) (once_again (named_in l)) (apart_last l)

-- what a call leaves of a cut one is cut
pub cut_by_call : (p q : ℕ → Bool) (t : ℕ) (effect : Effect) (l : Last)
    → still_told (filter q (next_wait t effect (filter p (once (named_in l))))) (option_and_then (if_all q) (next_standing t effect (option_and_then (if_all p) (cycle_in l))))
    ≡ cut_to q (still_told (filter q (next_wait t effect (filter p (once (named_in l))))) (option_and_then (if_all q) (next_standing t effect (option_and_then (if_all p) (cycle_in l)))))
cut_by_call p q t effect l =
    let w = filter p (once (named_in l)) in
    let s = option_and_then (if_all p) (cycle_in l) in
    cut_still q (next_wait t effect w) (next_standing t effect s) (once_next t effect w (once_cut p (named_in l))) (apart_next t effect w s (apart_cut p (once (named_in l)) (cycle_in l) (apart_last l)))

-- of a last reply in a sane view the cut is left at a call, whether it was told in this turn or before
module _ (v : View) (sane : IsSane v) (r t : ℕ) where
  abbrev its : Last
  its = (attempt_in v r t).last

  wait_by : (b : Bool) → is_fresh v.fresh r t ≡ b → (if b then filter (runs_in v r) (once (named_in its)) else named_in its) ≡ filter (runs_in v r) (once (named_in its))
  wait_by true e = refl
  wait_by false e = ap named_in (sane.cut r t e) ∙ named_still (filter (runs_in v r) (once (named_in its))) (option_and_then (if_all (runs_in v r)) (cycle_in its))

  cycle_by : (b : Bool) → is_fresh v.fresh r t ≡ b → (if b then option_and_then (if_all (runs_in v r)) (cycle_in its) else cycle_in its) ≡ option_and_then (if_all (runs_in v r)) (cycle_in its)
  cycle_by true e = refl
  cycle_by false e =
      ap cycle_in (sane.cut r t e)
      ∙ cycle_still (filter (runs_in v r) (once (named_in its))) (option_and_then (if_all (runs_in v r)) (cycle_in its)) (apart_cut (runs_in v r) (once (named_in its)) (cycle_in its) (apart_last its))

  pub wait_is : wait_left v r t ≡ filter (runs_in v r) (once (named_in its))
  wait_is = wait_by (is_fresh v.fresh r t) refl

  pub cycle_is : standing_left v r t ≡ option_and_then (if_all (runs_in v r)) (cycle_in its)
  cycle_is = cycle_by (is_fresh v.fresh r t) refl

  -- so without a call the cut is left
  pub left_is_cut : still_told (wait_left v r t) (standing_left v r t) ≡ cut_to (runs_in v r) its
  left_is_cut = λ i. still_told (wait_is i) (cycle_is i)
