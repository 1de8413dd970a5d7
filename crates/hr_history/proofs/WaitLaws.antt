-- The waits that a view has are those of the journal.
use Rattle.std.proofs.Common.{◌≡◌, ℕ, Bool, true, false, ◌==◌, if◌then◌else◌, Option, Some, None, List, [], ◌∷◌, filter, option_and_then, refl, ap, sym, ◌∙◌}
use Rattle.std.specs.List.{list_all}
use Rattle.hr_engine.specs.Journal.{Call, Ran, Committed, RolledBack, Restarted, Journal}
use Rattle.hr_engine.specs.Effects.{Effect, effect_of}
use Rattle.hr_engine.specs.Effects as does
use Rattle.hr_engine.specs.Attempts.{is_running}
use Rattle.hr_engine.specs.Waits.{wait, next_wait, standing, next_standing, if_all}
use Rattle.hr_base.specs.Lists.{once}
use Rattle.hr_engine.specs.declared.reply.RunReply.TheVariants as run
use Rattle.hr_engine.specs.declared.reply.EndReply.TheVariants as end
use Rattle.hr_history.specs.declared.phase.Last.{Last}
use Rattle.hr_history.specs.declared.phase.Last.TheVariants as last
use Rattle.hr_history.specs.Attempts.{still_told, as_told, or_still, last_told}
use Rattle.hr_history.specs.Processed.{named_in, cycle_in}
use Rattle.hr_base.proofs.Tests.{filter_again, once_filter, once_again}

-- a list that passes whole passes again
module _ (p : ℕ → Bool) where
  if_all_by : (b : Bool) (ts : List ℕ) → list_all p ts ≡ b → option_and_then (if_all p) (if b then Some ts else None) ≡ (if b then Some ts else None)
  if_all_by true ts e = ap (λ b. if b then Some ts else None) e
  if_all_by false ts e = refl

  pub if_all_again : (o : Option (List ℕ)) → option_and_then (if_all p) (option_and_then (if_all p) o) ≡ option_and_then (if_all p) o
  if_all_again None = refl
  if_all_again (Some ts) = if_all_by (list_all p ts) ts refl

-- a wait names nobody twice, and running ones alone
once_if : (b : Bool) (xs ys : List ℕ) → once xs ≡ xs → once ys ≡ ys → once (if b then xs else ys) ≡ (if b then xs else ys)
once_if true xs ys e d = e
once_if false xs ys e d = d

once_next : (t : ℕ) (effect : Effect) (w : List ℕ) → once w ≡ w → once (next_wait t effect w) ≡ next_wait t effect w
once_next t (does.Runs u s a) w e = once_if (t == u) [] w refl e
once_next t (does.Waits u named) w e = once_if (t == u) (once named) w (once_again named) e
once_next t (does.Closes u cycle) w e = once_if (t == u) [] w refl e
once_next t (does.Ends u) w e = once_if (t == u) [] w refl e
once_next t does.EndsAll w e = refl
once_next t does.Nothing w e = e

once_wait : (t : ℕ) (j : Journal) → once (wait t j) ≡ wait t j
once_wait t [] = refl
once_wait t (c ∷ j) =
    let runs = λ (u : ℕ). is_running u (c ∷ j) in
    once_filter runs (next_wait t (effect_of c) (wait t j)) ∙ ap (filter runs) (once_next t (effect_of c) (wait t j) (once_wait t j))

filter_wait : (t : ℕ) (j : Journal) → filter (λ u. is_running u j) (wait t j) ≡ wait t j
filter_wait t [] = refl
filter_wait t (c ∷ j) = filter_again (λ u. is_running u (c ∷ j)) (next_wait t (effect_of c) (wait t j))

wait_again : (t : ℕ) (j : Journal) → filter (λ u. is_running u j) (once (wait t j)) ≡ wait t j
wait_again t j = ap (filter (λ u. is_running u j)) (once_wait t j) ∙ filter_wait t j

standing_again : (t : ℕ) (j : Journal) → option_and_then (if_all (λ u. is_running u j)) (standing t j) ≡ standing t j
standing_again t [] = refl
standing_again t (c ∷ j) = if_all_again (λ u. is_running u (c ∷ j)) (next_standing t (effect_of c) (standing t j))

-- one that waits has no Deadlock that stands
abbrev Apart : List ℕ → Option (List ℕ) → Type 0
Apart [] s = Unit {0}
Apart (t ∷ w) s = s ≡ None

apart_none : (w : List ℕ) → Apart w None
apart_none [] = tt
apart_none (t ∷ w) = refl

apart_cut : (p : ℕ → Bool) (w : List ℕ) (s : Option (List ℕ)) → Apart w s → Apart (filter p w) (option_and_then (if_all p) s)
apart_cut p [] s a = tt
apart_cut p (t ∷ w) None a = apart_none (filter p (t ∷ w))
apart_cut p (t ∷ w) (Some cycle) a = cc

apart_if : (b : Bool) (w v : List ℕ) (s r : Option (List ℕ)) → Apart w s → Apart v r → Apart (if b then w else v) (if b then s else r)
apart_if true w v s r a c = a
apart_if false w v s r a c = c

apart_next : (t : ℕ) (effect : Effect) (w : List ℕ) (s : Option (List ℕ)) → Apart w s → Apart (next_wait t effect w) (next_standing t effect s)
apart_next t (does.Runs u x answer) w s a = apart_if (t == u) [] w None s tt a
apart_next t (does.Waits u named) w s a = apart_if (t == u) (once named) w None s (apart_none (once named)) a
apart_next t (does.Closes u cycle) w s a = apart_if (t == u) [] w (Some cycle) s tt a
apart_next t (does.Ends u) w s a = apart_if (t == u) [] w None s tt a
apart_next t does.EndsAll w s a = tt
apart_next t does.Nothing w s a = a

apart : (t : ℕ) (j : Journal) → Apart (wait t j) (standing t j)
apart t [] = tt
apart t (c ∷ j) = apart_cut (λ u. is_running u (c ∷ j)) (next_wait t (effect_of c) (wait t j)) (next_standing t (effect_of c) (standing t j)) (apart_next t (effect_of c) (wait t j) (standing t j) (apart t j))

-- what is still told tells the wait, and the Deadlock that stands
named_still : (w : List ℕ) (s : Option (List ℕ)) → named_in (still_told w s) ≡ w
named_still [] None = refl
named_still [] (Some cycle) = refl
named_still (t ∷ w) s = refl

cycle_still : (w : List ℕ) (s : Option (List ℕ)) → Apart w s → cycle_in (still_told w s) ≡ s
cycle_still [] None a = refl
cycle_still [] (Some cycle) a = refl
cycle_still (t ∷ w) s a = sym a

-- what was told, word for word, tells them too, once it is cut
pub record Tells (t : ℕ) (j : Journal) (l : Last) : Type 0 where
  pub wait_told : filter (λ u. is_running u j) (once (named_in l)) ≡ wait t j
  pub standing_told : option_and_then (if_all (λ u. is_running u j)) (cycle_in l) ≡ standing t j

abbrev TellsIfThere : ℕ → Journal → Option Last → Type 0
TellsIfThere t j None = Unit {0}
TellsIfThere t j (Some l) = Tells t j l

blocked_tells : (b : Bool) (t u : ℕ) (c : Call) (named : List ℕ) (j : Journal) (w : List ℕ) (s : Option (List ℕ)) → wait t (c ∷ j) ≡ filter (λ v. is_running v (c ∷ j)) (if b then once named else w)
    → standing t (c ∷ j) ≡ option_and_then (if_all (λ v. is_running v (c ∷ j))) (if b then None else s) → TellsIfThere t (c ∷ j) (if b then Some (last.Blocked named) else None)
blocked_tells true t u c named j w s e d = record { wait_told = sym e; standing_told = sym d }
blocked_tells false t u c named j w s e d = tt

deadlock_tells : (b : Bool) (t u : ℕ) (c : Call) (cycle : List ℕ) (j : Journal) (w : List ℕ) (s : Option (List ℕ)) → wait t (c ∷ j) ≡ filter (λ v. is_running v (c ∷ j)) (if b then [] else w)
    → standing t (c ∷ j) ≡ option_and_then (if_all (λ v. is_running v (c ∷ j))) (if b then Some cycle else s) → TellsIfThere t (c ∷ j) (if b then Some (last.Deadlock cycle) else None)
deadlock_tells true t u c cycle j w s e d = record { wait_told = sym e; standing_told = sym d }
deadlock_tells false t u c cycle j w s e d = tt

told_tells : (t : ℕ) (j : Journal) → TellsIfThere t j (as_told t j)
told_tells t [] = tt
told_tells t (Ran u s (run.Blocked named) ∷ j) = blocked_tells (t == u) t u (Ran u s (run.Blocked named)) named j (wait t j) (standing t j) refl refl
told_tells t (Ran u s (run.Deadlock cycle) ∷ j) = deadlock_tells (t == u) t u (Ran u s (run.Deadlock cycle)) cycle j (wait t j) (standing t j) refl refl
told_tells t (Ran u s (run.Done answer) ∷ j) = tt
told_tells t (Ran u s run.Lost ∷ j) = tt
told_tells t (Ran u s run.NoMemory ∷ j) = tt
told_tells t (Committed u end.Done ∷ j) = tt
told_tells t (Committed u end.Lost ∷ j) = tt
told_tells t (RolledBack u end.Done ∷ j) = tt
told_tells t (RolledBack u end.Lost ∷ j) = tt
told_tells t (Restarted told ∷ j) = tt

tells_either : (t : ℕ) (j : Journal) (o : Option Last) → TellsIfThere t j o → Tells t j (or_still o t j)
tells_either t j None h = record {
  wait_told = ap (λ w. filter (λ u. is_running u j) (once w)) (named_still (wait t j) (standing t j)) ∙ wait_again t j;
  standing_told = ap (option_and_then (if_all (λ u. is_running u j))) (cycle_still (wait t j) (standing t j) (apart t j)) ∙ standing_again t j;
}
tells_either t j (Some l) h = h

-- so the view's last tells them: cut where it was told in this turn, and else as it is
pub wait_of_last : (b : Bool) (t : ℕ) (j : Journal) → (if b then filter (λ u. is_running u j) (once (named_in (last_told b t j))) else named_in (last_told b t j)) ≡ wait t j
wait_of_last true t j = (tells_either t j (as_told t j) (told_tells t j)).wait_told
wait_of_last false t j = named_still (wait t j) (standing t j)

pub standing_of_last : (b : Bool) (t : ℕ) (j : Journal) → (if b then option_and_then (if_all (λ u. is_running u j)) (cycle_in (last_told b t j)) else cycle_in (last_told b t j)) ≡ standing t j
standing_of_last true t j = (tells_either t j (as_told t j) (told_tells t j)).standing_told
standing_of_last false t j = cycle_still (wait t j) (standing t j) (apart t j)
