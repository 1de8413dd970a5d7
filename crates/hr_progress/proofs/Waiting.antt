-- Whom a transaction waits for, and the cycle that stands, by the place of the reply that told it.
use Rattle.std.proofs.Common.{◌≡◌, ℕ, ◌+◌, ◌<◌, Bool, true, false, not, ◌&&◌, ◌||◌, ◌==◌, if◌then◌else◌, Option, Some, None, is_none, is_some, List, [], ◌∷◌, filter, length, map, slice_get, option_and_then, refl, ap, sym, ◌∙◌}
use Rattle.std.specs.List.{list_any, list_all}
use Rattle.std.specs.Option.{option_map}
use Rattle.std.proofs.lemmas.Bool.{eqb-true, eq-eqb}
use Rattle.std.proofs.lemmas.Option.{slice_get_past}
use Rattle.hr_base.specs.Lists.{has, once}
use Rattle.hr_base.proofs.Tests.{or_first, or_second, in_once, kept, kept_once}
use Rattle.hr_base.proofs.ListLaws.{has-filter, all_has, all_from_has, if_same}
use Rattle.hr_engine.specs.Waits.{if_all}
use Rattle.hr_history.specs.declared.phase.Last.{Last}
use Rattle.hr_history.specs.declared.phase.Last.TheVariants as last
use Rattle.hr_history.specs.View.{Attempt, is_fresh}
use Rattle.hr_history.specs.Processed.{attempt_in, runs_in, wait_in, standing_in, named_in, cycle_in}
use Rattle.hr_history.specs.Jobs.{may_go_on}
use Rattle.hr_moves.specs.Sane.{cut_to}
use Rattle.hr_sane.proofs.Cuts.{named_still, cycle_still, apart_cut, apart_last}
use Rattle.hr_progress.specs.declared.progress.Progress.{Progress}
use Rattle.hr_progress.specs.Plain.{PlainAttempt, PlainView, plain_progress, plain_attempt_in, plain_replica_in}
use Rattle.hr_progress.specs.Seen.{waits_at, runs_since, seen_last, seen_plain}
use Rattle.hr_progress.specs.Kept.{is_wait, ArePlaces}
use Rattle.hr_progress.proofs.Parts.{attempt_seen}
use Rattle.hr_progress.proofs.Rests.{le_or, told_at, newest, runs_seen, first_of}

pub same_bool : (a b : Bool) → (a ≡ true → b ≡ true) → (b ≡ true → a ≡ true) → a ≡ b
same_bool true b to back = sym (to refl)
same_bool false true to back = back refl
same_bool false false to back = refl

no : {b : Bool} → b ≡ true → b ≡ false → ⊥
no e d = cc

and_both : (a b : Bool) → a ≡ true → b ≡ true → (a && b) ≡ true
and_both true b e d = d
and_both false b e d = e

second_of : (a b : Bool) → (a && b) ≡ true → b ≡ true
second_of true b h = h
second_of false b h = absurd (no h refl)

-- ---- what a list has that passes a test

any_step : (b : Bool) (p : ℕ → Bool) (x : ℕ) (xs : List ℕ) → p x ≡ b → (list_any p xs ≡ true → (u : ℕ) × (has xs u ≡ true) × (p u ≡ true)) → (b || list_any p xs) ≡ true
    → (u : ℕ) × (has (x ∷ xs) u ≡ true) × (p u ≡ true)
any_step true p x xs e more h = (x, or_first (x == x) (has xs x) (eq-eqb x x refl), e)
any_step false p x xs e more h = let found = more h in (found.0, or_second (x == found.0) (has xs found.0) found.1, found.2)

any_found : (p : ℕ → Bool) (xs : List ℕ) → list_any p xs ≡ true → (u : ℕ) × (has xs u ≡ true) × (p u ≡ true)
any_found p [] h = absurd (no h refl)
any_found p (x ∷ xs) h = any_step (p x) p x xs refl (λ d. any_found p xs d) h

of_step : (b : Bool) (p : ℕ → Bool) (x : ℕ) (xs : List ℕ) (u : ℕ) → (x == u) ≡ b → p u ≡ true → (has xs u ≡ true → list_any p xs ≡ true) → (b || has xs u) ≡ true → (p x || list_any p xs) ≡ true
of_step true p x xs u same e more h = or_first (p x) (list_any p xs) (if_same p x u same ∙ e)
of_step false p x xs u same e more h = or_second (p x) (list_any p xs) (more h)

any_of : (p : ℕ → Bool) (xs : List ℕ) (u : ℕ) → has xs u ≡ true → p u ≡ true → list_any p xs ≡ true
any_of p [] u h e = h
any_of p (x ∷ xs) u h e = of_step (x == u) p x xs u refl e (λ d. any_of p xs u d e) h

module _ (since : ℕ → Bool) (named : List ℕ) where
  pub has_cut : (u : ℕ) → has (filter since (once named)) u ≡ (has named u && since u)
  has_cut u = same_bool _ _ (λ h. let both = has-filter since (once named) u h in and_both _ _ (in_once named u both.1) both.0)
      (λ h. kept since u (once named) (second_of _ _ h) (kept_once named u (first_of _ _ h)))

  pub any_cut : (runs : ℕ → Bool) → ((u : ℕ) → since u ≡ true → runs u ≡ true) → list_any runs (filter since (once named)) ≡ list_any since named
  any_cut runs more = same_bool _ _
      (λ h. let found = any_found runs (filter since (once named)) h in let both = has-filter since (once named) found.0 found.1 in any_of since named found.0 (in_once named found.0 both.1) both.0)
      (λ h. let found = any_found since named h in any_of runs (filter since (once named)) found.0 (kept since found.0 (once named) found.2 (kept_once named found.0 found.1)) (more found.0 found.2))

-- a cycle that all of fewer run stays where all of more do
pub cycle_cut : (since runs : ℕ → Bool) → ((u : ℕ) → since u ≡ true → runs u ≡ true) → (c : Option (List ℕ)) → option_and_then (if_all runs) (option_and_then (if_all since) c) ≡ option_and_then (if_all since) c
cycle_cut since runs more None = refl
cycle_cut since runs more (Some cycle) = by (list_all since cycle) refl
  where
    by : (b : Bool) → list_all since cycle ≡ b → option_and_then (if_all runs) (if b then Some cycle else None) ≡ (if b then Some cycle else None)
    by true e = ap (λ d. if d then Some cycle else None) (all_from_has runs cycle (λ u h. more u (all_has since cycle e u h)))
    by false e = refl

named_cut : (since : ℕ → Bool) (l : Last) → named_in (cut_to since l) ≡ filter since (once (named_in l))
named_cut since l = named_still (filter since (once (named_in l))) (option_and_then (if_all since) (cycle_in l))

cycle_of_cut : (since : ℕ → Bool) (l : Last) → cycle_in (cut_to since l) ≡ option_and_then (if_all since) (cycle_in l)
cycle_of_cut since l = cycle_still (filter since (once (named_in l))) (option_and_then (if_all since) (cycle_in l)) (apart_cut since (once (named_in l)) (cycle_in l) (apart_last l))

-- an option that is seen as another is there where that is
pub none_seen : {X Y : Type 0} (f : X → Y) (o : Option X) (seen : Option Y) (b : Bool) → is_some o ≡ not b → option_map f o ≡ seen → b ≡ is_none seen
none_seen f None seen true e same = ap is_none same
none_seen f None seen false e same = absurd (no e refl)
none_seen f (Some x) seen true e same = absurd (no refl e)
none_seen f (Some x) seen false e same = ap is_none same

-- ---- in a view

-- the place of the last reply that told of waits, as the code found it
pub its_last : (found qs : List Progress) (r t : ℕ) (result : Option ℕ) → result ≡ (plain_attempt_in (plain_replica_in (map plain_progress found) r).attempts t).last → found ≡ qs
    → (plain_attempt_in (plain_replica_in (map plain_progress qs) r).attempts t).last ≡ result
its_last found qs r t result is same = sym (is ∙ ap (λ (xs : List Progress). (plain_attempt_in (plain_replica_in (map plain_progress xs) r).attempts t).last) same)

module _ (p : PlainView) (places : ArePlaces p) (r t : ℕ) where
  abbrev entries : List (ℕ × PlainAttempt)
  entries = (plain_replica_in p.replicas r).attempts

  abbrev its : PlainAttempt
  its = plain_attempt_in entries t

  last_seen : (attempt_in (seen_plain p) r t).last ≡ seen_last p.replies (is_fresh p.fresh r t) entries its.last
  last_seen = ap (λ (x : Attempt). x.last) (attempt_seen p r t)

  -- it was told of no waits since its last answer
  module _ (none : its.last ≡ None) where
    last_none : (attempt_in (seen_plain p) r t).last ≡ last.Answered
    last_none = last_seen ∙ ap (seen_last p.replies (is_fresh p.fresh r t) entries) none

    pub wait_none : wait_in (seen_plain p) r t ≡ []
    wait_none = ap named_in last_none

    pub standing_none : standing_in (seen_plain p) r t ≡ None
    standing_none = ap (λ l. option_and_then (if_all (runs_in (seen_plain p) r)) (cycle_in l)) last_none

    pub go_on_none : may_go_on (seen_plain p) r t ≡ true
    go_on_none = λ i. not (list_any (runs_in (seen_plain p) r) (wait_none i)) && is_none (standing_none i)

  -- the reply at this place told it of waits
  module _ (place : ℕ) (some : its.last ≡ Some place) where
    told : is_wait (slice_get p.replies place) ≡ true
    told = (told_at p.replies entries (places.told r) t).last place some

    pub place_within : place < length p.replies
    place_within = le_or place (length p.replies) (λ past. no told (ap is_wait (slice_get_past p.replies place past)))

    abbrev since : ℕ → Bool
    since u = runs_since entries place u

    since_runs : (u : ℕ) → since u ≡ true → runs_in (seen_plain p) r u ≡ true
    since_runs u h = runs_seen p places r u ∙ first_of _ _ h

    abbrev as_told : Bool
    as_told = is_fresh p.fresh r t && (place + 1 == length p.replies)

    abbrev last_by : Bool → Last
    last_by b = if b then waits_at p.replies place else cut_to since (waits_at p.replies place)

    last_some : (attempt_in (seen_plain p) r t).last ≡ last_by as_told
    last_some = last_seen ∙ ap (seen_last p.replies (is_fresh p.fresh r t) entries) some

    newest_same : as_told ≡ true → (u : ℕ) → runs_in (seen_plain p) r u ≡ since u
    newest_same e u = newest p places r place told (eqb-true (place + 1) (length p.replies) (second_of _ _ e)) u

    abbrev named : List ℕ
    named = named_in (waits_at p.replies place)

    has_by : (b : Bool) (u : ℕ) → has (named_in (last_by b)) u ≡ (has named u && (b || since u))
    has_by true u = itself (has named u)
      where
        itself : (b : Bool) → b ≡ (b && true)
        itself true = refl
        itself false = refl
    has_by false u = ap (λ ts. has ts u) (named_cut since (waits_at p.replies place)) ∙ has_cut since named u

    pub wait_some : (u : ℕ) → has (wait_in (seen_plain p) r t) u ≡ (has named u && (as_told || since u))
    wait_some u = ap (λ l. has (named_in l) u) last_some ∙ has_by as_told u

    any_by : (b : Bool) → as_told ≡ b → list_any (runs_in (seen_plain p) r) (named_in (last_by b)) ≡ list_any since named
    any_by true e = λ i. list_any (λ u. newest_same e u i) named
    any_by false e = ap (list_any (runs_in (seen_plain p) r)) (named_cut since (waits_at p.replies place)) ∙ any_cut since named (runs_in (seen_plain p) r) since_runs

    pub any_some : list_any (runs_in (seen_plain p) r) (wait_in (seen_plain p) r t) ≡ list_any since named
    any_some = ap (λ l. list_any (runs_in (seen_plain p) r) (named_in l)) last_some ∙ any_by as_told refl

    standing_by : (b : Bool) → as_told ≡ b → option_and_then (if_all (runs_in (seen_plain p) r)) (cycle_in (last_by b)) ≡ option_and_then (if_all since) (cycle_in (waits_at p.replies place))
    standing_by true e = λ i. option_and_then (if_all (λ u. newest_same e u i)) (cycle_in (waits_at p.replies place))
    standing_by false e =
        ap (option_and_then (if_all (runs_in (seen_plain p) r))) (cycle_of_cut since (waits_at p.replies place))
        ∙ cycle_cut since (runs_in (seen_plain p) r) since_runs (cycle_in (waits_at p.replies place))

    pub standing_some : standing_in (seen_plain p) r t ≡ option_and_then (if_all since) (cycle_in (waits_at p.replies place))
    standing_some = ap (λ l. option_and_then (if_all (runs_in (seen_plain p) r)) (cycle_in l)) last_some ∙ standing_by as_told refl

    pub go_on_some : may_go_on (seen_plain p) r t ≡ (not (list_any since named) && is_none (option_and_then (if_all since) (cycle_in (waits_at p.replies place))))
    go_on_some = λ i. not (any_some i) && is_none (standing_some i)
