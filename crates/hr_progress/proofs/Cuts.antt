-- What is left of a list that was told, where fewer and fewer of it run.
use Rattle.std.proofs.Common.{◌≡◌, ℕ, Bool, true, false, ◌&&◌, cond, Some, None, List, [], ◌∷◌, filter, refl, ap, sym, ◌∙◌}
use Rattle.std.specs.List.{list_all}
use Rattle.hr_base.specs.Lists.{once}
use Rattle.hr_base.proofs.Tests.{once_again, once_filter}
use Rattle.hr_history.specs.declared.phase.Last.{Last}
use Rattle.hr_history.specs.declared.phase.Last.TheVariants as last
use Rattle.hr_history.specs.Attempts.{still_told}
use Rattle.hr_moves.specs.Sane.{cut_to}
use Rattle.hr_progress.proofs.Numbers.{filter_both}

module _ (p q : ℕ → Bool) where
  cut_list : (ys : List ℕ) → once ys ≡ ys → cut_to p (still_told ys None) ≡ still_told (filter p ys) None
  cut_list [] e = refl
  cut_list (y ∷ ys) e = ap (λ zs. still_told (filter p zs) None) e

  all_both : (ts : List ℕ) → list_all (λ u. p u && q u) ts ≡ (list_all p ts && list_all q ts)
  all_both [] = refl
  all_both (t ∷ ts) = ap (λ b. p t && q t && b) (all_both ts) ∙ mixed (p t) (q t) (list_all p ts) (list_all q ts)
    where
      mixed : (a b c d : Bool) → (a && b && (c && d)) ≡ (a && c && (b && d))
      mixed true true c d = refl
      mixed true false true d = refl
      mixed true false false d = refl
      mixed false b c d = refl

  cut_cycle : (b c : Bool) (cycle : List ℕ) → list_all p cycle ≡ c
      → cut_to p (still_told [] (cond b (Some cycle) None)) ≡ still_told [] (cond (c && b) (Some cycle) None)
  cut_cycle true c cycle e = ap (λ x. still_told [] (cond x (Some cycle) None)) e ∙ last_step c
    where
      last_step : (x : Bool) → still_told [] (cond x (Some cycle) None) ≡ still_told [] (cond (x && true) (Some cycle) None)
      last_step true = refl
      last_step false = refl
  cut_cycle false true cycle e = refl
  cut_cycle false false cycle e = refl

  -- a cut of a cut
  pub cut_both : (told : Last) → cut_to p (cut_to q told) ≡ cut_to (λ u. p u && q u) told
  cut_both last.Answered = refl
  cut_both (last.Blocked named) =
      cut_list (filter q (once named)) (once_filter q (once named) ∙ ap (filter q) (once_again named))
      ∙ ap (λ ys. still_told ys None) (filter_both p q (once named))
  cut_both (last.Deadlock cycle) =
      cut_cycle (list_all q cycle) (list_all p cycle) cycle refl ∙ ap (λ b. still_told [] (cond b (Some cycle) None)) (sym (all_both cycle))

implied : (a b : Bool) → (b ≡ true → a ≡ true) → (a && b) ≡ b
implied true b h = refl
implied false true h = h refl
implied false false h = refl

-- a cut to more changes nothing
pub cut_within : (p q : ℕ → Bool) (told : Last) → ((u : ℕ) → q u ≡ true → p u ≡ true) → cut_to p (cut_to q told) ≡ cut_to q told
cut_within p q told more = cut_both p q told ∙ (λ i. cut_to (λ u. implied (p u) (q u) (more u) i) told)
