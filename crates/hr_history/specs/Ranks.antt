-- The rank of transactions: which comes first.
use Rattle.std.specs.Prelude.{ℕ, Bool, ◌&&◌, ◌||◌, ◌==◌, nat_lt, Option, List}
use Rattle.hr_history.specs.declared.phase.Phase.{Phase}
use Rattle.hr_history.specs.declared.phase.Phase.TheVariants as phase
use Rattle.hr_base.specs.Lists.{first_by}
use Rattle.hr_history.specs.View.{View}
use Rattle.hr_history.specs.Processed.{phase_in}

-- A rank: by kind first, and within a kind by number.
pub record Rank : Type 0 where
  pub kind : ℕ
  pub number : ℕ

-- Logged transactions come first, by their place; then those whose commit is asked for, in the order of asking; then the
-- other open ones, by number; the ended ones are last.
abbrev pub rank_by : Phase → ℕ → Rank
rank_by (phase.Logged place) t = record { kind = 0; number = place }
rank_by (phase.Asked n) t = record { kind = 1; number = n }
rank_by phase.Active t = record { kind = 2; number = t }
rank_by phase.RolledBack t = record { kind = 3; number = t }
rank_by phase.Refused t = record { kind = 3; number = t }

abbrev pub is_before : Rank → Rank → Bool
is_before a b = nat_lt a.kind b.kind || ((a.kind == b.kind) && nat_lt a.number b.number)

module _ (v : View) where
  abbrev pub rank_of : ℕ → Rank
  rank_of t = rank_by (phase_in v t) t

  -- whether transaction t ranks before u
  abbrev pub ranks_before : ℕ → ℕ → Bool
  ranks_before t u = is_before (rank_of t) (rank_of u)

  -- the one of the list that ranks first
  abbrev pub first_in_rank : List ℕ → Option ℕ
  first_in_rank ts = first_by ranks_before ts
