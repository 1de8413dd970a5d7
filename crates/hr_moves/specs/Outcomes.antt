-- What the votes say of a transaction, and what a restart's count says.
use Rattle.std.specs.Prelude.{ℕ, ◌+◌, ◌&&◌, ◌==◌, if◌then◌else◌, Option, Some, None}
use Rattle.hr_base.specs.Counters.{shown}
use Rattle.hr_history.specs.Transactions.{is_asked}
use Rattle.hr_history.specs.View.{View, Progress}
use Rattle.hr_history.specs.Processed.{phase_in}
use Rattle.hr_history.specs.Votes.{is_decidable, contradicted_by, difference_at}
use Rattle.hr_moves.specs.declared.outcome.Tally.{Tally}
use Rattle.hr_moves.specs.declared.outcome.Tally.TheVariants as tally
use Rattle.hr_moves.specs.declared.outcome.Settled.{Settled}
use Rattle.hr_moves.specs.declared.outcome.Settled.TheVariants as settled

module _ (v : View) (t : ℕ) where
  abbrev pub differ_by : Option ℕ → Tally
  differ_by None = tally.Undecided
  differ_by (Some r) = tally.Differ (difference_at v r t) r

  -- Accept where the transaction may be decided; Differ where its commit was asked for and replicas contradict the given
  -- answers, by the lowest of them and the first answer that it gave otherwise
  abbrev pub tally_in : Tally
  tally_in = if is_decidable v t then tally.Accept else if is_asked (phase_in v t) then differ_by (contradicted_by v t) else tally.Undecided

-- how many commits a replica has made that tells this count at its restart: one more than those that count where one is in
-- doubt and it tells so, else those that count
abbrev pub settle_in : Progress → ℕ → Settled
settle_in p told = if p.doubt && (told == shown (p.position + 1)) then settled.At (p.position + 1)
    else if told == shown p.position then settled.At p.position
    else settled.Wrong
