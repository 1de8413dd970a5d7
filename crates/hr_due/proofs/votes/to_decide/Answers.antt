use Rattle.std.proofs.Common.{◌≡◌, ℕ, true, filter, ap, sym, ◌∙◌}
use Rattle.std.proofs.lemmas.Bool.{and_parts}
use Rattle.hr_history.specs.Jobs.{txn_numbers}
use Rattle.hr_history.specs.Processed.{phase_in}
use Rattle.hr_history.specs.Ranks.{first_in_rank}
use Rattle.hr_history.specs.Transactions.{is_open, is_asked}
use Rattle.hr_history.specs.View.{View}
use Rattle.hr_history.specs.Votes.{is_decidable}
use Rattle.hr_records.proofs.RuleLemmas.{asked_is_open}
use Rattle.hr_pool.proofs.Searches.{filter_within}
use Rattle.hr_due.proofs.votes.to_decide.Goals as goal

its_open : (v : View) (t : ℕ) → is_decidable v t ≡ true → is_open (phase_in v t) ≡ true
its_open v t h = asked_is_open (phase_in v t) (and_parts (is_asked (phase_in v t)) _ h).0

pub returns : goal.returns
returns c =
    let v = c.args.view.now in
    c.first_decidable.ensures ∙ ap (λ ts. first_in_rank v (filter (is_decidable v) ts)) c.opened.ensures
    ∙ ap (first_in_rank v) (filter_within (λ t. is_open (phase_in v t)) (is_decidable v) (its_open v) (txn_numbers v))
