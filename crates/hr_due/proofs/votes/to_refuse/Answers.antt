use Rattle.std.proofs.Common.{◌≡◌, ℕ, true, Option, Some, None, filter, IfSome, IsTrue, ap, sym, ◌∙◌}
use Rattle.std.proofs.lemmas.Bool.{and_parts}
use Rattle.hr_base.proofs.ListLaws.{has-filter}
use Rattle.hr_history.specs.Jobs.{txn_numbers}
use Rattle.hr_history.specs.Processed.{phase_in}
use Rattle.hr_history.specs.Ranks.{first_in_rank, ranks_before}
use Rattle.hr_history.specs.Transactions.{is_open, is_asked}
use Rattle.hr_history.specs.View.{View}
use Rattle.hr_history.specs.Votes.{is_contradicted}
use Rattle.hr_records.proofs.Options.{first_by_has}
use Rattle.hr_records.proofs.RuleLemmas.{asked_is_open}
use Rattle.hr_pool.proofs.Searches.{filter_within}
use Rattle.hr_due.proofs.votes.to_refuse.Goals as goal

its_open : (v : View) (t : ℕ) → is_contradicted v t ≡ true → is_open (phase_in v t) ≡ true
its_open v t h = asked_is_open (phase_in v t) (and_parts (is_asked (phase_in v t)) _ h).0

passes : (v : View) (o : Option ℕ) → o ≡ first_in_rank v (filter (is_contradicted v) (txn_numbers v)) → IfSome o (λ t. IsTrue (is_contradicted v t))
passes v None e = tt
passes v (Some t) e = (has-filter (is_contradicted v) (txn_numbers v) t (first_by_has (ranks_before v) (filter (is_contradicted v) (txn_numbers v)) t (sym e))).0

pub returns : goal.returns
returns c =
    let v = c.args.view.now in
    let first = c.first_contradicted.ensures ∙ ap (λ ts. first_in_rank v (filter (is_contradicted v) ts)) c.opened.ensures
    ∙ ap (first_in_rank v) (filter_within (λ t. is_open (phase_in v t)) (is_contradicted v) (its_open v) (txn_numbers v)) in
    record { first = first; its = passes v c.first_contradicted.result first }
