use Rattle.std.proofs.Common.{◌≡◌, ℕ, Option, Some, None, filter, IfSome, IsTrue, sym, ◌∙◌}
use Rattle.hr_base.proofs.ListLaws.{has-filter}
use Rattle.hr_records.proofs.Options.{first_by_has}
use Rattle.hr_history.specs.View.{View}
use Rattle.hr_history.specs.Ranks.{first_in_rank, ranks_before}
use Rattle.hr_history.specs.Jobs.{may_repeat, txn_numbers}
use Rattle.hr_pool.proofs.Repeats.{repeats_found}
use Rattle.hr_pool.proofs.runs.to_repeat.Goals as goal

passes : (v : View) (r : ℕ) (o : Option ℕ) → o ≡ first_in_rank v (filter (may_repeat v r) (txn_numbers v)) → IfSome o (λ t. IsTrue (may_repeat v r t))
passes v r None e = tt
passes v r (Some t) e = (has-filter (may_repeat v r) (txn_numbers v) t (first_by_has (ranks_before v) (filter (may_repeat v r) (txn_numbers v)) t (sym e))).0

pub returns : goal.returns
returns c =
    let v = c.args.view.now in
    let r = c.args.replica in
    let first = c.behind_or_open.ensures ∙ sym (repeats_found v c.sane.ensures r) in
    record { first = first; may = passes v r c.behind_or_open.result first }
