use Rattle.std.proofs.Common.{rules, ap, ◌+ℤ◌, ℤ, sym, ◌∙◌}
use Rattle.std.specs.Int.{w128}
use Rattle.std.proofs.Math.Facts.{to_z-of_z}
use Rattle.hr_meaning.specs.Select.{number_in}
use Rattle.hr_summary.specs.Summary.{balance}
use Rattle.hr_summary.proofs.Steps.{one_account_more}
use Rattle.hr_summary.proofs.total.sum.Goals as goal

pub accounts-preserved : goal.accounts-preserved
accounts-preserved c =
    to_z-of_z {w = w128} {z = c.in_ok-sum.sum} (search rules)
    ∙ c.in_ok-sum.ensures
    ∙ ap (λ (s : ℤ). s +ℤ number_in (balance c.account-item.result)) c.accounts.invariant
    ∙ sym (one_account_more c.args.accounts.now c.accounts.account-index c.account-item.result c.accounts-test.true (search rules))
