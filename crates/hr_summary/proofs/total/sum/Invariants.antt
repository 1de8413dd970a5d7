use Rattle.std.proofs.Common.{◌≡◌, take}
use Rattle.hr_summary.specs.Summary as summary
use Rattle.hr_summary.proofs.total.sum.Given as goal

abbrev pub invariant-accounts : goal.invariant-accounts
invariant-accounts l = l.sum ≡ summary.balances (take l.account-index l.accounts)
