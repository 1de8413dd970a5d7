use Rattle.std.proofs.Common.{refl}
use Rattle.hr_serial_worked.proofs.Others.{differ, undecided, by_one}
use Rattle.hr_serial_worked.proofs.without.rules_not_followed.Goals as goal

pub returns-clause-not_begun : goal.returns-clause-not_begun
returns-clause-not_begun c = refl

pub returns-clause-liars : goal.returns-clause-liars
returns-clause-liars c = ((((((tt, undecided), undecided), undecided), undecided), undecided), λ e. by_one)

pub returns-clause-wrong : goal.returns-clause-wrong
returns-clause-wrong c serial = differ serial.0.0
