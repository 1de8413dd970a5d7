use Rattle.std.proofs.Common.{refl}
use Rattle.hr_serial_worked.proofs.Others.{differ, undecided, of_one, of_three, of_five}
use Rattle.hr_serial_worked.proofs.without.too_many_liars.Goals as goal

pub returns-clause-of_one : goal.returns-clause-of_one
returns-clause-of_one c = record {
  faithful = refl;
  liars = ((((((tt, undecided), undecided), undecided), undecided), undecided), λ e. of_one);
  wrong = λ serial. differ serial.0.0;
}

pub returns-clause-of_three : goal.returns-clause-of_three
returns-clause-of_three c = record {
  faithful = refl;
  liars = ((((((((tt, undecided), undecided), undecided), undecided), undecided), undecided), undecided), λ e. of_three);
  wrong = λ serial. differ serial.0.0;
}

pub returns-clause-of_five : goal.returns-clause-of_five
returns-clause-of_five c = record {
  faithful = refl;
  liars = ((((((((((tt, undecided), undecided), undecided), undecided), undecided), undecided), undecided), undecided), undecided), λ e. of_five);
  wrong = λ serial. differ serial.0.0;
}
