use Rattle.std.proofs.Common.{◌≡◌, ◌≤◌, ◌^◌, length}
use Rattle.std.specs.List.{AllByRecursion}
use Rattle.hr_lex.specs.Numbers.{number_from}
use Rattle.hr_lex.specs.Bytes.{IsDigit}
use Rattle.hr_lex.proofs.number.number.Given as goal

abbrev pub invariant-loop-digits : goal.invariant-loop-digits
invariant-loop-digits l = record {
  whole : number_from l.number l.digits ≡ number_from 0 l.initial.digits;
  small : l.number ≤ 2 ^ 63;
  digits : AllByRecursion IsDigit l.digits;
}

abbrev pub decreases-loop-digits : goal.decreases-loop-digits
decreases-loop-digits l = length l.digits
