use Rattle.std.proofs.Common.{◌≡◌, ap, sym, ◌∙◌, None}
use Rattle.hr_lex.specs.Numbers.{fitting, number_from}
use Rattle.hr_lex.proofs.Numbers.{stops_at_first}
use Rattle.hr_lex.proofs.number.number.Goals as goal

pub returns-in_err-number : goal.returns-in_err-number
returns-in_err-number c =
    let stops : fitting (number_from c.loop-digits.number c.loop-digits.digits.now) ≡ None =
    stops_at_first c.loop-digits.digits.now c.loop-digits.number c.in-len1-up.len_at_least (sym c.with_digit.ensures ∙ c.in_err-number.was) in
    c.from_residual.ensures ∙ (sym stops ∙ ap fitting c.loop-digits.invariant.whole)
