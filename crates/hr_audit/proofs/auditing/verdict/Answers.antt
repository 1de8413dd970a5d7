use Rattle.std.proofs.Common.{◌≡◌, None, length, arith, rules}
use Rattle.hr_meaning.specs.Serial.{play}
use Rattle.hr_told.specs.Serial.{statements_of}
use Rattle.hr_audit.proofs.WrongLaws.{if_found, none_of, after_none}
use Rattle.hr_audit.proofs.Verdicts.{kept_next, kept_whole, kept_wrong}
use Rattle.hr_audit.proofs.auditing.verdict.Goals as goal

pub returns-in-Some : goal.returns-in-Some
returns-in-Some c =
    kept_wrong c.args.scenario.now c.args.commits.now c.args.machine.now c.commits.machine c.commits.place c.index-commits-place.result c.in-Some.wrong c.differs.result
    c.commits-test.true c.index-commits-place.is c.commits.invariant
    (if_found _ _ _ c.in_ok-wrong.field-0 _ c.in-Some.is c.in_ok-wrong.ensures.found) c.differs.ensures

pub commits-preserved : goal.commits-preserved
commits-preserved c =
    let none : c.in_ok-wrong.field-0 ≡ None = none_of c.in_ok-wrong.field-0 (λ w e. c.in_default.not-Some w e) in
    kept_next c.args.scenario.now c.args.commits.now c.args.machine.now c.commits.machine c.wrong_commit.new.machine c.commits.place c.index-commits-place.result
    c.commits-test.true c.index-commits-place.is c.commits.invariant
    (if_found _ _ _ c.in_ok-wrong.field-0 None none c.in_ok-wrong.ensures.found)
    (after_none c.in_ok-wrong.field-0 _ none c.in_ok-wrong.ensures.after)

pub returns : goal.returns
returns c =
    let end : length c.args.commits.now ≡ c.commits.place = first_of (omega (arith, c.commits-test.false, c.commits.auto.place-end), omega arith, search rules) in
    kept_whole c.args.scenario.now c.args.commits.now c.args.machine.now c.commits.machine c.commits.place end c.commits.invariant
