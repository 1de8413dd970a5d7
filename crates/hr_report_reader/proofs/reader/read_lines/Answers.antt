use Rattle.std.proofs.Common.{◌≡◌, true, false, rules, arith}
use Rattle.hr_report_reader.proofs.Steps.{refused_item, refused_place, read_on}
use Rattle.hr_report_reader.proofs.reader.read_lines.Goals as goal

pub returns-in_default-2 : goal.returns-in_default-2
returns-in_default-2 c =
    refused_item c.args.scenario.now c.args.told c.items.so_far c.args.first_line c.items.number c.args.lines c.items.rest c.items.invariant.0 c.in-Some.line.now
    c.in-Some.ensures.line c.next.new.self c.item_at.new.lines c.in-Some.ensures.rest c.in_ok-item.field-0 c.in_ok-item.ensures (λ i e. c.in_default-2.not-Some i e)

pub returns-then-not-branch : goal.returns-then-not-branch
returns-then-not-branch c =
    let stays : c.in_ok-take.field-0 ≡ false = first_of (search rules, grind arith) in
    refused_place c.args.scenario.now c.args.told c.items.so_far c.args.first_line c.items.number c.args.lines c.items.rest c.items.invariant.0 c.in-Some.line.now
    c.in-Some.ensures.line c.next.new.self c.item_at.new.lines c.in-Some.ensures.rest c.in_ok-item.field-0 c.in_ok-item.ensures
    c.in-Some-2.item c.in_ok-take.field-0 c.take.new.told c.in-Some-2.is stays c.in_ok-take.ensures

pub items-preserved : goal.items-preserved
items-preserved c =
    let moves : c.in_ok-take.field-0 ≡ true = first_of (search rules, grind arith) in
    read_on c.args.scenario.now c.args.told c.items.so_far c.args.first_line c.items.number c.args.lines c.items.rest c.items.invariant.0 c.in-Some.line.now
    c.in-Some.ensures.line c.next.new.self c.item_at.new.lines c.in-Some.ensures.rest c.in_ok-item.field-0 c.in_ok-item.ensures
    c.in-Some-2.item c.in_ok-take.field-0 c.take.new.told c.lines_in-behind.result c.in-Some-2.is moves c.in_ok-take.ensures c.lines_in-behind.ensures c.items.invariant.1
