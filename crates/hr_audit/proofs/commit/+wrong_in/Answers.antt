use Rattle.std.proofs.Common.{◌≡◌, false, true, rules, arith}
use Rattle.hr_audit.proofs.WrongLaws.{first_wrong, found_later}
use Rattle.hr_audit.proofs.commit.+wrong_in.Goals as goal

pub returns-then-not-same-clause-found : goal.returns-then-not-same-clause-found
returns-then-not-same-clause-found t c =
    let no : c.same.result ≡ false = first_of (search rules, grind arith) in
    first_wrong c.args.place c.args.told.now c.args.stmts.now c.args.machine.now _ c.in_ok-due.due c.in_ok-told.told _ c.same.result
    c.in-len1-up-told.len_at_least c.in-len1-up.len_at_least c.answer-item.is c.stmt-item.is
    c.in_ok-due.ensures.same c.in_ok-due.ensures.canonical c.same.ensures no c.in_ok-told.ensures

pub returns-clause-found : goal.returns-clause-found
returns-clause-found t c =
    let yes : c.same.result ≡ true = first_of (search rules, grind arith) in
    found_later c.args.place c.args.told.now c.args.stmts.now c.args.machine.now c.due_to.new.machine _ c.in_ok-due.due _ c.same.result c.wrong_in.result
    c.in-len1-up-told.len_at_least c.in-len1-up.len_at_least c.answer-item.is c.stmt-item.is
    c.in_ok-due.ensures.same c.same.ensures yes c.in_ok-due.ensures.after c.wrong_in.ensures.found
