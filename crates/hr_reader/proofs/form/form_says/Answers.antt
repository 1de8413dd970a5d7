use Rattle.std.proofs.Common.{rules, sym}
use Rattle.hr_reader.proofs.Kept.{form_keeps_tables, form_keeps_order}
use Rattle.hr_reader.proofs.form.form_says.Goals as goal

pub returns-in_err-other_says-in-None-clause-said : goal.returns-in_err-other_says-in-None-clause-said
returns-in_err-other_says-in-None-clause-said c =
    let due = c.in_err-other_says-in-None.ensures c.args.content.now in
    search (rules, due)

pub returns-in_ok-other_says-in-None-clause-tables : goal.returns-in_ok-other_says-in-None-clause-tables
returns-in_ok-other_says-in-None-clause-tables c =
    form_keeps_tables c.args.said.now c.other_says.new.said c.args.content.now c.args.form.now (sym c.in-None.ensures) (c.in_ok-other_says-in-None.ensures c.args.content.now) c.requires.tables

pub returns-in_ok-other_says-in-None-clause-order : goal.returns-in_ok-other_says-in-None-clause-order
returns-in_ok-other_says-in-None-clause-order c =
    form_keeps_order c.args.ordered c.args.said.now c.other_says.new.said c.args.content.now c.args.form.now (sym c.in-None.ensures) (c.in_ok-other_says-in-None.ensures c.args.content.now) c.requires.tables c.requires.order
