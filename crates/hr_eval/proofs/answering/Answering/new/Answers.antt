use Rattle.std.proofs.Common.{sym, ◌∙◌}
use Rattle.hr_eval.proofs.answering.Answering.new.Goals as goal

pub returns-else-is_grouped : goal.returns-else-is_grouped
returns-else-is_grouped c = (sym c.is_grouped.ensures ∙ c.if-is_grouped.false, c.new.ensures c.args.select.now.items)
