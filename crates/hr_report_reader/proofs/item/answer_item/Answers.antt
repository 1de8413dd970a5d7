use Rattle.hr_report_reader.proofs.Taken.{takes_answer}
use Rattle.hr_report_reader.proofs.item.answer_item.Goals as goal

pub returns-in-Some : goal.returns-in-Some
returns-in-Some c = takes_answer c.args.number c.args.first.now c.args.lines.now c.answer_at.new.lines c.in_ok-answer.field-0 c.in-Some.answer c.in-Some.is c.in_ok-answer.ensures
