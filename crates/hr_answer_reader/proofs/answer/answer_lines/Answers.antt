use Rattle.std.proofs.Common.{◌∙◌, ap}
use Rattle.hr_answer_reader.specs.Answers.{count_of}
use Rattle.hr_answer_reader.proofs.AnswerLaws.{some_counted, each_counted}
use Rattle.hr_answer_reader.proofs.answer.answer_lines.Goals as goal

pub returns-clause-some : goal.returns-clause-some
returns-clause-some c = some_counted c.args.first.now _ (c.counted.ensures ∙ ap count_of c.first_of.ensures)

pub returns-clause-each : goal.returns-clause-each
returns-clause-each c = each_counted c.args.first.now _ (c.counted.ensures ∙ ap count_of c.first_of.ensures)
