use Rattle.hr_answer_reader.proofs.AnswerLaws.{written, each_read}
use Rattle.hr_answer_reader.proofs.answer.read_answer.Goals as goal

pub returns-clause-written : goal.returns-clause-written
returns-clause-written c = written c.args.text.now _ c.read.ensures

pub returns-clause-each : goal.returns-clause-each
returns-clause-each c = each_read c.args.text.now _ c.read.ensures
