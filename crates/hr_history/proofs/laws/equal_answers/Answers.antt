use Rattle.hr_history.proofs.SameAnswersLemmas.{same_answer_decides}
use Rattle.hr_history.proofs.laws.equal_answers.Goals as goal

pub returns : goal.returns
returns c = same_answer_decides
