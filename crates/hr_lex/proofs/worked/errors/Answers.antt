use Rattle.hr_lex.proofs.WorkedTexts as worked
use Rattle.hr_lex.proofs.worked.errors.Goals as goal

pub returns-clause-doubled_at_the_end : goal.returns-clause-doubled_at_the_end
returns-clause-doubled_at_the_end c = worked.doubled_at_the_end

pub returns-clause-past_the_largest : goal.returns-clause-past_the_largest
returns-clause-past_the_largest c = worked.past_the_largest

pub returns-clause-no_token : goal.returns-clause-no_token
returns-clause-no_token c = worked.no_token
