use Rattle.hr_lex.proofs.WorkedTexts as worked
use Rattle.hr_lex.proofs.worked.longest_tokens.Goals as goal

pub returns-clause-comparison : goal.returns-clause-comparison
returns-clause-comparison c = worked.comparison

pub returns-clause-quoted : goal.returns-clause-quoted
returns-clause-quoted c = worked.quoted
