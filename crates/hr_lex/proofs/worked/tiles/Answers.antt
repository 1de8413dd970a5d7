use Rattle.hr_lex.proofs.WorkedTexts as worked
use Rattle.hr_lex.proofs.worked.tiles.Goals as goal

pub returns-clause-tiled : goal.returns-clause-tiled
returns-clause-tiled c = worked.tiled

pub returns-clause-left_out : goal.returns-clause-left_out
returns-clause-left_out c = worked.left_out
