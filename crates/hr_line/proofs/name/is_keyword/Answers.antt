use Rattle.std.proofs.Common.{◌∙◌}
use Rattle.hr_lex.specs.Keywords.{keyword, keywords}
use Rattle.hr_line.proofs.NameLemmas.{among}
use Rattle.hr_line.proofs.name.is_keyword.Goals as goal

-- the words of the code are those of the lexer's table
pub returns : goal.returns
unfolding keyword
returns c = c.is_among.ensures ∙ among keywords c.args.word.now
