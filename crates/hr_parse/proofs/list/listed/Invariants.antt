use Rattle.std.proofs.Common.{◌≡◌, []}
use Rattle.hr_parse.specs.Readers.{listed_behind}
use Rattle.hr_parse.proofs.list.listed.Given as goal

-- what is read behind the parts so far is what is read behind none
abbrev pub invariant-parts : goal.invariant-parts
invariant-parts g l = listed_behind (g.T.Part.reader l.depth) l.most l.parts l.parser.rest.now ≡ listed_behind (g.T.Part.reader l.depth) l.depth [] l.fn.parser.rest.now

abbrev pub decreases-parts : goal.decreases-parts
decreases-parts g l = l.most
