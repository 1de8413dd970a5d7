use Rattle.std.proofs.Common.{◌++◌, codes}
use Rattle.std.specs.Fmt.{decimal}
use Rattle.hr_generator.specs.Made.{read_text}
use Rattle.hr_generator.proofs.Steps.{two_pieces}
use Rattle.hr_generator.proofs.text.push_read.Goals as goal

pub returns : goal.returns
unfolding read_text
returns c = two_pieces c.writeln.result _ _ _ (codes "SELECT bal FROM acct WHERE id BETWEEN " ++ decimal c.args.from) (codes " AND " ++ decimal c.args.last ++ codes "\n") c.in_ok-write.ensures.bytes c.writeln.ensures.bytes
