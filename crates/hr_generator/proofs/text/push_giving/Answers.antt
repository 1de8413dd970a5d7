use Rattle.std.proofs.Common.{◌++◌, codes}
use Rattle.std.specs.Fmt.{decimal}
use Rattle.hr_generator.specs.Made.{giving_text}
use Rattle.hr_generator.proofs.Steps.{two_pieces}
use Rattle.hr_generator.proofs.text.push_giving.Goals as goal

pub returns : goal.returns
unfolding giving_text
returns c = two_pieces c.writeln.result _ _ _ (codes "UPDATE acct SET bal = bal - " ++ decimal c.args.amount) (codes " WHERE id = " ++ decimal c.args.from ++ codes "\n") c.in_ok-write.ensures.bytes c.writeln.ensures.bytes
