use Rattle.std.proofs.Common.{◌-◌, Option, Some, List, map, ◌∷◌, [], refl, ap, sym, ◌∙◌, arith}
use Rattle.hr_moves.specs.Changes.{map_from, change_at}
use Rattle.hr_core.specs.Seats.{refused_for}
use Rattle.hr_core.proofs.Changes.{one_refusal}
use Rattle.hr_core.proofs.refusals.keep.Goals as goal

pub returns : goal.returns
returns c = one_refusal c.args.why c.args.causes.now.items (c.args.txn - 1) c.args.txn (omega (arith, c.requires.first)) (omega (arith, c.requires.first, c.requires.last))
