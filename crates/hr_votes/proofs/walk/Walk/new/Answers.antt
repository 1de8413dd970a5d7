use Rattle.std.proofs.Common.{refl}
use Rattle.hr_base.specs.declared.limits.TheConstants.{MAX_SUBMITS}
use Rattle.hr_votes.proofs.Marks.{fresh_walk}
use Rattle.hr_votes.proofs.walk.Walk.new.Goals as goal

pub returns : goal.returns
returns c = record { empty = refl; walk = λ entries. fresh_walk entries MAX_SUBMITS refl }
