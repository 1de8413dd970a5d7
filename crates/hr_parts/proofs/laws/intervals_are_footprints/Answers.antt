use Rattle.hr_parts.specs.Keys.{key_parts}
use Rattle.hr_parts.proofs.KeyParts.{keys_cover}
use Rattle.hr_parts.proofs.Lists.{covered_within, all_within}
use Rattle.hr_parts.proofs.laws.intervals_are_footprints.Goals as goal

pub returns-clause-one : goal.returns-clause-one
returns-clause-one c s = covered_within (key_parts s) s (keys_cover s)

pub returns-clause-all : goal.returns-clause-all
returns-clause-all c = all_within key_parts (λ s. covered_within (key_parts s) s (keys_cover s))
