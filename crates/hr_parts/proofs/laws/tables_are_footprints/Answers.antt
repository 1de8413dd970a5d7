use Rattle.hr_parts.specs.Footprints.{table_parts}
use Rattle.hr_parts.proofs.Lists.{covered_within, all_within}
use Rattle.hr_parts.proofs.WholeTables.{tables_cover}
use Rattle.hr_parts.proofs.laws.tables_are_footprints.Goals as goal

pub returns-clause-one : goal.returns-clause-one
returns-clause-one c s = covered_within (table_parts s) s (tables_cover s)

pub returns-clause-all : goal.returns-clause-all
returns-clause-all c = all_within table_parts (λ s. covered_within (table_parts s) s (tables_cover s))
