-- Whole tables as names of locks.
use Rattle.std.proofs.Common.{◌≡◌, Bool, true, false, ◌&&◌, ◌||◌, ◌==◌, refl, ap}
use Rattle.hr_locks.specs.declared.need.Need.{Need}
use Rattle.hr_locks.specs.Locks.{is_exclusive, is_conflict}
use Rattle.hr_parts.specs.Parts.{Part, conflict}
use Rattle.hr_parts.specs.Footprints.{whole}
use Rattle.hr_table_engine.specs.declared.name.TableName.{TableName}

abbrev pub same_table : TableName → TableName → Bool
same_table a b = a.table == b.table

-- a need stands for all rows of its table; where it is exclusive they may be changed
abbrev pub table_part : Need TableName → Part
table_part need = whole (is_exclusive need.mode) need.name.table

-- The rest isn't to be believed: the proof that needs conflict where their rows do, which the trait's law cites.

with_all : (b : Bool) → b ≡ ((b && true) && true)
with_all true = refl
with_all false = refl

pub tables_meet : (a b : Need TableName) → is_conflict same_table a b ≡ conflict (table_part a) (table_part b)
tables_meet a b = ap (λ (c : Bool). (is_exclusive a.mode || is_exclusive b.mode) && c) (with_all (a.name.table == b.name.table))
