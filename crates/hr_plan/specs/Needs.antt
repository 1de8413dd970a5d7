-- Needs of ranges of keys, and the parts that they stand for.
use Rattle.std.specs.Prelude.{Bool, not, ◌&&◌, ◌==◌, int_le, List, map}
use Rattle.std.specs.List.{list_all, list_any}
use Rattle.hr_locks.specs.declared.need.Need.{Need}
use Rattle.hr_locks.specs.Locks.{is_exclusive, is_conflict}
use Rattle.hr_parts.specs.Parts.{Part}
use Rattle.hr_plan.specs.declared.span.Span.{Span}

-- two spans are of one table and share a key
abbrev pub spans_meet : Span → Span → Bool
spans_meet a b = (a.table == b.table) && int_le a.low b.high && int_le b.low a.high

-- the part that a need stands for: one that is exclusive may be changed
abbrev pub part_of : Need Span → Part
part_of need = record { table = need.name.table; low = need.name.low; high = need.name.high; written = is_exclusive need.mode }

abbrev pub parts_of : List (Need Span) → List Part
parts_of needs = map part_of needs

-- whether none of them conflicts with one of the others
abbrev pub no_conflict : List (Need Span) → List (Need Span) → Bool
no_conflict needs others = list_all (λ a. not (list_any (is_conflict spans_meet a) others)) needs
