-- What a SELECT that groups may show, so that it doesn't matter which row of a group is looked at first.
use Rattle.std.specs.Prelude.{Bool, true, List}
use Rattle.std.specs.List.{list_all}
use Rattle.hr_rel.specs.declared.expr.ColRef.{ColRef}
use Rattle.hr_rel.specs.declared.stmt.Item.{Item}
use Rattle.hr_rel.specs.declared.stmt.Item.TheVariants as item
use Rattle.hr_rel.specs.declared.stmt.SelectStmt.{SelectStmt}
use Rattle.hr_rel.specs.Fit.{column_in, is_group}

-- an aggregate, or one of the columns of GROUP BY, which all rows of a group have alike
abbrev pub is_of_group : List ColRef → Item → Bool
is_of_group groups (item.Plain e) = is_group groups (column_in e)
is_of_group groups _ = true

-- each item is one of these
abbrev pub shows_groups : SelectStmt → Bool
shows_groups s = list_all (is_of_group s.groups) s.items
