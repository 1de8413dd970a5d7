-- Aggregates alone.
use Rattle.std.specs.Prelude.{Some, None, List, [], ◌∷◌, codes}
use Rattle.hr_rel.specs.declared.value.Value.TheVariants.{Null}
use Rattle.hr_rel.specs.declared.answer.Answer.TheVariants.{Rows, Failed}
use Rattle.hr_rel.specs.declared.answer.RunError.TheVariants.{Overflow}
use Rattle.hr_rel.specs.declared.expr.Op.TheVariants.{Eq, Le, Gt}
use Rattle.hr_worked_statements.specs.Trees.{Select, Compare, IsNull, CountAll, CountOf, Sum, Min, Max}
use Rattle.hr_worked_statements.specs.Words.{Worked, asked, t, id, v, s, column, literal, int, minus, text}
use Rattle.hr_worked_statements.specs.Databases.{main, empty, large, below}

abbrev pub aggregates : List Worked
aggregates =
    -- SELECT COUNT(*) FROM t
    asked main (Select (t ∷ []) None None (CountAll ∷ []) []) (Rows ((int 4 ∷ []) ∷ []))
    -- SELECT COUNT(v), COUNT(s), COUNT(id) FROM t
    ∷ asked main (Select (t ∷ []) None None (CountOf v ∷ CountOf s ∷ CountOf id ∷ []) []) (Rows ((int 3 ∷ int 3 ∷ int 4 ∷ []) ∷ []))
    -- SELECT SUM(v) FROM t
    ∷ asked main (Select (t ∷ []) None None (Sum v ∷ []) []) (Rows ((int 15 ∷ []) ∷ []))
    -- SELECT MIN(v), MAX(v) FROM t
    ∷ asked main (Select (t ∷ []) None None (Min v ∷ Max v ∷ []) []) (Rows ((minus 5 ∷ int 10 ∷ []) ∷ []))
    -- SELECT MIN(s), MAX(s) FROM t
    ∷ asked main (Select (t ∷ []) None None (Min s ∷ Max s ∷ []) []) (Rows ((text (codes "B") ∷ text (codes "b") ∷ []) ∷ []))
    -- SELECT COUNT(*), COUNT(v), SUM(v), MIN(v), MAX(v) FROM t WHERE id > 9
    ∷ asked main (Select (t ∷ []) None (Some (Compare Gt (column id) (literal (int 9)))) (CountAll ∷ CountOf v ∷ Sum v ∷ Min v ∷ Max v ∷ []) []) (Rows ((int 0 ∷ int 0 ∷ Null ∷ Null ∷ Null ∷ []) ∷ []))
    -- SELECT COUNT(*), COUNT(v), SUM(v), MIN(v), MAX(v) FROM t WHERE v IS NULL
    ∷ asked main (Select (t ∷ []) None (Some (IsNull (column v))) (CountAll ∷ CountOf v ∷ Sum v ∷ Min v ∷ Max v ∷ []) []) (Rows ((int 1 ∷ int 0 ∷ Null ∷ Null ∷ Null ∷ []) ∷ []))
    -- SELECT COUNT(*) FROM t
    ∷ asked empty (Select (t ∷ []) None None (CountAll ∷ []) []) (Rows ((int 0 ∷ []) ∷ []))
    -- SELECT SUM(v), MIN(v), MAX(v) FROM t
    ∷ asked large (Select (t ∷ []) None None (Sum v ∷ Min v ∷ Max v ∷ []) []) (Rows ((minus 1 ∷ minus 9223372036854775808 ∷ int 9223372036854775807 ∷ []) ∷ []))
    -- SELECT SUM(v) FROM t
    ∷ asked below (Select (t ∷ []) None None (Sum v ∷ []) []) (Rows ((minus 1 ∷ []) ∷ []))
    -- SELECT COUNT(*), SUM(v) FROM t WHERE id <= 2
    ∷ asked large (Select (t ∷ []) None (Some (Compare Le (column id) (literal (int 2)))) (CountAll ∷ Sum v ∷ []) []) (Failed Overflow)
    -- SELECT SUM(v) FROM t WHERE id <= 2
    ∷ asked below (Select (t ∷ []) None (Some (Compare Le (column id) (literal (int 2)))) (Sum v ∷ []) []) (Failed Overflow)
    -- SELECT SUM(v) FROM t WHERE v = 9223372036854775807
    ∷ asked large (Select (t ∷ []) None (Some (Compare Eq (column v) (literal (int 9223372036854775807)))) (Sum v ∷ []) []) (Rows ((int 9223372036854775807 ∷ []) ∷ []))
    ∷ []
