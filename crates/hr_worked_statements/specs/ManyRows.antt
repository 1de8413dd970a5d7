-- Answers of 128 rows or groups, and of more.
use Rattle.std.specs.Prelude.{Some, None, List, [], ◌∷◌}
use Rattle.hr_rel.specs.declared.value.Value.TheVariants.{Null}
use Rattle.hr_rel.specs.declared.answer.Answer.TheVariants.{Rows, Failed}
use Rattle.hr_rel.specs.declared.answer.RunError.TheVariants.{Overflow, TooManyRows}
use Rattle.hr_rel.specs.declared.expr.Op.TheVariants.{Eq, Ne, Gt}
use Rattle.hr_worked_statements.specs.Trees.{Select, Lit, Col, Add, Compare, Plain, CountAll, Sum, Max}
use Rattle.hr_worked_statements.specs.Words.{Worked, asked, t, u, id, v, s, second, column, literal, shows, int, numbers}
use Rattle.hr_worked_statements.specs.Databases.{n128, n129, many, pairs}

abbrev pub many_rows : List Worked
many_rows =
    -- SELECT COUNT(*), MAX(v) FROM t
    asked n128 (Select (t ∷ []) None None (CountAll ∷ Max v ∷ []) []) (Rows ((int 128 ∷ int 128 ∷ []) ∷ []))
    -- SELECT id FROM t
    ∷ asked n128 (Select (t ∷ []) None None (shows id ∷ []) []) (Rows (numbers 1 128))
    -- SELECT id FROM t
    ∷ asked n129 (Select (t ∷ []) None None (shows id ∷ []) []) (Failed TooManyRows)
    -- SELECT v FROM t WHERE id > 1
    ∷ asked n129 (Select (t ∷ []) None (Some (Compare Gt (column id) (literal (int 1)))) (shows v ∷ []) []) (Rows (numbers 2 128))
    -- SELECT v + 9223372036854775807 FROM t
    ∷ asked n129 (Select (t ∷ []) None None (Plain (Add (Col v) (Lit (int 9223372036854775807))) ∷ []) []) (Failed TooManyRows)
    -- SELECT v + 9223372036854775807 FROM t
    ∷ asked n128 (Select (t ∷ []) None None (Plain (Add (Col v) (Lit (int 9223372036854775807))) ∷ []) []) (Failed Overflow)
    -- SELECT COUNT(*), SUM(v) FROM t
    ∷ asked n129 (Select (t ∷ []) None None (CountAll ∷ Sum v ∷ []) []) (Rows ((int 129 ∷ int 8385 ∷ []) ∷ []))
    -- SELECT v FROM t GROUP BY v
    ∷ asked n128 (Select (t ∷ []) None None (shows v ∷ []) (v ∷ [])) (Rows (numbers 1 128))
    -- SELECT v FROM t GROUP BY v
    ∷ asked n129 (Select (t ∷ []) None None (shows v ∷ []) (v ∷ [])) (Failed TooManyRows)
    -- SELECT s, COUNT(*) FROM t GROUP BY s
    ∷ asked n129 (Select (t ∷ []) None None (shows s ∷ CountAll ∷ []) (s ∷ [])) (Rows ((Null ∷ int 129 ∷ []) ∷ []))
    -- SELECT SUM(id) FROM t GROUP BY v
    ∷ asked many (Select (t ∷ []) None None (Sum id ∷ []) (v ∷ [])) (Failed TooManyRows)
    -- SELECT SUM(id) FROM t WHERE id <> 1 GROUP BY v
    ∷ asked many (Select (t ∷ []) None (Some (Compare Ne (column id) (literal (int 1)))) (Sum id ∷ []) (v ∷ [])) (Failed Overflow)
    -- SELECT t.id FROM t JOIN u ON 1 = 1
    ∷ asked pairs (Select (t ∷ u ∷ []) (Some (Compare Eq (literal (int 1)) (literal (int 1)))) None (shows id ∷ []) []) (Failed TooManyRows)
    -- SELECT COUNT(*) FROM t JOIN u ON 1 = 1
    ∷ asked pairs (Select (t ∷ u ∷ []) (Some (Compare Eq (literal (int 1)) (literal (int 1)))) None (CountAll ∷ []) []) (Rows ((int 129 ∷ []) ∷ []))
    -- SELECT t.id, u.id FROM t JOIN u ON 1 = 1 WHERE t.id > 42
    ∷ asked pairs (Select (t ∷ u ∷ []) (Some (Compare Eq (literal (int 1)) (literal (int 1)))) (Some (Compare Gt (column id) (literal (int 42)))) (shows id ∷ shows (second id) ∷ []) []) (Rows ((int 43 ∷ int 1 ∷ []) ∷ (int 43 ∷ int 2 ∷ []) ∷ (int 43 ∷ int 3 ∷ []) ∷ []))
    ∷ []
