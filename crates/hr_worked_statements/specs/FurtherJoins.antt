-- Joins of a table with itself, and aggregates and expressions over joins.
use Rattle.std.specs.Prelude.{Some, None, List, [], ◌∷◌, codes}
use Rattle.hr_rel.specs.declared.answer.Answer.TheVariants.{Rows}
use Rattle.hr_rel.specs.declared.expr.Op.TheVariants.{Eq, Lt, Ge}
use Rattle.hr_worked_statements.specs.Trees.{Select, Col, Add, Compare, And, Plain, CountAll, CountOf, Sum, Max}
use Rattle.hr_worked_statements.specs.Words.{Worked, asked, t, u, id, v, s, w, second, column, literal, shows, int, text}
use Rattle.hr_worked_statements.specs.Databases.{main, large}

abbrev pub further_joins : List Worked
further_joins =
    -- SELECT a.id, b.id FROM t a JOIN t b ON a.v = b.v WHERE a.id < b.id
    asked main (Select (t ∷ t ∷ []) (Some (Compare Eq (column v) (column (second v)))) (Some (Compare Lt (column id) (column (second id)))) (shows id ∷ shows (second id) ∷ []) []) (Rows ((int 1 ∷ int 3 ∷ []) ∷ []))
    -- SELECT a.id, b.id FROM t a JOIN t b ON a.v = b.v
    ∷ asked main (Select (t ∷ t ∷ []) (Some (Compare Eq (column v) (column (second v)))) None (shows id ∷ shows (second id) ∷ []) []) (Rows ((int 1 ∷ int 1 ∷ []) ∷ (int 1 ∷ int 3 ∷ []) ∷ (int 3 ∷ int 1 ∷ []) ∷ (int 3 ∷ int 3 ∷ []) ∷ (int 4 ∷ int 4 ∷ []) ∷ []))
    -- SELECT a.id, b.id FROM t a JOIN t b ON a.id < b.id AND b.id < 4
    ∷ asked main (Select (t ∷ t ∷ []) (Some (And (Compare Lt (column id) (column (second id))) (Compare Lt (column (second id)) (literal (int 4))))) None (shows id ∷ shows (second id) ∷ []) []) (Rows ((int 1 ∷ int 2 ∷ []) ∷ (int 1 ∷ int 3 ∷ []) ∷ (int 2 ∷ int 3 ∷ []) ∷ []))
    -- SELECT COUNT(*) FROM t JOIN u ON 1 = 1
    ∷ asked main (Select (t ∷ u ∷ []) (Some (Compare Eq (literal (int 1)) (literal (int 1)))) None (CountAll ∷ []) []) (Rows ((int 12 ∷ []) ∷ []))
    -- SELECT u.w, COUNT(*) FROM t JOIN u ON t.v >= u.w GROUP BY u.w
    ∷ asked main (Select (t ∷ u ∷ []) (Some (Compare Ge (column v) (column (second w)))) None (shows (second w) ∷ CountAll ∷ []) (second w ∷ [])) (Rows ((int 7 ∷ int 2 ∷ []) ∷ (int 10 ∷ int 4 ∷ []) ∷ []))
    -- SELECT SUM(u.w), MAX(t.s), COUNT(t.s) FROM t JOIN u ON t.v = u.w
    ∷ asked main (Select (t ∷ u ∷ []) (Some (Compare Eq (column v) (column (second w)))) None (Sum (second w) ∷ Max s ∷ CountOf s ∷ []) []) (Rows ((int 40 ∷ text (codes "a") ∷ int 2 ∷ []) ∷ []))
    -- SELECT t.v + u.w FROM t JOIN u ON t.id = u.id
    ∷ asked main (Select (t ∷ u ∷ []) (Some (Compare Eq (column id) (column (second id)))) None (Plain (Add (Col v) (Col (second w))) ∷ []) []) (Rows ((int 17 ∷ []) ∷ (int 20 ∷ []) ∷ []))
    -- SELECT t.id FROM t JOIN u ON 1 = 1
    ∷ asked large (Select (t ∷ u ∷ []) (Some (Compare Eq (literal (int 1)) (literal (int 1)))) None (shows id ∷ []) []) (Rows [])
    -- SELECT COUNT(*) FROM t JOIN u ON 1 = 1
    ∷ asked large (Select (t ∷ u ∷ []) (Some (Compare Eq (literal (int 1)) (literal (int 1)))) None (CountAll ∷ []) []) (Rows ((int 0 ∷ []) ∷ []))
    ∷ []
