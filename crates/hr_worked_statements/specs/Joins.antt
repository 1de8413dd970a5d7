-- Joins of two tables.
use Rattle.std.specs.Prelude.{Some, None, List, [], ◌∷◌}
use Rattle.hr_rel.specs.declared.value.Value.TheVariants.{Null}
use Rattle.hr_rel.specs.declared.answer.Answer.TheVariants.{Rows}
use Rattle.hr_rel.specs.declared.expr.Op.TheVariants.{Eq, Lt}
use Rattle.hr_worked_statements.specs.Trees.{Select, Compare}
use Rattle.hr_worked_statements.specs.Words.{Worked, asked, t, u, id, v, w, second, column, literal, shows, int}
use Rattle.hr_worked_statements.specs.Databases.{main}

abbrev pub joins : List Worked
joins =
    -- SELECT t.id, u.id FROM t JOIN u ON t.id = u.id
    asked main (Select (t ∷ u ∷ []) (Some (Compare Eq (column id) (column (second id)))) None (shows id ∷ shows (second id) ∷ []) []) (Rows ((int 1 ∷ int 1 ∷ []) ∷ (int 3 ∷ int 3 ∷ []) ∷ []))
    -- SELECT t.id, u.id FROM t JOIN u ON t.v = u.w
    ∷ asked main (Select (t ∷ u ∷ []) (Some (Compare Eq (column v) (column (second w)))) None (shows id ∷ shows (second id) ∷ []) []) (Rows ((int 1 ∷ int 3 ∷ []) ∷ (int 1 ∷ int 5 ∷ []) ∷ (int 3 ∷ int 3 ∷ []) ∷ (int 3 ∷ int 5 ∷ []) ∷ []))
    -- SELECT t.id, u.id FROM u JOIN t ON t.v = u.w
    ∷ asked main (Select (u ∷ t ∷ []) (Some (Compare Eq (column (second v)) (column w))) None (shows (second id) ∷ shows id ∷ []) []) (Rows ((int 1 ∷ int 3 ∷ []) ∷ (int 3 ∷ int 3 ∷ []) ∷ (int 1 ∷ int 5 ∷ []) ∷ (int 3 ∷ int 5 ∷ []) ∷ []))
    -- SELECT t.id FROM t JOIN u ON t.id = u.w
    ∷ asked main (Select (t ∷ u ∷ []) (Some (Compare Eq (column id) (column (second w)))) None (shows id ∷ []) []) (Rows [])
    -- SELECT t.id, u.id FROM t JOIN u ON t.v < u.w
    ∷ asked main (Select (t ∷ u ∷ []) (Some (Compare Lt (column v) (column (second w)))) None (shows id ∷ shows (second id) ∷ []) []) (Rows ((int 4 ∷ int 1 ∷ []) ∷ (int 4 ∷ int 3 ∷ []) ∷ (int 4 ∷ int 5 ∷ []) ∷ []))
    -- SELECT t.id, u.id FROM t JOIN u ON 1 = 1
    ∷ asked main (Select (t ∷ u ∷ []) (Some (Compare Eq (literal (int 1)) (literal (int 1)))) None (shows id ∷ shows (second id) ∷ []) []) (Rows ((int 1 ∷ int 1 ∷ []) ∷ (int 1 ∷ int 3 ∷ []) ∷ (int 1 ∷ int 5 ∷ []) ∷ (int 2 ∷ int 1 ∷ []) ∷ (int 2 ∷ int 3 ∷ []) ∷ (int 2 ∷ int 5 ∷ []) ∷ (int 3 ∷ int 1 ∷ []) ∷ (int 3 ∷ int 3 ∷ []) ∷ (int 3 ∷ int 5 ∷ []) ∷ (int 4 ∷ int 1 ∷ []) ∷ (int 4 ∷ int 3 ∷ []) ∷ (int 4 ∷ int 5 ∷ []) ∷ []))
    -- SELECT t.id, u.id FROM t JOIN u ON t.v = u.w WHERE u.id < 5
    ∷ asked main (Select (t ∷ u ∷ []) (Some (Compare Eq (column v) (column (second w)))) (Some (Compare Lt (column (second id)) (literal (int 5)))) (shows id ∷ shows (second id) ∷ []) []) (Rows ((int 1 ∷ int 3 ∷ []) ∷ (int 3 ∷ int 3 ∷ []) ∷ []))
    -- SELECT t.id FROM t JOIN u ON NULL = NULL WHERE 1 = 1
    ∷ asked main (Select (t ∷ u ∷ []) (Some (Compare Eq (literal Null) (literal Null))) (Some (Compare Eq (literal (int 1)) (literal (int 1)))) (shows id ∷ []) []) (Rows [])
    ∷ []
