-- SELECTs of rows: columns, comparisons of each kind, the key or another column on either side.
use Rattle.std.specs.Prelude.{Some, None, List, [], ◌∷◌, codes}
use Rattle.hr_rel.specs.declared.value.Value.TheVariants.{Null}
use Rattle.hr_rel.specs.declared.answer.Answer.TheVariants.{Rows}
use Rattle.hr_rel.specs.declared.expr.Op.TheVariants.{Eq, Ne, Lt, Le, Gt, Ge}
use Rattle.hr_worked_statements.specs.Trees.{Select, Compare}
use Rattle.hr_worked_statements.specs.Words.{Worked, asked, t, u, id, v, s, column, literal, shows, int, minus, text}
use Rattle.hr_worked_statements.specs.Databases.{main, empty}

abbrev pub plain : List Worked
plain =
    -- SELECT id FROM t
    asked main (Select (t ∷ []) None None (shows id ∷ []) []) (Rows ((int 1 ∷ []) ∷ (int 2 ∷ []) ∷ (int 3 ∷ []) ∷ (int 4 ∷ []) ∷ []))
    -- SELECT v, s, id FROM t WHERE id = 2
    ∷ asked main (Select (t ∷ []) None (Some (Compare Eq (column id) (literal (int 2)))) (shows v ∷ shows s ∷ shows id ∷ []) []) (Rows ((Null ∷ text (codes "b") ∷ int 2 ∷ []) ∷ []))
    -- SELECT id FROM t WHERE v = 10
    ∷ asked main (Select (t ∷ []) None (Some (Compare Eq (column v) (literal (int 10)))) (shows id ∷ []) []) (Rows ((int 1 ∷ []) ∷ (int 3 ∷ []) ∷ []))
    -- SELECT id FROM t WHERE v <> 10
    ∷ asked main (Select (t ∷ []) None (Some (Compare Ne (column v) (literal (int 10)))) (shows id ∷ []) []) (Rows ((int 4 ∷ []) ∷ []))
    -- SELECT id FROM t WHERE v < 10
    ∷ asked main (Select (t ∷ []) None (Some (Compare Lt (column v) (literal (int 10)))) (shows id ∷ []) []) (Rows ((int 4 ∷ []) ∷ []))
    -- SELECT id FROM t WHERE v <= 10
    ∷ asked main (Select (t ∷ []) None (Some (Compare Le (column v) (literal (int 10)))) (shows id ∷ []) []) (Rows ((int 1 ∷ []) ∷ (int 3 ∷ []) ∷ (int 4 ∷ []) ∷ []))
    -- SELECT id FROM t WHERE v > -5
    ∷ asked main (Select (t ∷ []) None (Some (Compare Gt (column v) (literal (minus 5)))) (shows id ∷ []) []) (Rows ((int 1 ∷ []) ∷ (int 3 ∷ []) ∷ []))
    -- SELECT id FROM t WHERE v >= -5
    ∷ asked main (Select (t ∷ []) None (Some (Compare Ge (column v) (literal (minus 5)))) (shows id ∷ []) []) (Rows ((int 1 ∷ []) ∷ (int 3 ∷ []) ∷ (int 4 ∷ []) ∷ []))
    -- SELECT id FROM t WHERE 10 = v
    ∷ asked main (Select (t ∷ []) None (Some (Compare Eq (literal (int 10)) (column v))) (shows id ∷ []) []) (Rows ((int 1 ∷ []) ∷ (int 3 ∷ []) ∷ []))
    -- SELECT id FROM t WHERE -5 < v
    ∷ asked main (Select (t ∷ []) None (Some (Compare Lt (literal (minus 5)) (column v))) (shows id ∷ []) []) (Rows ((int 1 ∷ []) ∷ (int 3 ∷ []) ∷ []))
    -- SELECT id FROM t WHERE v > id
    ∷ asked main (Select (t ∷ []) None (Some (Compare Gt (column v) (column id))) (shows id ∷ []) []) (Rows ((int 1 ∷ []) ∷ (int 3 ∷ []) ∷ []))
    -- SELECT id FROM t WHERE s < 'b'
    ∷ asked main (Select (t ∷ []) None (Some (Compare Lt (column s) (literal (text (codes "b"))))) (shows id ∷ []) []) (Rows ((int 1 ∷ []) ∷ (int 4 ∷ []) ∷ []))
    -- SELECT id FROM t WHERE s > 'B'
    ∷ asked main (Select (t ∷ []) None (Some (Compare Gt (column s) (literal (text (codes "B"))))) (shows id ∷ []) []) (Rows ((int 1 ∷ []) ∷ (int 2 ∷ []) ∷ []))
    -- SELECT id FROM t WHERE s = 'A'
    ∷ asked main (Select (t ∷ []) None (Some (Compare Eq (column s) (literal (text (codes "A"))))) (shows id ∷ []) []) (Rows [])
    -- SELECT id FROM t WHERE s <= 'aa'
    ∷ asked main (Select (t ∷ []) None (Some (Compare Le (column s) (literal (text (codes "aa"))))) (shows id ∷ []) []) (Rows ((int 1 ∷ []) ∷ (int 4 ∷ []) ∷ []))
    -- SELECT id FROM u WHERE id > 1
    ∷ asked main (Select (u ∷ []) None (Some (Compare Gt (column id) (literal (int 1)))) (shows id ∷ []) []) (Rows ((int 3 ∷ []) ∷ (int 5 ∷ []) ∷ []))
    -- SELECT id FROM t WHERE id = 9
    ∷ asked main (Select (t ∷ []) None (Some (Compare Eq (column id) (literal (int 9)))) (shows id ∷ []) []) (Rows [])
    -- SELECT id FROM t
    ∷ asked empty (Select (t ∷ []) None None (shows id ∷ []) []) (Rows [])
    ∷ []
