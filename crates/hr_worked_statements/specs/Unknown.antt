-- What NULL makes of conditions.
use Rattle.std.specs.Prelude.{Some, None, List, [], ◌∷◌, codes}
use Rattle.hr_rel.specs.declared.value.Value.TheVariants.{Null}
use Rattle.hr_rel.specs.declared.answer.Answer.TheVariants.{Rows}
use Rattle.hr_rel.specs.declared.expr.Op.TheVariants.{Eq, Ne, Le, Gt, Ge}
use Rattle.hr_worked_statements.specs.Trees.{Select, Compare, IsNull, And, Or, Not}
use Rattle.hr_worked_statements.specs.Words.{Worked, asked, t, id, v, s, column, literal, shows, int, minus, text}
use Rattle.hr_worked_statements.specs.Databases.{main}

abbrev pub unknown : List Worked
unknown =
    -- SELECT id FROM t WHERE v IS NULL
    asked main (Select (t ∷ []) None (Some (IsNull (column v))) (shows id ∷ []) []) (Rows ((int 2 ∷ []) ∷ []))
    -- SELECT id FROM t WHERE NOT v IS NULL
    ∷ asked main (Select (t ∷ []) None (Some (Not (IsNull (column v)))) (shows id ∷ []) []) (Rows ((int 1 ∷ []) ∷ (int 3 ∷ []) ∷ (int 4 ∷ []) ∷ []))
    -- SELECT id FROM t WHERE id IS NULL
    ∷ asked main (Select (t ∷ []) None (Some (IsNull (column id))) (shows id ∷ []) []) (Rows [])
    -- SELECT id FROM t WHERE v = NULL
    ∷ asked main (Select (t ∷ []) None (Some (Compare Eq (column v) (literal Null))) (shows id ∷ []) []) (Rows [])
    -- SELECT id FROM t WHERE NULL <> v
    ∷ asked main (Select (t ∷ []) None (Some (Compare Ne (literal Null) (column v))) (shows id ∷ []) []) (Rows [])
    -- SELECT id FROM t WHERE v <= NULL
    ∷ asked main (Select (t ∷ []) None (Some (Compare Le (column v) (literal Null))) (shows id ∷ []) []) (Rows [])
    -- SELECT id FROM t WHERE NULL = NULL
    ∷ asked main (Select (t ∷ []) None (Some (Compare Eq (literal Null) (literal Null))) (shows id ∷ []) []) (Rows [])
    -- SELECT id FROM t WHERE NOT NULL = NULL
    ∷ asked main (Select (t ∷ []) None (Some (Not (Compare Eq (literal Null) (literal Null)))) (shows id ∷ []) []) (Rows [])
    -- SELECT id FROM t WHERE NULL IS NULL
    ∷ asked main (Select (t ∷ []) None (Some (IsNull (literal Null))) (shows id ∷ []) []) (Rows ((int 1 ∷ []) ∷ (int 2 ∷ []) ∷ (int 3 ∷ []) ∷ (int 4 ∷ []) ∷ []))
    -- SELECT id FROM t WHERE 1 = 1
    ∷ asked main (Select (t ∷ []) None (Some (Compare Eq (literal (int 1)) (literal (int 1)))) (shows id ∷ []) []) (Rows ((int 1 ∷ []) ∷ (int 2 ∷ []) ∷ (int 3 ∷ []) ∷ (int 4 ∷ []) ∷ []))
    -- SELECT id FROM t WHERE NOT v = 10
    ∷ asked main (Select (t ∷ []) None (Some (Not (Compare Eq (column v) (literal (int 10))))) (shows id ∷ []) []) (Rows ((int 4 ∷ []) ∷ []))
    -- SELECT id FROM t WHERE v = 10 AND s = 'a'
    ∷ asked main (Select (t ∷ []) None (Some (And (Compare Eq (column v) (literal (int 10))) (Compare Eq (column s) (literal (text (codes "a")))))) (shows id ∷ []) []) (Rows ((int 1 ∷ []) ∷ []))
    -- SELECT id FROM t WHERE v > 0 AND s = 'b'
    ∷ asked main (Select (t ∷ []) None (Some (And (Compare Gt (column v) (literal (int 0))) (Compare Eq (column s) (literal (text (codes "b")))))) (shows id ∷ []) []) (Rows [])
    -- SELECT id FROM t WHERE v = 10 OR s = 'b'
    ∷ asked main (Select (t ∷ []) None (Some (Or (Compare Eq (column v) (literal (int 10))) (Compare Eq (column s) (literal (text (codes "b")))))) (shows id ∷ []) []) (Rows ((int 1 ∷ []) ∷ (int 2 ∷ []) ∷ (int 3 ∷ []) ∷ []))
    -- SELECT id FROM t WHERE NOT (v = 10 AND s = 'a')
    ∷ asked main (Select (t ∷ []) None (Some (Not (And (Compare Eq (column v) (literal (int 10))) (Compare Eq (column s) (literal (text (codes "a"))))))) (shows id ∷ []) []) (Rows ((int 2 ∷ []) ∷ (int 4 ∷ []) ∷ []))
    -- SELECT id FROM t WHERE NOT (v = 10 OR s = 'b')
    ∷ asked main (Select (t ∷ []) None (Some (Not (Or (Compare Eq (column v) (literal (int 10))) (Compare Eq (column s) (literal (text (codes "b"))))))) (shows id ∷ []) []) (Rows ((int 4 ∷ []) ∷ []))
    -- SELECT id FROM t WHERE NOT (v = 10 OR s = 'zz')
    ∷ asked main (Select (t ∷ []) None (Some (Not (Or (Compare Eq (column v) (literal (int 10))) (Compare Eq (column s) (literal (text (codes "zz"))))))) (shows id ∷ []) []) (Rows ((int 4 ∷ []) ∷ []))
    -- SELECT id FROM t WHERE v IS NULL AND v = 10
    ∷ asked main (Select (t ∷ []) None (Some (And (IsNull (column v)) (Compare Eq (column v) (literal (int 10))))) (shows id ∷ []) []) (Rows [])
    -- SELECT id FROM t WHERE NOT (v IS NULL AND v = 10)
    ∷ asked main (Select (t ∷ []) None (Some (Not (And (IsNull (column v)) (Compare Eq (column v) (literal (int 10)))))) (shows id ∷ []) []) (Rows ((int 1 ∷ []) ∷ (int 3 ∷ []) ∷ (int 4 ∷ []) ∷ []))
    -- SELECT id FROM t WHERE NOT (v = 10 AND v IS NULL)
    ∷ asked main (Select (t ∷ []) None (Some (Not (And (Compare Eq (column v) (literal (int 10))) (IsNull (column v))))) (shows id ∷ []) []) (Rows ((int 1 ∷ []) ∷ (int 3 ∷ []) ∷ (int 4 ∷ []) ∷ []))
    -- SELECT id FROM t WHERE v = 10 OR NULL IS NULL
    ∷ asked main (Select (t ∷ []) None (Some (Or (Compare Eq (column v) (literal (int 10))) (IsNull (literal Null)))) (shows id ∷ []) []) (Rows ((int 1 ∷ []) ∷ (int 2 ∷ []) ∷ (int 3 ∷ []) ∷ (int 4 ∷ []) ∷ []))
    -- SELECT id FROM t WHERE NOT NOT v = 10
    ∷ asked main (Select (t ∷ []) None (Some (Not (Not (Compare Eq (column v) (literal (int 10)))))) (shows id ∷ []) []) (Rows ((int 1 ∷ []) ∷ (int 3 ∷ []) ∷ []))
    -- SELECT id FROM t WHERE v >= -5 AND v <= 9
    ∷ asked main (Select (t ∷ []) None (Some (And (Compare Ge (column v) (literal (minus 5))) (Compare Le (column v) (literal (int 9))))) (shows id ∷ []) []) (Rows ((int 4 ∷ []) ∷ []))
    -- SELECT id FROM t WHERE NOT (v >= -5 AND v <= 9)
    ∷ asked main (Select (t ∷ []) None (Some (Not (And (Compare Ge (column v) (literal (minus 5))) (Compare Le (column v) (literal (int 9)))))) (shows id ∷ []) []) (Rows ((int 1 ∷ []) ∷ (int 3 ∷ []) ∷ []))
    -- SELECT id FROM t WHERE s = 'a' OR s = 'B'
    ∷ asked main (Select (t ∷ []) None (Some (Or (Compare Eq (column s) (literal (text (codes "a")))) (Compare Eq (column s) (literal (text (codes "B")))))) (shows id ∷ []) []) (Rows ((int 1 ∷ []) ∷ (int 4 ∷ []) ∷ []))
    -- SELECT id FROM t WHERE NOT (v = 10 OR v = NULL)
    ∷ asked main (Select (t ∷ []) None (Some (Not (Or (Compare Eq (column v) (literal (int 10))) (Compare Eq (column v) (literal Null))))) (shows id ∷ []) []) (Rows [])
    ∷ []
