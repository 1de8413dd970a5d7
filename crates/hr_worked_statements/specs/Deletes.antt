-- DELETE.
use Rattle.std.specs.Prelude.{Some, None, List, [], ◌∷◌, codes}
use Rattle.hr_rel.specs.declared.value.Value.TheVariants.{Null}
use Rattle.hr_rel.specs.declared.answer.Answer.TheVariants.{Count}
use Rattle.hr_rel.specs.declared.expr.Op.TheVariants.{Eq, Lt, Ge}
use Rattle.hr_worked_statements.specs.Trees.{Delete, Compare, IsNull, Not}
use Rattle.hr_worked_statements.specs.Words.{Worked, asked, changed, t, u, p, id, v, column, literal, int, minus, text}
use Rattle.hr_worked_statements.specs.Databases.{main, empty, below}

abbrev pub deletes : List Worked
deletes =
    -- DELETE FROM t
    changed main (Delete t None) (Count 4) t []
    -- DELETE FROM t WHERE v = 10
    ∷ changed main (Delete t (Some (Compare Eq (column v) (literal (int 10))))) (Count 2) t ((int 2 ∷ Null ∷ text (codes "b") ∷ []) ∷ (int 4 ∷ minus 5 ∷ text (codes "B") ∷ []) ∷ [])
    -- DELETE FROM t WHERE NOT v = 10
    ∷ changed main (Delete t (Some (Not (Compare Eq (column v) (literal (int 10)))))) (Count 1) t ((int 1 ∷ int 10 ∷ text (codes "a") ∷ []) ∷ (int 2 ∷ Null ∷ text (codes "b") ∷ []) ∷ (int 3 ∷ int 10 ∷ Null ∷ []) ∷ [])
    -- DELETE FROM t WHERE v IS NULL
    ∷ changed main (Delete t (Some (IsNull (column v)))) (Count 1) t ((int 1 ∷ int 10 ∷ text (codes "a") ∷ []) ∷ (int 3 ∷ int 10 ∷ Null ∷ []) ∷ (int 4 ∷ minus 5 ∷ text (codes "B") ∷ []) ∷ [])
    -- DELETE FROM t WHERE id = 9
    ∷ asked main (Delete t (Some (Compare Eq (column id) (literal (int 9))))) (Count 0)
    -- DELETE FROM u WHERE id >= 3
    ∷ changed main (Delete u (Some (Compare Ge (column id) (literal (int 3))))) (Count 2) u ((int 1 ∷ int 7 ∷ []) ∷ [])
    -- DELETE FROM u WHERE id < 0
    ∷ changed below (Delete u (Some (Compare Lt (column id) (literal (int 0))))) (Count 1) u ((int 9223372036854775807 ∷ int 1 ∷ []) ∷ [])
    -- DELETE FROM p
    ∷ asked empty (Delete p None) (Count 0)
    ∷ []
