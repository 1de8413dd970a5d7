-- SELECTs that fit no catalog or not this one.
use Rattle.std.specs.Prelude.{Some, None, List, [], ◌∷◌, codes}
use Rattle.hr_rel.specs.declared.value.Value.TheVariants.{Null}
use Rattle.hr_rel.specs.declared.answer.Answer.TheVariants.{Rows, Failed}
use Rattle.hr_rel.specs.declared.answer.RunError.TheVariants.{Unfit}
use Rattle.hr_rel.specs.declared.expr.Op.TheVariants.{Eq, Lt}
use Rattle.hr_worked_statements.specs.Trees.{Select, Lit, Col, Add, Sub, Mul, Compare, And, Or, Not, Plain, CountAll, Sum}
use Rattle.hr_worked_statements.specs.Words.{Worked, asked, t, u, id, v, s, w, second, column, literal, shows, int, minus, text}
use Rattle.hr_worked_statements.specs.Databases.{main, empty}

abbrev pub unfit_select : List Worked
unfit_select =
    -- SELECT id FROM t WHERE v = 'x'
    asked main (Select (t ∷ []) None (Some (Compare Eq (column v) (literal (text (codes "x"))))) (shows id ∷ []) []) (Failed Unfit)
    -- SELECT id FROM t WHERE s < 1
    ∷ asked main (Select (t ∷ []) None (Some (Compare Lt (column s) (literal (int 1)))) (shows id ∷ []) []) (Failed Unfit)
    -- SELECT id FROM t WHERE v = s
    ∷ asked main (Select (t ∷ []) None (Some (Compare Eq (column v) (column s))) (shows id ∷ []) []) (Failed Unfit)
    -- SELECT id FROM t WHERE 1 = 'x'
    ∷ asked main (Select (t ∷ []) None (Some (Compare Eq (literal (int 1)) (literal (text (codes "x"))))) (shows id ∷ []) []) (Failed Unfit)
    -- SELECT id FROM t WHERE id = 1 AND s = 1
    ∷ asked main (Select (t ∷ []) None (Some (And (Compare Eq (column id) (literal (int 1))) (Compare Eq (column s) (literal (int 1))))) (shows id ∷ []) []) (Failed Unfit)
    -- SELECT id FROM t WHERE s = 1 OR id = 1
    ∷ asked main (Select (t ∷ []) None (Some (Or (Compare Eq (column s) (literal (int 1))) (Compare Eq (column id) (literal (int 1))))) (shows id ∷ []) []) (Failed Unfit)
    -- SELECT id FROM t WHERE NOT s = 1
    ∷ asked main (Select (t ∷ []) None (Some (Not (Compare Eq (column s) (literal (int 1))))) (shows id ∷ []) []) (Failed Unfit)
    -- SELECT id FROM t WHERE v = 'x'
    ∷ asked empty (Select (t ∷ []) None (Some (Compare Eq (column v) (literal (text (codes "x"))))) (shows id ∷ []) []) (Failed Unfit)
    -- SELECT s + 1 FROM t
    ∷ asked main (Select (t ∷ []) None None (Plain (Add (Col s) (Lit (int 1))) ∷ []) []) (Failed Unfit)
    -- SELECT v - 'a' FROM t
    ∷ asked main (Select (t ∷ []) None None (Plain (Sub (Col v) (Lit (text (codes "a")))) ∷ []) []) (Failed Unfit)
    -- SELECT 'a' * NULL FROM t
    ∷ asked main (Select (t ∷ []) None None (Plain (Mul (Lit (text (codes "a"))) (Lit Null)) ∷ []) []) (Failed Unfit)
    -- SELECT SUM(s) FROM t
    ∷ asked main (Select (t ∷ []) None None (Sum s ∷ []) []) (Failed Unfit)
    -- SELECT v, COUNT(*) FROM t
    ∷ asked main (Select (t ∷ []) None None (shows v ∷ CountAll ∷ []) []) (Failed Unfit)
    -- SELECT v FROM t GROUP BY s
    ∷ asked main (Select (t ∷ []) None None (shows v ∷ []) (s ∷ [])) (Failed Unfit)
    -- SELECT v + 1 FROM t GROUP BY v
    ∷ asked main (Select (t ∷ []) None None (Plain (Add (Col v) (Lit (int 1))) ∷ []) (v ∷ [])) (Failed Unfit)
    -- SELECT 1 FROM t GROUP BY v
    ∷ asked main (Select (t ∷ []) None None (Plain (Lit (int 1)) ∷ []) (v ∷ [])) (Failed Unfit)
    -- SELECT a.v FROM t a JOIN t b ON a.id = b.id GROUP BY b.v
    ∷ asked main (Select (t ∷ t ∷ []) (Some (Compare Eq (column id) (column (second id)))) None (shows v ∷ []) (second v ∷ [])) (Failed Unfit)
    -- SELECT id, v, s, id, v, s, id, v, s FROM t
    ∷ asked main (Select (t ∷ []) None None (shows id ∷ shows v ∷ shows s ∷ shows id ∷ shows v ∷ shows s ∷ shows id ∷ shows v ∷ shows s ∷ []) []) (Failed Unfit)
    -- SELECT id, v, s, id, v, s, id, v FROM t WHERE id = 4
    ∷ asked main (Select (t ∷ []) None (Some (Compare Eq (column id) (literal (int 4)))) (shows id ∷ shows v ∷ shows s ∷ shows id ∷ shows v ∷ shows s ∷ shows id ∷ shows v ∷ []) []) (Rows ((int 4 ∷ minus 5 ∷ text (codes "B") ∷ int 4 ∷ minus 5 ∷ text (codes "B") ∷ int 4 ∷ minus 5 ∷ []) ∷ []))
    -- SELECT t.id FROM t JOIN u ON t.s = u.w
    ∷ asked main (Select (t ∷ u ∷ []) (Some (Compare Eq (column s) (column (second w)))) None (shows id ∷ []) []) (Failed Unfit)
    ∷ []
