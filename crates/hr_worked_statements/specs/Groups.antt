-- GROUP BY.
use Rattle.std.specs.Prelude.{Some, None, List, [], ◌∷◌, codes}
use Rattle.hr_rel.specs.declared.value.Value.TheVariants.{Null}
use Rattle.hr_rel.specs.declared.answer.Answer.TheVariants.{Rows, Failed}
use Rattle.hr_rel.specs.declared.answer.RunError.TheVariants.{Overflow}
use Rattle.hr_rel.specs.declared.expr.Op.TheVariants.{Ne, Gt}
use Rattle.hr_worked_statements.specs.Trees.{Select, Compare, IsNull, Not, CountAll, CountOf, Sum, Min, Max}
use Rattle.hr_worked_statements.specs.Words.{Worked, asked, t, id, v, s, column, literal, shows, int, minus, text}
use Rattle.hr_worked_statements.specs.Databases.{main, empty, large}

abbrev pub groups : List Worked
groups =
    -- SELECT v, COUNT(*) FROM t GROUP BY v
    asked main (Select (t ∷ []) None None (shows v ∷ CountAll ∷ []) (v ∷ [])) (Rows ((Null ∷ int 1 ∷ []) ∷ (minus 5 ∷ int 1 ∷ []) ∷ (int 10 ∷ int 2 ∷ []) ∷ []))
    -- SELECT s, COUNT(*) FROM t GROUP BY s
    ∷ asked main (Select (t ∷ []) None None (shows s ∷ CountAll ∷ []) (s ∷ [])) (Rows ((Null ∷ int 1 ∷ []) ∷ (text (codes "B") ∷ int 1 ∷ []) ∷ (text (codes "a") ∷ int 1 ∷ []) ∷ (text (codes "b") ∷ int 1 ∷ []) ∷ []))
    -- SELECT COUNT(v), SUM(v) FROM t GROUP BY v
    ∷ asked main (Select (t ∷ []) None None (CountOf v ∷ Sum v ∷ []) (v ∷ [])) (Rows ((int 0 ∷ Null ∷ []) ∷ (int 1 ∷ minus 5 ∷ []) ∷ (int 2 ∷ int 20 ∷ []) ∷ []))
    -- SELECT MIN(s), MAX(s), COUNT(s) FROM t GROUP BY v
    ∷ asked main (Select (t ∷ []) None None (Min s ∷ Max s ∷ CountOf s ∷ []) (v ∷ [])) (Rows ((text (codes "b") ∷ text (codes "b") ∷ int 1 ∷ []) ∷ (text (codes "B") ∷ text (codes "B") ∷ int 1 ∷ []) ∷ (text (codes "a") ∷ text (codes "a") ∷ int 1 ∷ []) ∷ []))
    -- SELECT v, s FROM t GROUP BY v, s
    ∷ asked main (Select (t ∷ []) None None (shows v ∷ shows s ∷ []) (v ∷ s ∷ [])) (Rows ((Null ∷ text (codes "b") ∷ []) ∷ (minus 5 ∷ text (codes "B") ∷ []) ∷ (int 10 ∷ Null ∷ []) ∷ (int 10 ∷ text (codes "a") ∷ []) ∷ []))
    -- SELECT v, s FROM t GROUP BY s, v
    ∷ asked main (Select (t ∷ []) None None (shows v ∷ shows s ∷ []) (s ∷ v ∷ [])) (Rows ((int 10 ∷ Null ∷ []) ∷ (minus 5 ∷ text (codes "B") ∷ []) ∷ (int 10 ∷ text (codes "a") ∷ []) ∷ (Null ∷ text (codes "b") ∷ []) ∷ []))
    -- SELECT v FROM t GROUP BY v, v
    ∷ asked main (Select (t ∷ []) None None (shows v ∷ []) (v ∷ v ∷ [])) (Rows ((Null ∷ []) ∷ (minus 5 ∷ []) ∷ (int 10 ∷ []) ∷ []))
    -- SELECT v FROM t GROUP BY v
    ∷ asked main (Select (t ∷ []) None None (shows v ∷ []) (v ∷ [])) (Rows ((Null ∷ []) ∷ (minus 5 ∷ []) ∷ (int 10 ∷ []) ∷ []))
    -- SELECT COUNT(*), v FROM t GROUP BY v
    ∷ asked main (Select (t ∷ []) None None (CountAll ∷ shows v ∷ []) (v ∷ [])) (Rows ((int 1 ∷ Null ∷ []) ∷ (int 1 ∷ minus 5 ∷ []) ∷ (int 2 ∷ int 10 ∷ []) ∷ []))
    -- SELECT MAX(id) FROM t GROUP BY v
    ∷ asked main (Select (t ∷ []) None None (Max id ∷ []) (v ∷ [])) (Rows ((int 2 ∷ []) ∷ (int 4 ∷ []) ∷ (int 3 ∷ []) ∷ []))
    -- SELECT v, COUNT(*) FROM t WHERE id > 9 GROUP BY v
    ∷ asked main (Select (t ∷ []) None (Some (Compare Gt (column id) (literal (int 9)))) (shows v ∷ CountAll ∷ []) (v ∷ [])) (Rows [])
    -- SELECT v, COUNT(*) FROM t GROUP BY v
    ∷ asked empty (Select (t ∷ []) None None (shows v ∷ CountAll ∷ []) (v ∷ [])) (Rows [])
    -- SELECT v, COUNT(*) FROM t WHERE NOT s IS NULL GROUP BY v
    ∷ asked main (Select (t ∷ []) None (Some (Not (IsNull (column s)))) (shows v ∷ CountAll ∷ []) (v ∷ [])) (Rows ((Null ∷ int 1 ∷ []) ∷ (minus 5 ∷ int 1 ∷ []) ∷ (int 10 ∷ int 1 ∷ []) ∷ []))
    -- SELECT s, SUM(v) FROM t GROUP BY s
    ∷ asked large (Select (t ∷ []) None None (shows s ∷ Sum v ∷ []) (s ∷ [])) (Rows ((text (codes "p") ∷ int 0 ∷ []) ∷ (text (codes "q") ∷ minus 1 ∷ []) ∷ []))
    -- SELECT s, SUM(v) FROM t WHERE id <> 3 GROUP BY s
    ∷ asked large (Select (t ∷ []) None (Some (Compare Ne (column id) (literal (int 3)))) (shows s ∷ Sum v ∷ []) (s ∷ [])) (Failed Overflow)
    ∷ []
