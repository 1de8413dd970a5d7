-- Expressions, with NULL and near the ends of the numbers.
use Rattle.std.specs.Prelude.{Some, None, List, [], ◌∷◌, codes}
use Rattle.hr_rel.specs.declared.value.Value.TheVariants.{Null}
use Rattle.hr_rel.specs.declared.answer.Answer.TheVariants.{Rows, Failed}
use Rattle.hr_rel.specs.declared.answer.RunError.TheVariants.{Overflow}
use Rattle.hr_rel.specs.declared.expr.Op.TheVariants.{Eq, Ne}
use Rattle.hr_worked_statements.specs.Trees.{Select, Lit, Col, Add, Sub, Mul, Compare, Plain}
use Rattle.hr_worked_statements.specs.Words.{Worked, asked, t, u, id, v, column, literal, shows, int, minus, text}
use Rattle.hr_worked_statements.specs.Databases.{main, large, third}

abbrev pub expressions : List Worked
expressions =
    -- SELECT id + v FROM t
    asked main (Select (t ∷ []) None None (Plain (Add (Col id) (Col v)) ∷ []) []) (Rows ((int 11 ∷ []) ∷ (Null ∷ []) ∷ (int 13 ∷ []) ∷ (minus 1 ∷ []) ∷ []))
    -- SELECT v - id FROM t
    ∷ asked main (Select (t ∷ []) None None (Plain (Sub (Col v) (Col id)) ∷ []) []) (Rows ((int 9 ∷ []) ∷ (Null ∷ []) ∷ (int 7 ∷ []) ∷ (minus 9 ∷ []) ∷ []))
    -- SELECT v * v FROM t
    ∷ asked main (Select (t ∷ []) None None (Plain (Mul (Col v) (Col v)) ∷ []) []) (Rows ((int 100 ∷ []) ∷ (Null ∷ []) ∷ (int 100 ∷ []) ∷ (int 25 ∷ []) ∷ []))
    -- SELECT 1 - v * 2 FROM t WHERE id = 4
    ∷ asked main (Select (t ∷ []) None (Some (Compare Eq (column id) (literal (int 4)))) (Plain (Sub (Lit (int 1)) (Mul (Col v) (Lit (int 2)))) ∷ []) []) (Rows ((int 11 ∷ []) ∷ []))
    -- SELECT 7, NULL, 'x' FROM u
    ∷ asked main (Select (u ∷ []) None None (Plain (Lit (int 7)) ∷ Plain (Lit Null) ∷ Plain (Lit (text (codes "x"))) ∷ []) []) (Rows ((int 7 ∷ Null ∷ text (codes "x") ∷ []) ∷ (int 7 ∷ Null ∷ text (codes "x") ∷ []) ∷ (int 7 ∷ Null ∷ text (codes "x") ∷ []) ∷ []))
    -- SELECT NULL + 1, 1 - NULL, NULL * NULL FROM u WHERE id = 1
    ∷ asked main (Select (u ∷ []) None (Some (Compare Eq (column id) (literal (int 1)))) (Plain (Add (Lit Null) (Lit (int 1))) ∷ Plain (Sub (Lit (int 1)) (Lit Null)) ∷ Plain (Mul (Lit Null) (Lit Null)) ∷ []) []) (Rows ((Null ∷ Null ∷ Null ∷ []) ∷ []))
    -- SELECT v + 1 FROM t WHERE id = 1
    ∷ asked large (Select (t ∷ []) None (Some (Compare Eq (column id) (literal (int 1)))) (Plain (Add (Col v) (Lit (int 1))) ∷ []) []) (Failed Overflow)
    -- SELECT v - 1 FROM t WHERE id = 3
    ∷ asked large (Select (t ∷ []) None (Some (Compare Eq (column id) (literal (int 3)))) (Plain (Sub (Col v) (Lit (int 1))) ∷ []) []) (Failed Overflow)
    -- SELECT v * -1 FROM t WHERE id = 3
    ∷ asked large (Select (t ∷ []) None (Some (Compare Eq (column id) (literal (int 3)))) (Plain (Mul (Col v) (Lit (minus 1))) ∷ []) []) (Failed Overflow)
    -- SELECT v * -1 FROM t WHERE id <> 3
    ∷ asked large (Select (t ∷ []) None (Some (Compare Ne (column id) (literal (int 3)))) (Plain (Mul (Col v) (Lit (minus 1))) ∷ []) []) (Rows ((minus 9223372036854775807 ∷ []) ∷ (minus 1 ∷ []) ∷ (int 1 ∷ []) ∷ []))
    -- SELECT v + 1 FROM t WHERE id = 3
    ∷ asked large (Select (t ∷ []) None (Some (Compare Eq (column id) (literal (int 3)))) (Plain (Add (Col v) (Lit (int 1))) ∷ []) []) (Rows ((minus 9223372036854775807 ∷ []) ∷ []))
    -- SELECT 0 - v - 1 FROM t WHERE id = 1
    ∷ asked large (Select (t ∷ []) None (Some (Compare Eq (column id) (literal (int 1)))) (Plain (Sub (Sub (Lit (int 0)) (Col v)) (Lit (int 1))) ∷ []) []) (Rows ((minus 9223372036854775808 ∷ []) ∷ []))
    -- SELECT NULL + (v + 1) FROM t WHERE id = 1
    ∷ asked large (Select (t ∷ []) None (Some (Compare Eq (column id) (literal (int 1)))) (Plain (Add (Lit Null) (Add (Col v) (Lit (int 1)))) ∷ []) []) (Failed Overflow)
    -- SELECT (v + 1) * NULL FROM t WHERE id = 1
    ∷ asked large (Select (t ∷ []) None (Some (Compare Eq (column id) (literal (int 1)))) (Plain (Mul (Add (Col v) (Lit (int 1))) (Lit Null)) ∷ []) []) (Failed Overflow)
    -- SELECT (v + 1) - 1 FROM t WHERE id = 1
    ∷ asked large (Select (t ∷ []) None (Some (Compare Eq (column id) (literal (int 1)))) (Plain (Sub (Add (Col v) (Lit (int 1))) (Lit (int 1))) ∷ []) []) (Failed Overflow)
    -- SELECT id, v + 1 FROM t
    ∷ asked third (Select (t ∷ []) None None (shows id ∷ Plain (Add (Col v) (Lit (int 1))) ∷ []) []) (Failed Overflow)
    -- SELECT id, v + 1 FROM t WHERE id <> 3
    ∷ asked third (Select (t ∷ []) None (Some (Compare Ne (column id) (literal (int 3)))) (shows id ∷ Plain (Add (Col v) (Lit (int 1))) ∷ []) []) (Rows ((int 1 ∷ int 1 ∷ []) ∷ (int 2 ∷ int 2 ∷ []) ∷ (int 4 ∷ int 3 ∷ []) ∷ []))
    -- SELECT v + 1 FROM t WHERE id = 9
    ∷ asked third (Select (t ∷ []) None (Some (Compare Eq (column id) (literal (int 9)))) (Plain (Add (Col v) (Lit (int 1))) ∷ []) []) (Rows [])
    ∷ []
