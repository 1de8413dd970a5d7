-- UPDATE.
use Rattle.std.specs.Prelude.{Some, None, List, [], ◌∷◌, codes}
use Rattle.hr_rel.specs.declared.value.Value.TheVariants.{Null}
use Rattle.hr_rel.specs.declared.answer.Answer.TheVariants.{Count, Failed}
use Rattle.hr_rel.specs.declared.answer.RunError.TheVariants.{NullRefused, Overflow}
use Rattle.hr_rel.specs.declared.expr.Op.TheVariants.{Eq, Ne, Lt, Gt}
use Rattle.hr_worked_statements.specs.Trees.{Update, Lit, Col, Add, Sub, Compare, IsNull}
use Rattle.hr_worked_statements.specs.Words.{Worked, asked, changed, set, t, u, p, id, v, s, w, a, b, column, literal, int, minus, text}
use Rattle.hr_worked_statements.specs.Databases.{main, empty, large, third}

abbrev pub updates : List Worked
updates =
    -- UPDATE t SET v = 0
    changed main (Update t (set v (Lit (int 0)) ∷ []) None) (Count 4) t ((int 1 ∷ int 0 ∷ text (codes "a") ∷ []) ∷ (int 2 ∷ int 0 ∷ text (codes "b") ∷ []) ∷ (int 3 ∷ int 0 ∷ Null ∷ []) ∷ (int 4 ∷ int 0 ∷ text (codes "B") ∷ []) ∷ [])
    -- UPDATE t SET v = v + 1
    ∷ changed main (Update t (set v (Add (Col v) (Lit (int 1))) ∷ []) None) (Count 4) t ((int 1 ∷ int 11 ∷ text (codes "a") ∷ []) ∷ (int 2 ∷ Null ∷ text (codes "b") ∷ []) ∷ (int 3 ∷ int 11 ∷ Null ∷ []) ∷ (int 4 ∷ minus 4 ∷ text (codes "B") ∷ []) ∷ [])
    -- UPDATE t SET v = v - id WHERE id = 1
    ∷ changed main (Update t (set v (Sub (Col v) (Col id)) ∷ []) (Some (Compare Eq (column id) (literal (int 1))))) (Count 1) t ((int 1 ∷ int 9 ∷ text (codes "a") ∷ []) ∷ (int 2 ∷ Null ∷ text (codes "b") ∷ []) ∷ (int 3 ∷ int 10 ∷ Null ∷ []) ∷ (int 4 ∷ minus 5 ∷ text (codes "B") ∷ []) ∷ [])
    -- UPDATE t SET v = id, s = NULL WHERE v IS NULL
    ∷ changed main (Update t (set v (Col id) ∷ set s (Lit Null) ∷ []) (Some (IsNull (column v)))) (Count 1) t ((int 1 ∷ int 10 ∷ text (codes "a") ∷ []) ∷ (int 2 ∷ int 2 ∷ Null ∷ []) ∷ (int 3 ∷ int 10 ∷ Null ∷ []) ∷ (int 4 ∷ minus 5 ∷ text (codes "B") ∷ []) ∷ [])
    -- UPDATE t SET v = 0 WHERE v <> 10
    ∷ changed main (Update t (set v (Lit (int 0)) ∷ []) (Some (Compare Ne (column v) (literal (int 10))))) (Count 1) t ((int 1 ∷ int 10 ∷ text (codes "a") ∷ []) ∷ (int 2 ∷ Null ∷ text (codes "b") ∷ []) ∷ (int 3 ∷ int 10 ∷ Null ∷ []) ∷ (int 4 ∷ int 0 ∷ text (codes "B") ∷ []) ∷ [])
    -- UPDATE t SET s = 'z' WHERE v > 100
    ∷ asked main (Update t (set s (Lit (text (codes "z"))) ∷ []) (Some (Compare Gt (column v) (literal (int 100))))) (Count 0)
    -- UPDATE t SET v = v
    ∷ asked main (Update t (set v (Col v) ∷ []) None) (Count 4)
    -- UPDATE t SET v = NULL WHERE id = 4
    ∷ changed main (Update t (set v (Lit Null) ∷ []) (Some (Compare Eq (column id) (literal (int 4))))) (Count 1) t ((int 1 ∷ int 10 ∷ text (codes "a") ∷ []) ∷ (int 2 ∷ Null ∷ text (codes "b") ∷ []) ∷ (int 3 ∷ int 10 ∷ Null ∷ []) ∷ (int 4 ∷ Null ∷ text (codes "B") ∷ []) ∷ [])
    -- UPDATE p SET a = b, b = a WHERE id = 1
    ∷ changed main (Update p (set a (Col b) ∷ set b (Col a) ∷ []) (Some (Compare Eq (column id) (literal (int 1))))) (Count 1) p ((int 1 ∷ int 6 ∷ int 5 ∷ []) ∷ (int 2 ∷ Null ∷ int 8 ∷ []) ∷ [])
    -- UPDATE p SET a = b, b = a
    ∷ asked main (Update p (set a (Col b) ∷ set b (Col a) ∷ []) None) (Failed (NullRefused 3))
    -- UPDATE p SET b = NULL WHERE id = 9
    ∷ asked main (Update p (set b (Lit Null) ∷ []) (Some (Compare Eq (column id) (literal (int 9))))) (Count 0)
    -- UPDATE u SET w = NULL WHERE id = 3
    ∷ asked main (Update u (set w (Lit Null) ∷ []) (Some (Compare Eq (column id) (literal (int 3))))) (Failed (NullRefused 2))
    -- UPDATE p SET b = a, a = b + 9223372036854775807 WHERE id = 2
    ∷ asked main (Update p (set b (Col a) ∷ set a (Add (Col b) (Lit (int 9223372036854775807))) ∷ []) (Some (Compare Eq (column id) (literal (int 2))))) (Failed (NullRefused 3))
    -- UPDATE p SET a = b + 9223372036854775807, b = a WHERE id = 2
    ∷ asked main (Update p (set a (Add (Col b) (Lit (int 9223372036854775807))) ∷ set b (Col a) ∷ []) (Some (Compare Eq (column id) (literal (int 2))))) (Failed Overflow)
    -- UPDATE p SET a = a + 9223372036854775807, b = a
    ∷ asked main (Update p (set a (Add (Col a) (Lit (int 9223372036854775807))) ∷ set b (Col a) ∷ []) None) (Failed Overflow)
    -- UPDATE p SET a = a + 9223372036854775807, b = a
    ∷ asked large (Update p (set a (Add (Col a) (Lit (int 9223372036854775807))) ∷ set b (Col a) ∷ []) None) (Failed (NullRefused 3))
    -- UPDATE t SET v = v + 1
    ∷ asked third (Update t (set v (Add (Col v) (Lit (int 1))) ∷ []) None) (Failed Overflow)
    -- UPDATE t SET v = v + 1 WHERE id < 3
    ∷ changed third (Update t (set v (Add (Col v) (Lit (int 1))) ∷ []) (Some (Compare Lt (column id) (literal (int 3))))) (Count 2) t ((int 1 ∷ int 1 ∷ Null ∷ []) ∷ (int 2 ∷ int 2 ∷ Null ∷ []) ∷ (int 3 ∷ int 9223372036854775807 ∷ Null ∷ []) ∷ (int 4 ∷ int 2 ∷ Null ∷ []) ∷ [])
    -- UPDATE t SET v = 1
    ∷ asked empty (Update t (set v (Lit (int 1)) ∷ []) None) (Count 0)
    ∷ []
