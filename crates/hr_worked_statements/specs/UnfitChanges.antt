-- INSERTs, UPDATEs and DELETEs that do not fit.
use Rattle.std.specs.Prelude.{Some, None, List, [], ◌∷◌, codes}
use Rattle.hr_rel.specs.declared.value.Value.TheVariants.{Null}
use Rattle.hr_rel.specs.declared.answer.Answer.TheVariants.{Failed}
use Rattle.hr_rel.specs.declared.answer.RunError.TheVariants.{Unfit}
use Rattle.hr_rel.specs.declared.expr.Op.TheVariants.{Eq}
use Rattle.hr_worked_statements.specs.Trees.{Insert, Update, Delete, Lit, Col, Add, Compare}
use Rattle.hr_worked_statements.specs.Words.{Worked, asked, set, t, id, v, s, column, literal, int, text}
use Rattle.hr_worked_statements.specs.Databases.{main}

abbrev pub unfit_change : List Worked
unfit_change =
    -- INSERT INTO t VALUES (5, 'x', NULL)
    asked main (Insert t ((int 5 ∷ text (codes "x") ∷ Null ∷ []) ∷ [])) (Failed Unfit)
    -- INSERT INTO t VALUES ('a', 1, NULL)
    ∷ asked main (Insert t ((text (codes "a") ∷ int 1 ∷ Null ∷ []) ∷ [])) (Failed Unfit)
    -- INSERT INTO t VALUES (5, 1, 5)
    ∷ asked main (Insert t ((int 5 ∷ int 1 ∷ int 5 ∷ []) ∷ [])) (Failed Unfit)
    -- INSERT INTO t VALUES (5, 1)
    ∷ asked main (Insert t ((int 5 ∷ int 1 ∷ []) ∷ [])) (Failed Unfit)
    -- INSERT INTO t VALUES (5, 1, NULL, 1)
    ∷ asked main (Insert t ((int 5 ∷ int 1 ∷ Null ∷ int 1 ∷ []) ∷ [])) (Failed Unfit)
    -- INSERT INTO t VALUES (1, 0, NULL), (5, 'x', NULL)
    ∷ asked main (Insert t ((int 1 ∷ int 0 ∷ Null ∷ []) ∷ (int 5 ∷ text (codes "x") ∷ Null ∷ []) ∷ [])) (Failed Unfit)
    -- INSERT INTO t of no rows
    ∷ asked main (Insert t []) (Failed Unfit)
    -- INSERT INTO a fourth table
    ∷ asked main (Insert 3 ((int 5 ∷ []) ∷ [])) (Failed Unfit)
    -- UPDATE t SET id = 5
    ∷ asked main (Update t (set id (Lit (int 5)) ∷ []) None) (Failed Unfit)
    -- UPDATE t SET v = 'x'
    ∷ asked main (Update t (set v (Lit (text (codes "x"))) ∷ []) None) (Failed Unfit)
    -- UPDATE t SET s = 1
    ∷ asked main (Update t (set s (Lit (int 1)) ∷ []) None) (Failed Unfit)
    -- UPDATE t SET v = s
    ∷ asked main (Update t (set v (Col s) ∷ []) None) (Failed Unfit)
    -- UPDATE t SET v = s + 1 WHERE id = 9
    ∷ asked main (Update t (set v (Add (Col s) (Lit (int 1))) ∷ []) (Some (Compare Eq (column id) (literal (int 9))))) (Failed Unfit)
    -- UPDATE t SET v = 1, v = 2
    ∷ asked main (Update t (set v (Lit (int 1)) ∷ set v (Lit (int 2)) ∷ []) None) (Failed Unfit)
    -- UPDATE t SET v = 1, s = NULL, v = 1
    ∷ asked main (Update t (set v (Lit (int 1)) ∷ set s (Lit Null) ∷ set v (Lit (int 1)) ∷ []) None) (Failed Unfit)
    -- UPDATE t SET v = 1 WHERE v = 'x'
    ∷ asked main (Update t (set v (Lit (int 1)) ∷ []) (Some (Compare Eq (column v) (literal (text (codes "x")))))) (Failed Unfit)
    -- UPDATE t SET nothing
    ∷ asked main (Update t [] None) (Failed Unfit)
    -- UPDATE t SET a fourth column = 1
    ∷ asked main (Update t (set (record { entry = 0; column = 3 }) (Lit (int 1)) ∷ []) None) (Failed Unfit)
    -- UPDATE a fourth table
    ∷ asked main (Update 3 (set (record { entry = 0; column = 1 }) (Lit (int 1)) ∷ []) None) (Failed Unfit)
    -- UPDATE t SET v = a column of a second entry
    ∷ asked main (Update t (set v (Col (record { entry = 1; column = 1 })) ∷ []) None) (Failed Unfit)
    -- DELETE FROM t WHERE v = 'x'
    ∷ asked main (Delete t (Some (Compare Eq (column v) (literal (text (codes "x")))))) (Failed Unfit)
    -- DELETE FROM a fourth table
    ∷ asked main (Delete 3 None) (Failed Unfit)
    ∷ []
