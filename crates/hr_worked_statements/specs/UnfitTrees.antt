-- SELECTs that no text gives, and that fit no catalog or not this one.
use Rattle.std.specs.Prelude.{Some, None, List, [], ◌∷◌}
use Rattle.hr_rel.specs.declared.value.Value.TheVariants.{Null}
use Rattle.hr_rel.specs.declared.answer.Answer.TheVariants.{Failed}
use Rattle.hr_rel.specs.declared.answer.RunError.TheVariants.{Unfit}
use Rattle.hr_rel.specs.declared.expr.Op.TheVariants.{Eq}
use Rattle.hr_worked_statements.specs.Trees.{Select, Lit, Col, Add, Compare, IsNull, Plain, CountAll, CountOf, Sum, Min, Max}
use Rattle.hr_worked_statements.specs.Words.{Worked, asked, t, u, p, id, column, literal, shows, int}
use Rattle.hr_worked_statements.specs.Databases.{main}

abbrev pub unfit_tree : List Worked
unfit_tree =
    -- SELECT of no items
    asked main (Select (t ∷ []) None None [] []) (Failed Unfit)
    -- SELECT FROM no table
    ∷ asked main (Select [] None None (shows (record { entry = 0; column = 0 }) ∷ []) []) (Failed Unfit)
    -- SELECT id FROM a fourth table
    ∷ asked main (Select (3 ∷ []) None None (shows (record { entry = 0; column = 0 }) ∷ []) []) (Failed Unfit)
    -- SELECT id FROM t ON 1 = 1, of one table entry
    ∷ asked main (Select (t ∷ []) (Some (Compare Eq (literal (int 1)) (literal (int 1)))) None (shows id ∷ []) []) (Failed Unfit)
    -- SELECT t.id FROM t JOIN u, without ON
    ∷ asked main (Select (t ∷ u ∷ []) None None (shows id ∷ []) []) (Failed Unfit)
    -- SELECT t.id FROM t, u and p ON 1 = 1
    ∷ asked main (Select (t ∷ u ∷ p ∷ []) (Some (Compare Eq (literal (int 1)) (literal (int 1)))) None (shows id ∷ []) []) (Failed Unfit)
    -- SELECT t.id FROM t JOIN a fourth table ON 1 = 1
    ∷ asked main (Select (t ∷ 3 ∷ []) (Some (Compare Eq (literal (int 1)) (literal (int 1)))) None (shows id ∷ []) []) (Failed Unfit)
    -- SELECT a fourth column FROM t
    ∷ asked main (Select (t ∷ []) None None (shows (record { entry = 0; column = 3 }) ∷ []) []) (Failed Unfit)
    -- SELECT a column of a second entry FROM t
    ∷ asked main (Select (t ∷ []) None None (shows (record { entry = 1; column = 0 }) ∷ []) []) (Failed Unfit)
    -- SELECT 1 + a fourth column FROM t
    ∷ asked main (Select (t ∷ []) None None (Plain (Add (Col (record { entry = 0; column = 3 })) (Lit (int 1))) ∷ []) []) (Failed Unfit)
    -- SELECT COUNT of a fourth column FROM t
    ∷ asked main (Select (t ∷ []) None None (CountOf (record { entry = 0; column = 3 }) ∷ []) []) (Failed Unfit)
    -- SELECT MIN of a column of a second entry FROM t
    ∷ asked main (Select (t ∷ []) None None (Min (record { entry = 1; column = 0 }) ∷ []) []) (Failed Unfit)
    -- SELECT MAX of a fourth column FROM t
    ∷ asked main (Select (t ∷ []) None None (Max (record { entry = 0; column = 3 }) ∷ []) []) (Failed Unfit)
    -- SELECT SUM of a fourth column FROM t
    ∷ asked main (Select (t ∷ []) None None (Sum (record { entry = 0; column = 3 }) ∷ []) []) (Failed Unfit)
    -- SELECT COUNT(*) FROM t GROUP BY a fourth column
    ∷ asked main (Select (t ∷ []) None None (CountAll ∷ []) ((record { entry = 0; column = 3 }) ∷ [])) (Failed Unfit)
    -- SELECT id FROM t WHERE a fourth column IS NULL
    ∷ asked main (Select (t ∷ []) None (Some (IsNull (column (record { entry = 0; column = 3 })))) (shows id ∷ []) []) (Failed Unfit)
    -- SELECT id FROM t WHERE NULL = a fourth column
    ∷ asked main (Select (t ∷ []) None (Some (Compare Eq (literal Null) (column (record { entry = 0; column = 3 })))) (shows id ∷ []) []) (Failed Unfit)
    ∷ []
