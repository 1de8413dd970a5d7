-- What a change of one table is to the database.
use Rattle.std.proofs.Common.{◌≡◌, ℕ, ◌<◌, zero, suc, Bool, true, false, cond, List, [], ◌∷◌, get_or, length, map, Result, Ok, Err, IfOk, OnErr, refl, ap, sym, subst, ◌∙◌, arith}
use Rattle.std.specs.Prelude.{slice_set}
use Rattle.std.specs.List.{list_all}
use Rattle.std.proofs.lemmas.Bool.{and_parts}
use Rattle.hr_rel.specs.Holds.{is_ordered, IsOrdered}
use Rattle.hr_statement_laws.proofs.Ordered.{keeps_order}
use Rattle.hr_machine.specs.Order.{IsShaped}
use Rattle.std.proofs.lemmas.List.{set-set}
use Rattle.hr_rel.specs.declared.value.Value.{Value}
use Rattle.hr_rel.specs.declared.catalog.Catalog.{Catalog}
use Rattle.hr_rel.specs.declared.answer.Answer.{Answer}
use Rattle.hr_rel.specs.declared.answer.Answer.TheVariants.{Count, Failed}
use Rattle.hr_rel.specs.declared.answer.RunError.{RunError}
use Rattle.hr_rel.specs.declared.answer.RunError.TheVariants.{Unfit}
use Rattle.hr_rel.specs.declared.stmt.Stmt.{Stmt}
use Rattle.hr_rel.specs.declared.stmt.SelectStmt.{SelectStmt}
use Rattle.hr_rel.specs.Database.{Database, rows_of}
use Rattle.hr_rel.specs.Fit.{fits}
use Rattle.hr_meaning.specs.Exec.{Outcome, exec, meaning, failed, changed}
use Rattle.hr_meaning.specs.Exec.{tuples, kept}
use Rattle.hr_machine.specs.Kept.{kept_of}
use Rattle.hr_machine.specs.Changes.{rows_at, IsChange}

module _ (db : Database) (s : Stmt) where
  pub exec_fitting : fits db.catalog s ≡ true → exec db s ≡ meaning db s
  exec_fitting e = ap (λ (b : Bool). cond b (meaning db s) (failed db Unfit)) e

  pub exec_unfit : fits db.catalog s ≡ false → exec db s ≡ failed db Unfit
  exec_unfit e = ap (λ (b : Bool). cond b (meaning db s) (failed db Unfit)) e

-- a table that is taken out and put back
pub back_again : (tables : List (List (List Value))) (t : ℕ) → t < length tables → slice_set tables t (rows_at tables t) ≡ tables
back_again [] t h = absurd (omega arith)
back_again (rows ∷ tables) zero h = refl
back_again (rows ∷ tables) (suc t) h = ap (λ l. rows ∷ l) (back_again tables t (omega arith))

-- a fact that holds whatever the result is
pub on_err : {T E : Type 0} {P : Type 0} (r : Result T E) → P → OnErr r P
on_err (Ok x) p = tt
on_err (Err e) p = p

pub put_again : (tables left new : List (List (List Value))) (t : ℕ) (rows : List (List Value)) → left ≡ slice_set tables t [] → new ≡ slice_set left t rows → rows ≡ rows_at tables t → t < length tables
    → new ≡ tables
put_again tables left new t rows taken put same within =
    put ∙ ap (λ l. slice_set l t rows) taken ∙ set-set tables t [] rows ∙ ap (slice_set tables t) same ∙ back_again tables t within

abbrev done : List (List Value) → Result (List (List Value)) RunError
done rows = Ok rows

abbrev refused : RunError → Result (List (List Value)) RunError
refused e = Err e

rows_inside : (a b : List (List Value)) → done a ≡ done b → a ≡ b
rows_inside a b h = cc

error_inside : (a b : RunError) → refused a ≡ refused b → a ≡ b
error_inside a b h = cc

module _ (old new : List (List (List Value))) (t count : ℕ) (r : Result (List (List Value)) RunError) where
  pub change_done : (rows left : List (List Value)) → r ≡ Ok rows → new ≡ slice_set (slice_set old t left) t rows → IsChange (Count count) old new t count r
  change_done rows left e put = by_result r e
    where
      by_result : (q : Result (List (List Value)) RunError) → q ≡ Ok rows → IsChange (Count count) old new t count q
      by_result (Ok others) f = (refl, put ∙ set-set old t left rows ∙ ap (slice_set old t) (sym (rows_inside others rows f)))
      by_result (Err d) f = cc

  pub change_failed : (d : RunError) (rows left : List (List Value)) → r ≡ Err d → rows ≡ rows_at old t → t < length old → new ≡ slice_set (slice_set old t left) t rows → IsChange (Failed d) old new t count r
  change_failed d rows left e same within put = by_result r e
    where
      by_result : (q : Result (List (List Value)) RunError) → q ≡ Err d → IsChange (Failed d) old new t count q
      by_result (Ok others) f = cc
      by_result (Err other) f = (ap Failed (error_inside d other (sym f)), put ∙ set-set old t left rows ∙ ap (slice_set old t) same ∙ back_again old t within)

  -- the change is that of the definition
  pub change_answer : (catalog : Catalog) (answer : Answer) → IsChange answer old new t count r → answer ≡ (changed record { catalog = catalog; tables = old } t count r).answer
  change_answer catalog answer h = by_result r h
    where
      by_result : (q : Result (List (List Value)) RunError) → IsChange answer old new t count q → answer ≡ (changed record { catalog = catalog; tables = old } t count q).answer
      by_result (Ok rows) k = k.0
      by_result (Err d) k = k.0

  pub change_after : (catalog : Catalog) (answer : Answer) → IsChange answer old new t count r → record { catalog = catalog; tables = new } ≡ (changed record { catalog = catalog; tables = old } t count r).after
  change_after catalog answer h = by_result r h
    where
      by_result : (q : Result (List (List Value)) RunError) → IsChange answer old new t count q → record { catalog = catalog; tables = new } ≡ (changed record { catalog = catalog; tables = old } t count q).after
      by_result (Ok rows) k = λ i. record { catalog = catalog; tables = k.1 i }
      by_result (Err d) k = λ i. record { catalog = catalog; tables = k.1 i }

-- ---- SELECT

module _ (db : Database) (s : SelectStmt) where
  pub of_one_table : (ts : List ℕ) → ts ≡ s.tables → length ts ≡ 1 → (rows : List (List Value)) → rows ≡ rows_at db.tables (get_or ts 0 0) → kept_of s (tuples (rows ∷ [])) ≡ kept db s
  of_one_table [] e n rows r = absurd (omega arith)
  of_one_table (t ∷ u ∷ ts) e n rows r = absurd (omega arith)
  of_one_table (t ∷ []) e n rows r = ap (λ l. kept_of s (tuples (l ∷ []))) r ∙ ap (λ l. kept_of s (tuples (map (rows_of db) l))) e

  pub of_two_tables : (ts : List ℕ) → ts ≡ s.tables → length ts ≡ 2 → (rows : List (List Value)) → rows ≡ rows_at db.tables (get_or ts 0 0)
      → (others : List (List Value)) → others ≡ rows_at db.tables (get_or ts 1 0) → kept_of s (tuples (rows ∷ others ∷ [])) ≡ kept db s
  of_two_tables [] e n rows r others q = absurd (omega arith)
  of_two_tables (t ∷ []) e n rows r others q = absurd (omega arith)
  of_two_tables (t ∷ u ∷ v ∷ ts) e n rows r others q = absurd (omega arith)
  of_two_tables (t ∷ u ∷ []) e n rows r others q = (λ i. kept_of s (tuples (r i ∷ q i ∷ []))) ∙ ap (λ l. kept_of s (tuples (map (rows_of db) l))) e

-- ---- order

pub rows_in_order : (tables : List (List (List Value))) (t : ℕ) → list_all is_ordered tables ≡ true → is_ordered (rows_at tables t) ≡ true
rows_in_order [] t h = refl
rows_in_order (rows ∷ tables) zero h = (and_parts (is_ordered rows) (list_all is_ordered tables) h).0
rows_in_order (rows ∷ tables) (suc t) h = rows_in_order tables t (and_parts (is_ordered rows) (list_all is_ordered tables) h).1

pub still_shaped : (db : Database) (s : Stmt) (tables : List (List (List Value))) (said : Bool) → IsShaped db.catalog db.tables said → fits db.catalog s ≡ true → length tables ≡ length db.tables
    → record { catalog = db.catalog; tables = tables } ≡ (meaning db s).after → IsShaped db.catalog tables said
still_shaped db s tables said h fit size e = record {
  size = size ∙ h.size;
  order = λ k. subst IsOrdered (ap (λ (o : Outcome). o.after) (exec_fitting db s fit) ∙ sym e) (keeps_order db s (h.order k));
}

pub set_size : (xs : List (List (List Value))) (i : ℕ) (x : List (List Value)) → length (slice_set xs i x) ≡ length xs
set_size [] i x = refl
set_size (y ∷ ys) zero x = refl
set_size (y ∷ ys) (suc i) x = ap suc (set_size ys i x)

changed_size : (old new : List (List (List Value))) (t count : ℕ) (r : Result (List (List Value)) RunError) (answer : Answer) → IsChange answer old new t count r → length new ≡ length old
changed_size old new t count (Ok rows) answer h = ap length h.1 ∙ set_size old t rows
changed_size old new t count (Err d) answer h = ap length h.1

-- a database after a change that is a statement's, or after want of memory
pub shaped_after : {E : Type 0} (db : Database) (s : Stmt) (said : Bool) (t count : ℕ) (r : Result (List (List Value)) RunError) (new : List (List (List Value))) (result : Result Answer E)
    → IsShaped db.catalog db.tables said → fits db.catalog s ≡ true → meaning db s ≡ changed db t count r
    → IfOk result (λ answer. IsChange answer db.tables new t count r) → OnErr result (new ≡ db.tables) → IsShaped db.catalog new said
shaped_after db s said t count r new (Ok answer) h fit e done lost =
    still_shaped db s new said h fit (changed_size db.tables new t count r answer done) (change_after db.tables new t count r db.catalog answer done ∙ ap (λ (o : Outcome). o.after) (sym e))
shaped_after db s said t count r new (Err d) h fit e done lost = subst (λ (tables : List (List (List Value))). IsShaped db.catalog tables said) (sym lost) h
