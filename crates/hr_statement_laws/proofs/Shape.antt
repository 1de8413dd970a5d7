-- What every statement leaves as it is.
use Rattle.std.proofs.Common.{◌≡◌, ℕ, Bool, true, false, cond, List, refl, ap}
use Rattle.std.specs.Prelude.{Result, Ok, Err}
use Rattle.hr_rel.specs.declared.value.Value.{Value}
use Rattle.hr_rel.specs.declared.answer.Answer.TheVariants.{Failed}
use Rattle.hr_rel.specs.declared.answer.RunError.{RunError}
use Rattle.hr_rel.specs.declared.answer.RunError.TheVariants.{Unfit}
use Rattle.hr_rel.specs.declared.stmt.Stmt.{Stmt}
use Rattle.hr_rel.specs.declared.stmt.Stmt.TheVariants as stmt
use Rattle.hr_rel.specs.declared.stmt.SelectStmt.{SelectStmt}
use Rattle.hr_rel.specs.Database.{Database}
use Rattle.hr_rel.specs.Fit.{fits}
use Rattle.hr_meaning.specs.Exec.{Outcome, exec, meaning, failed, changed}

-- a fact of what a statement means, and of a failure, is one of the statement
pub by_fit : (P : Outcome → Type 0) (db : Database) (s : Stmt) → (fits db.catalog s ≡ true → P (meaning db s)) → P (failed db Unfit) → P (exec db s)
by_fit P db s fitting unfit = by_test (fits db.catalog s) refl
  where
    by_test : (b : Bool) → fits db.catalog s ≡ b → P (cond b (meaning db s) (failed db Unfit))
    by_test true e = fitting e
    by_test false e = unfit

-- ---- the catalog

changed_catalog : (db : Database) (t n : ℕ) (r : Result (List (List Value)) RunError) → (changed db t n r).after.catalog ≡ db.catalog
changed_catalog db t n (Ok rows) = refl
changed_catalog db t n (Err e) = refl

meaning_catalog : (db : Database) (s : Stmt) → (meaning db s).after.catalog ≡ db.catalog
meaning_catalog db (stmt.Select s) = refl
meaning_catalog db (stmt.Insert s) = changed_catalog db _ _ _
meaning_catalog db (stmt.Update s) = changed_catalog db _ _ _
meaning_catalog db (stmt.Delete s) = refl

pub keeps_catalog : (db : Database) (s : Stmt) → (exec db s).after.catalog ≡ db.catalog
keeps_catalog db s = by_fit (λ o. o.after.catalog ≡ db.catalog) db s (λ e. meaning_catalog db s) refl

-- ---- failures

changed_failed : (db : Database) (t n : ℕ) (e : RunError) (r : Result (List (List Value)) RunError) → (changed db t n r).answer ≡ Failed e → (changed db t n r).after ≡ db
changed_failed db t n e (Ok rows) same = cc
changed_failed db t n e (Err f) same = refl

meaning_failed : (db : Database) (s : Stmt) (e : RunError) → (meaning db s).answer ≡ Failed e → (meaning db s).after ≡ db
meaning_failed db (stmt.Select s) e same = refl
meaning_failed db (stmt.Insert s) e same = changed_failed db _ _ e _ same
meaning_failed db (stmt.Update s) e same = changed_failed db _ _ e _ same
meaning_failed db (stmt.Delete s) e same = cc

pub failure_changes_nothing : (db : Database) (s : Stmt) (e : RunError) → (exec db s).answer ≡ Failed e → (exec db s).after ≡ db
failure_changes_nothing db s e = by_fit (λ o. o.answer ≡ Failed e → o.after ≡ db) db s (λ f. meaning_failed db s e) (λ same. refl)

-- ---- SELECT

pub select_changes_nothing : (db : Database) (s : SelectStmt) → (exec db (stmt.Select s)).after ≡ db
select_changes_nothing db s = by_fit (λ o. o.after ≡ db) db (stmt.Select s) (λ e. refl) refl

-- ---- what doesn't fit

pub unfit_fails : (db : Database) (s : Stmt) → fits db.catalog s ≡ false → exec db s ≡ failed db Unfit
unfit_fails db s e = ap (λ (b : Bool). cond b (meaning db s) (failed db Unfit)) e
