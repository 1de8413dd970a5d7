-- The lines of rows leave what is good: a row fits its table as an INSERT of it does.
use Rattle.std.proofs.Common.{◌≡◌, ℕ, ◌+◌, ◌≤◌, Bool, true, false, not, cond, ◌||◌, nat_le, Option, Some, None, unwrap_or, Result, Ok, Err, IfOk, List, [], ◌∷◌, refl, ap, sym, ◌∙◌, subst, arith}
use Rattle.std.specs.Prelude.{slice_set, is_none}
use Rattle.std.proofs.lemmas.Bool.{or_parts}
use Rattle.hr_base.specs.Lists.{when}
use Rattle.hr_base.specs.Texts.{Text}
use Rattle.hr_rel.specs.declared.value.Value.{Value}
use Rattle.hr_rel.specs.declared.answer.RunError.{RunError}
use Rattle.hr_rel.specs.declared.answer.RunError.TheVariants.{Unfit}
use Rattle.hr_rel.specs.declared.catalog.Catalog.{Catalog}
use Rattle.hr_rel.specs.declared.stmt.Stmt.{Stmt}
use Rattle.hr_rel.specs.declared.stmt.Stmt.TheVariants as stmt
use Rattle.hr_rel.specs.Database.{Database, columns_of}
use Rattle.hr_rel.specs.Fit.{fits}
use Rattle.hr_rel.specs.Holds.{holds}
use Rattle.hr_meaning.specs.Value.{and_then}
use Rattle.hr_meaning.specs.Insert.{with_row}
use Rattle.hr_meaning.specs.Exec.{Outcome, exec, meaning, changed, failed}
use Rattle.hr_statement_laws.proofs.StillHolds.{keeps_fitting}
use Rattle.hr_parse.specs.declared.ast.Ast.{Ast}
use Rattle.hr_parse.specs.declared.ast.TupleAst.{TupleAst}
use Rattle.hr_problem.specs.declared.problem.Problem.{Problem}
use Rattle.hr_names.specs.Scope.{table_of}
use Rattle.hr_check.specs.Told.{problem_of}
use Rattle.hr_bind.specs.Bound as bound
use Rattle.hr_bind.specs.Bind.{bind_of, bound_of, unless}
use Rattle.hr_fitting.proofs.Fitting.{tree_fits}
use Rattle.hr_line.specs.declared.name.LineName.{LineName}
use Rattle.hr_line.specs.declared.name.LineName.TheVariants.{Short, TooLong}
use Rattle.hr_said.specs.declared.limits.TheConstants.{MAX_FIRST_ROWS}
use Rattle.hr_said.specs.declared.said.Said.{Said}
use Rattle.hr_said.specs.declared.error.InputKind.{InputKind}
use Rattle.hr_said.specs.declared.error.InputKind.TheVariants as kind
use Rattle.hr_said.specs.Limits.{may_stand, is_too_long}
use Rattle.hr_said.specs.Outcomes.{goes_on}
use Rattle.hr_said.specs.Outcomes as outcome
use Rattle.hr_said.specs.Tables.{short, table_named}
use Rattle.hr_reader.specs.Shaped.{rows_at}
use Rattle.hr_reader.specs.Rows.{row, row_refusal, insert_of, told_row, bound_row, row_of, tuple_in, told_rows, add_row, row_to}
use Rattle.hr_runnable.proofs.SoFar.{IsGood, AreHeld}
use Rattle.hr_runnable.proofs.Refusals.{passes, is_so, behind, done_good}
use Rattle.hr_runnable.proofs.HeadLemmas.{later_sized, later_choices}

-- ---- the INSERT of a row

-- the row that a tuple is in the table of a name
abbrev row_in_table : Catalog → Text → TupleAst → List Value
row_in_table catalog table tuple = bound.bound_row (columns_of catalog (table_of catalog table)) [] tuple

abbrev insert : Catalog → Text → TupleAst → Stmt
insert catalog table tuple = stmt.Insert (record { table = table_of catalog table; rows = row_in_table catalog table tuple ∷ [] })

bound_insert : (catalog : Catalog) (table : Text) (tuple : TupleAst) → bound_of catalog (insert_of table tuple) ≡ insert catalog table tuple
unfolding bound_of
bound_insert catalog table tuple = refl

told_insert : (catalog : Catalog) (a : Ast) (o : Option Problem) (row : List Value) → IfOk (unless o (bound_of catalog a)) (λ s. fits catalog s ≡ true) → told_row (unless o (bound_of catalog a)) ≡ Ok row
    → (fits catalog (bound_of catalog a) ≡ true) × (told_row (Ok (bound_of catalog a)) ≡ Ok row)
told_insert catalog a None row fit e = (fit, e)
told_insert catalog a (Some p) row fit e = cc

bound_fits : (catalog : Catalog) (a : Ast) (row : List Value) → bound_row catalog a ≡ Ok row → (fits catalog (bound_of catalog a) ≡ true) × (told_row (Ok (bound_of catalog a)) ≡ Ok row)
unfolding bound_row bind_of
bound_fits catalog a row e = told_insert catalog a (problem_of catalog a) row (tree_fits catalog a) e

-- what is read as a row is the row of an INSERT that fits
row_fits : (catalog : Catalog) (table : Text) (tuple : TupleAst) (row : List Value) → row_of catalog table tuple ≡ Ok row
    → (fits catalog (insert catalog table tuple) ≡ true) × (row_in_table catalog table tuple ≡ row)
row_fits catalog table tuple row e =
    let both = bound_fits catalog (insert_of table tuple) row e in
    let is = bound_insert catalog table tuple in
    (subst (λ (s : Stmt). fits catalog s ≡ true) is both.0, same (row_in_table catalog table tuple) (sym (ap (λ (s : Stmt). told_row (Ok s)) is) ∙ both.1))
  where
    same : (x : List Value) → ◌≡◌ {A = Result (List Value) InputKind} (Ok x) (Ok row) → x ≡ row
    same x f = cc

-- ---- a row more

module _ (catalog : Catalog) (rows : List (List (List Value))) (h : AreHeld catalog rows) where
  abbrev db : Database
  db = record { catalog = catalog; tables = rows }

  insert_held : (t : ℕ) (row : List Value) (new : List (List Value)) → fits catalog (stmt.Insert (record { table = t; rows = row ∷ [] })) ≡ true
      → with_row (columns_of catalog t) (rows_at rows t) row ≡ Ok new → holds catalog (slice_set rows t new) ≡ true
  insert_held t row new fit made =
      let s : Stmt = stmt.Insert (record { table = t; rows = row ∷ [] }) in
      let means : exec db s ≡ meaning db s = ap (λ (b : Bool). cond b (meaning db s) (failed db Unfit)) fit in
      let puts : meaning db s ≡ changed db t 1 (Ok new) = ap (λ (r : Result (List (List Value)) RunError). changed db t 1 (and_then r (λ next. Ok next))) made in
      subst (λ (o : Outcome). holds o.after.catalog o.after.tables ≡ true) (means ∙ puts) (keeps_fitting db s h.sound h.holds)

  row_more : (table : Text) (tuple : TupleAst) (row : List Value) (new : List (List Value)) → row_of catalog table tuple ≡ Ok row
      → with_row (columns_of catalog (table_of catalog table)) (rows_at rows (table_of catalog table)) row ≡ Ok new → AreHeld catalog (slice_set rows (table_of catalog table) new)
  row_more table tuple row new read made =
      let both = row_fits catalog table tuple row read in
      let t = table_of catalog table in
      let fit = subst (λ (r : List Value). fits catalog (stmt.Insert (record { table = t; rows = r ∷ [] })) ≡ true) both.1 both.0 in
      record { sound = h.sound; holds = insert_held t row new fit made }

-- ---- a line of a row

module _ (said : Said) (h : IsGood said) where
  told_good : (t : ℕ) (r : Result (List (List Value)) RunError) (next : Said) → 3 ≤ said.part → ((new : List (List Value)) → r ≡ Ok new → AreHeld said.catalog (slice_set said.rows t new))
      → told_rows said t r ≡ Ok next → IsGood next
  told_good t (Err d) next late held e = cc
  told_good t (Ok new) next late held e = done_good (record said { part = 5; rows = slice_set said.rows t new; row_count = said.row_count + 1 }) next now e
    where
      now : IsGood (record said { part = 5; rows = slice_set said.rows t new; row_count = said.row_count + 1 })
      now = record {
        replicas = later_sized said h 5 late;
        named = h.named;
        sessions = h.sessions;
        tables = held new refl;
        schedule = later_choices said h 5 (omega arith);
      }

  -- the row of a tuple, in the table of this name, which has this number
  tuple_good : (name : Text) (t : ℕ) (tuple : TupleAst) (next : Said) → 3 ≤ said.part → table_of said.catalog name ≡ t → (r : Result (List Value) InputKind) → row_of said.catalog name tuple ≡ r
      → goes_on r (λ row. add_row said t row) ≡ Ok next → IsGood next
  tuple_good name t tuple next late same (Err k) read e = cc
  tuple_good name t tuple next late same (Ok row) read e = told_good t (with_row (columns_of said.catalog t) (rows_at said.rows t) row) next late held e
    where
      held : (new : List (List Value)) → with_row (columns_of said.catalog t) (rows_at said.rows t) row ≡ Ok new → AreHeld said.catalog (slice_set said.rows t new)
      held new = subst (λ (n : ℕ). with_row (columns_of said.catalog n) (rows_at said.rows n) row ≡ Ok new → AreHeld said.catalog (slice_set said.rows n new)) same
          (row_more said.catalog said.rows h.tables name tuple row new read)

  read_good : (name : Text) (t : ℕ) (next : Said) → 3 ≤ said.part → table_of said.catalog name ≡ t → (r : Result TupleAst InputKind)
      → goes_on (goes_on r (λ tuple. row_of said.catalog name tuple)) (λ row. add_row said t row) ≡ Ok next → IsGood next
  read_good name t next late same (Err k) e = cc
  read_good name t next late same (Ok tuple) e = tuple_good name t tuple next late same (row_of said.catalog name tuple) refl e

  -- a name that isn't too long, and of which there is a table
  one_table : (o : Option ℕ) (d : ℕ) → is_none o ≡ false → unwrap_or o d ≡ unwrap_or o 0
  one_table None d e = cc
  one_table (Some t) d e = refl

  same_table : (table : LineName) → is_too_long table ≡ false → is_none (table_named said.catalog table) ≡ false → table_of said.catalog (short table) ≡ unwrap_or (table_named said.catalog table) 0
  same_table (Short name) e there = one_table (table_named said.catalog (Short name)) _ there
  same_table TooLong e there = cc

  stood_good : (table : LineName) (content : Text) (next : Said) (o : Option InputKind) → row_refusal said table ≡ o
      → goes_on (outcome.unless o (unwrap_or (table_named said.catalog table) 0)) (λ t. row_to said t table content) ≡ Ok next → IsGood next
  stood_good table content next (Some k) none e = cc
  stood_good table content next None none e =
      let unknown = when (is_none (table_named said.catalog table)) kind.Unknown in
      let full = nat_le MAX_FIRST_ROWS said.row_count in
      let place = passes (not (may_stand said.part 5)) kind.Form (when (is_too_long table || full) kind.Limit ∷ unknown ∷ []) none in
      let limit = passes (is_too_long table || full) kind.Limit (unknown ∷ []) place.1 in
      let there = passes (is_none (table_named said.catalog table)) kind.Unknown [] limit.1 in
      let late = behind said.part _ (is_so (may_stand said.part 5) place.0) in
      let same = same_table table (or_parts (is_too_long table) full limit.0).0 there.0 in
      read_good (short table) (unwrap_or (table_named said.catalog table) 0) next late same (tuple_in content) e

  pub row_good : (table : LineName) (content : Text) (next : Said) → row said table content ≡ Ok next → IsGood next
  row_good table content next e = stood_good table content next (row_refusal said table) refl e
