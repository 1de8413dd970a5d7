-- Lines keep one list of rows for each table; and those without a row keep the rows, and so their order.
use Rattle.std.proofs.Common.{◌≡◌, ℕ, zero, suc, ◌+◌, Bool, true, false, Option, Some, None, Result, Ok, Err, List, [], ◌∷◌, ◌++◌, length, refl, ap, sym, subst, ◌∙◌, length-append}
use Rattle.std.specs.Prelude.{slice_get, slice_set}
use Rattle.std.specs.List.{list_all}
use Rattle.std.proofs.lemmas.Bool.{and_from, and_parts}
use Rattle.hr_base.specs.Texts.{Text}
use Rattle.hr_rel.specs.declared.catalog.Catalog.{Catalog}
use Rattle.hr_rel.specs.declared.catalog.TableDef.{TableDef}
use Rattle.hr_rel.specs.declared.catalog.ColumnDef.{ColumnDef}
use Rattle.hr_rel.specs.Holds.{is_ordered}
use Rattle.hr_line.specs.declared.script.ScriptForm.{ScriptForm}
use Rattle.hr_line.specs.declared.script.ScriptForm.TheVariants as script
use Rattle.hr_line.specs.Scripts.{script_form_of}
use Rattle.hr_forms.specs.Choices.{schedule_form_of}
use Rattle.hr_forms.specs.declared.choice.ScheduleForm.{ScheduleForm}
use Rattle.hr_forms.specs.declared.choice.ScheduleForm.TheVariants as line_form
use Rattle.hr_forms.specs.declared.line.LineForm.{LineForm}
use Rattle.hr_forms.specs.declared.line.LineForm.TheVariants as form
use Rattle.hr_said.specs.declared.error.InputKind.{InputKind}
use Rattle.hr_said.specs.declared.said.Said.{Said}
use Rattle.hr_said.specs.Outcomes.{unless, goes_on}
use Rattle.hr_said.specs.Schedule.{schedule_line, schedule_line_as}
use Rattle.hr_said.specs.Tables.{table_def, with_columns, with_index_in, column_in}
use Rattle.hr_reader.specs.Shaped.{HasTables, AreOrdered}
use Rattle.hr_sessions.specs.declared.statement.Read.{Read}
use Rattle.hr_sessions.specs.Sessions.{session_line, line_as, add_statement, read_statement, statement_in, statement_refusal}
use Rattle.hr_reader.specs.Reading.{form_says}
use Rattle.hr_reader.specs.Tables.{row_table}

-- what is kept of the rows
abbrev IsShaped : Bool → Said → Type 0
IsShaped known said = HasTables said × AreOrdered known said

module _ (known : Bool) where
  -- where a line isn't refused, what it says is kept
  unless_shaped : (refusal : Option InputKind) (x next : Said) → IsShaped known x → unless refusal x ≡ Ok next → IsShaped known next
  unless_shaped None x next h e = subst (IsShaped known) same h
    where
      same : x ≡ next
      same = cc
  unless_shaped (Some k) x next h e = cc

  done_shaped : (x next : Said) → IsShaped known x → ◌≡◌ {A = Result Said InputKind} (Ok x) (Ok next) → IsShaped known next
  done_shaped x next h e = subst (IsShaped known) same h
    where
      same : x ≡ next
      same = cc

  -- ---- a line of a session

  read_shaped : (said next : Said) (read : Result Read InputKind) → IsShaped known said → goes_on read (λ r. add_statement said r) ≡ Ok next → IsShaped known next
  read_shaped said next (Ok read) h e = done_shaped _ next h e
  read_shaped said next (Err k) h e = cc

  statement_shaped : (said next : Said) (line : Text) (refusal : Option InputKind) → IsShaped known said
      → goes_on (unless refusal said) (λ s. read_statement s line) ≡ Ok next → IsShaped known next
  statement_shaped said next line None h e = read_shaped said next (statement_in said.catalog line) h e
  statement_shaped said next line (Some k) h e = cc

  script_shaped : (said next : Said) (line : Text) (f : ScriptForm) → IsShaped known said → line_as said line f ≡ Ok next → IsShaped known next
  script_shaped said next line script.End h e = unless_shaped _ _ next h e
  script_shaped said next line script.Begin h e = unless_shaped _ _ next h e
  script_shaped said next line script.Commit h e = done_shaped _ next h e
  script_shaped said next line script.Rollback h e = done_shaped _ next h e
  script_shaped said next line script.Statement h e = statement_shaped said next line (statement_refusal said) h e

  -- ---- a line of a schedule

  schedule_shaped : (said next : Said) (f : Option ScheduleForm) → IsShaped known said → schedule_line_as said f ≡ Ok next → IsShaped known next
  schedule_shaped said next None h e = cc
  schedule_shaped said next (Some line_form.End) h e = done_shaped _ next h e
  schedule_shaped said next (Some (line_form.Choices forms)) h e = unless_shaped _ _ next h e

-- ---- tables and indexes

all_and_one : {X : Type 0} (p : X → Bool) (xs : List X) (x : X) → list_all p xs ≡ true → p x ≡ true → list_all p (xs ++ x ∷ []) ≡ true
all_and_one p [] x h e = and_from (p x) true e refl
all_and_one p (y ∷ ys) x h e =
    let parts = and_parts (p y) (list_all p ys) h in
    and_from (p y) (list_all p (ys ++ x ∷ [])) parts.0 (all_and_one p ys x parts.1 e)

same_length : {X : Type 0} (xs : List X) (i : ℕ) (x : X) → length (slice_set xs i x) ≡ length xs
same_length [] i x = refl
same_length (y ∷ ys) zero x = refl
same_length (y ∷ ys) (suc i) x = ap suc (same_length ys i x)

columns_length : (catalog : Catalog) (t : ℕ) (def : Option TableDef) (columns : List ColumnDef) → length (with_columns catalog t def columns).tables ≡ length catalog.tables
columns_length catalog t None columns = refl
columns_length catalog t (Some def) columns = same_length catalog.tables t _

index_length : (catalog : Catalog) (at : Option (ℕ × ℕ)) → length (with_index_in catalog at).tables ≡ length catalog.tables
index_length catalog None = refl
index_length catalog (Some at) = columns_length catalog at.0 (slice_get catalog.tables at.0) _

longer : {X : Type 0} (xs : List X) (x : X) → length (xs ++ x ∷ []) ≡ length xs + 1
longer xs x = length-append xs (x ∷ [])

-- ---- a line outside

other_shaped : (known : Bool) (said next : Said) (content : Text) (f : LineForm) → row_table f ≡ None → IsShaped known said → form_says said content f ≡ Ok next → IsShaped known next
other_shaped known said next content (form.Version n) none h e = unless_shaped known _ _ next h e
other_shaped known said next content (form.Liars n) none h e = unless_shaped known _ _ next h e
other_shaped known said next content (form.Replicas kinds) none h e = unless_shaped known _ _ next h e
other_shaped known said next content (form.Retries n) none h e = unless_shaped known _ _ next h e
other_shaped known said next content (form.Table name columns) none h e =
    let size : length (said.rows ++ [] ∷ []) ≡ length (said.catalog.tables ++ table_def name columns ∷ []) =
    longer said.rows [] ∙ ap (λ n. n + 1) h.0 ∙ sym (longer said.catalog.tables (table_def name columns)) in
    unless_shaped known _ _ next (size, (λ so. all_and_one is_ordered said.rows [] (h.1 so) refl)) e
other_shaped known said next content (form.Index name column) none h e =
    let size : length said.rows ≡ length (with_index_in said.catalog (column_in said.catalog name column)).tables =
    h.0 ∙ sym (index_length said.catalog (column_in said.catalog name column)) in
    unless_shaped known _ _ next (size, h.1) e
other_shaped known said next content (form.Row name) none h e = cc
other_shaped known said next content (form.Fault replica call act) none h e = unless_shaped known _ _ next h e
other_shaped known said next content (form.Suspect after) none h e = unless_shaped known _ _ next h e
other_shaped known said next content form.Session none h e = unless_shaped known _ _ next h e
other_shaped known said next content form.Schedule none h e = unless_shaped known _ _ next h e

-- ---- as the code asks for it

pub form_keeps_tables : (said next : Said) (content : Text) (f : LineForm) → row_table f ≡ None → form_says said content f ≡ Ok next → HasTables said → HasTables next
form_keeps_tables said next content f none e tables = (other_shaped false said next content f none (tables, (λ so. cc)) e).0

pub form_keeps_order : (known : Bool) (said next : Said) (content : Text) (f : LineForm) → row_table f ≡ None → form_says said content f ≡ Ok next → HasTables said → AreOrdered known said
    → AreOrdered known next
form_keeps_order known said next content f none e tables order = (other_shaped known said next content f none (tables, order) e).1

pub session_keeps_tables : (said next : Said) (line : Text) → session_line said line ≡ Ok next → HasTables said → HasTables next
session_keeps_tables said next line e tables = (script_shaped false said next line (script_form_of line) (tables, (λ so. cc)) e).0

pub session_keeps_order : (known : Bool) (said next : Said) (line : Text) → session_line said line ≡ Ok next → HasTables said → AreOrdered known said → AreOrdered known next
session_keeps_order known said next line e tables order = (script_shaped known said next line (script_form_of line) (tables, order) e).1

pub schedule_keeps_tables : (said next : Said) (line : Text) → schedule_line said line ≡ Ok next → HasTables said → HasTables next
schedule_keeps_tables said next line e tables = (schedule_shaped false said next (schedule_form_of line) (tables, (λ so. cc)) e).0

pub schedule_keeps_order : (known : Bool) (said next : Said) (line : Text) → schedule_line said line ≡ Ok next → HasTables said → AreOrdered known said → AreOrdered known next
schedule_keeps_order known said next line e tables order = (schedule_shaped known said next (schedule_form_of line) (tables, order) e).1
