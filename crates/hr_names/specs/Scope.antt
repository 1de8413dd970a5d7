-- What names mean in a statement.
use Rattle.std.specs.Prelude.{if◌then◌else◌, ℕ, suc, Bool, true, nat_eq, Option, Some, None, unwrap_or, Result, Ok, Err, List, [], ◌∷◌, length, map, slice_get, position}
use Rattle.std.specs.Option.{option_map, option_and_then}
use Rattle.std.specs.Cmp.Lexicographic.{pointwise}
use Rattle.hr_rel.specs.declared.catalog.Catalog.{Catalog}
use Rattle.hr_rel.specs.declared.catalog.TableDef.{TableDef}
use Rattle.hr_rel.specs.declared.catalog.ColumnDef.{ColumnDef}
use Rattle.hr_rel.specs.Database.{columns_of}
use Rattle.hr_parse.specs.declared.ast.SelectAst.{SelectAst}
use Rattle.hr_parse.specs.declared.ast.NameAt.{NameAt}
use Rattle.hr_parse.specs.declared.ast.ColumnAst.{ColumnAst}
use Rattle.hr_parse.specs.declared.ast.EntryAst.{EntryAst}
use Rattle.hr_parse.specs.declared.ast.JoinAst.{JoinAst}
use Rattle.hr_problem.specs.declared.problem.ProblemKind.{ProblemKind}
use Rattle.hr_problem.specs.declared.problem.ProblemKind.TheVariants as kind
use Rattle.hr_names.specs.declared.scope.Place.{Place}

-- names are equal by their bytes; letters are read as small ones
abbrev pub same_name : List ℕ → List ℕ → Bool
same_name a b = pointwise nat_eq a b

-- the number of the first table of this name; where there is none, the number of all tables, which is that of no table
abbrev pub table_of : Catalog → List ℕ → ℕ
table_of catalog name = unwrap_or (position (λ (t : TableDef). same_name t.name name) catalog.tables) (length catalog.tables)

-- the place of the first column of this name, if there is one
abbrev pub column_of : List ColumnDef → List ℕ → Option ℕ
column_of columns name = position (λ (d : ColumnDef). same_name d.name name) columns

-- A table entry of a statement: the name that columns may give for it, and its table's columns.
pub record Entry : Type 0 where
  pub name : List ℕ
  pub columns : List ColumnDef

abbrev pub Scope : Type 0
Scope = List Entry

-- ---- the entries of a statement

-- an entry is called by its second name, and by its table's name where it has none
abbrev pub called : EntryAst → NameAt
called e = unwrap_or e.alias e.table

abbrev pub joined : Option JoinAst → List EntryAst
joined None = []
joined (Some j) = j.entry ∷ []

-- a table that is called by its own name
abbrev pub alone : NameAt → List EntryAst
alone table = record { table = table; alias = None } ∷ []

abbrev pub select_entries : SelectAst → List EntryAst
select_entries s = s.first ∷ joined s.join

abbrev pub columns_in : Catalog → NameAt → List ColumnDef
columns_in catalog table = columns_of catalog (table_of catalog table.name)

abbrev pub entry_of : Catalog → EntryAst → Entry
entry_of catalog e = record { name = (called e).name; columns = columns_in catalog e.table }

abbrev pub scope_of : Catalog → List EntryAst → Scope
scope_of catalog all = map (entry_of catalog) all

-- ---- what a column's name means

-- the last name is the column's
abbrev pub own_name : ColumnAst → List ℕ
own_name c = (unwrap_or c.second c.first).name

-- a name before it says of which entry; without it each may be meant
abbrev pub may_be_in : Entry → ColumnAst → Bool
may_be_in entry c = elim c.second [ None ↦ true | Some own ↦ same_name entry.name c.first.name ]

-- the column of that name in an entry that may be meant, which has this number
abbrev pub found_in : ℕ → Entry → ColumnAst → Option Place
found_in number entry c = if may_be_in entry c then option_map (λ (at : ℕ). record { entry = number; column = at }) (column_of entry.columns (own_name c)) else None

abbrev pub and_found : Option Place → List Place → List Place
and_found None places = places
and_found (Some p) places = p ∷ places

-- the columns that may be meant in the entries from this number on
abbrev pub found_from : ℕ → Scope → ColumnAst → List Place
found_from number [] c = []
found_from number (entry ∷ scope) c = and_found (found_in number entry c) (found_from (suc number) scope c)

abbrev pub the_one : List Place → Result Place ProblemKind
the_one [] = Err kind.UnknownColumn
the_one (p ∷ []) = Ok p
the_one (p ∷ q ∷ places) = Err kind.Ambiguous

-- the one column that is meant
unfoldable pub meant : Scope → ColumnAst → Result Place ProblemKind
meant scope c = the_one (found_from 0 scope c)

-- the column at a place
abbrev pub definition_at : Scope → Place → Option ColumnDef
definition_at scope p = option_and_then (λ (e : Entry). slice_get e.columns p.column) (slice_get scope p.entry)
