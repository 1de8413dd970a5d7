-- The databases of the worked statements.
use Rattle.std.specs.Prelude.{ℕ, zero, suc, ◌+◌, Bool, true, false, List, [], ◌∷◌, ◌++◌, codes}
use Rattle.hr_rel.specs.declared.value.Value.{Value}
use Rattle.hr_rel.specs.declared.value.Value.TheVariants.{Null}
use Rattle.hr_rel.specs.declared.catalog.Catalog.{Catalog}
use Rattle.hr_rel.specs.declared.catalog.ColumnDef.{ColumnDef}
use Rattle.hr_rel.specs.declared.catalog.ColKind.{ColKind}
use Rattle.hr_rel.specs.declared.catalog.ColKind.TheVariants.{Int, Text}
use Rattle.hr_rel.specs.Database.{Database}
use Rattle.hr_worked_statements.specs.Words.{int, minus, text}

abbrev pub column_of : List ℕ → ColKind → Bool → ColumnDef
column_of name kind nullable = record { name = name; kind = kind; nullable = nullable; indexed = false }

abbrev pub key : ColumnDef
key = column_of (codes "id") Int false

-- t (id int key, v int null, s text null), u (id int key, w int), p (id int key, a int null, b int)
abbrev pub catalog : Catalog
catalog = record {
  tables =
      record { name = codes "t"; columns = key ∷ column_of (codes "v") Int true ∷ column_of (codes "s") Text true ∷ [] }
      ∷ record { name = codes "u"; columns = key ∷ column_of (codes "w") Int false ∷ [] }
      ∷ record { name = codes "p"; columns = key ∷ column_of (codes "a") Int true ∷ column_of (codes "b") Int false ∷ [] }
      ∷ [];
}

abbrev pub database : List (List Value) → List (List Value) → List (List Value) → Database
database t u p = record { catalog = catalog; tables = t ∷ u ∷ p ∷ [] }

-- the database of most worked statements
abbrev pub main : Database
main = database
    ((int 1 ∷ int 10 ∷ text (codes "a") ∷ []) ∷ (int 2 ∷ Null ∷ text (codes "b") ∷ []) ∷ (int 3 ∷ int 10 ∷ Null ∷ []) ∷ (int 4 ∷ minus 5 ∷ text (codes "B") ∷ []) ∷ [])
    ((int 1 ∷ int 7 ∷ []) ∷ (int 3 ∷ int 10 ∷ []) ∷ (int 5 ∷ int 10 ∷ []) ∷ [])
    ((int 1 ∷ int 5 ∷ int 6 ∷ []) ∷ (int 2 ∷ Null ∷ int 8 ∷ []) ∷ [])

abbrev pub empty : Database
empty = database [] [] []

-- numbers at the ends of 64 bits; their sum passes the upper end and comes back
abbrev pub large : Database
large = database
    ((int 1 ∷ int 9223372036854775807 ∷ text (codes "p") ∷ []) ∷ (int 2 ∷ int 1 ∷ text (codes "p") ∷ []) ∷ (int 3 ∷ minus 9223372036854775808 ∷ text (codes "p") ∷ [])
    ∷ (int 4 ∷ minus 1 ∷ text (codes "q") ∷ []) ∷ [])
    []
    ((int 1 ∷ Null ∷ int 8 ∷ []) ∷ (int 2 ∷ int 5 ∷ int 6 ∷ []) ∷ [])

-- the sum passes the lower end and comes back; the least and the greatest key
abbrev pub below : Database
below = database
    ((int 1 ∷ minus 9223372036854775808 ∷ Null ∷ []) ∷ (int 2 ∷ minus 1 ∷ Null ∷ []) ∷ (int 3 ∷ int 9223372036854775807 ∷ Null ∷ []) ∷ (int 4 ∷ int 1 ∷ Null ∷ []) ∷ [])
    ((minus 9223372036854775808 ∷ int 0 ∷ []) ∷ (int 9223372036854775807 ∷ int 1 ∷ []) ∷ [])
    []

-- the third row overflows
abbrev pub third : Database
third = database ((int 1 ∷ int 0 ∷ Null ∷ []) ∷ (int 2 ∷ int 1 ∷ Null ∷ []) ∷ (int 3 ∷ int 9223372036854775807 ∷ Null ∷ []) ∷ (int 4 ∷ int 2 ∷ Null ∷ []) ∷ []) [] []

-- rows (i, i + more, NULL), as many as n, from this key on
abbrev pub rows_from : ℕ → ℕ → ℕ → List (List Value)
rows_from more i zero = []
rows_from more i (suc n) = (int i ∷ int (i + more) ∷ Null ∷ []) ∷ rows_from more (i + 1) n

-- 128 rows, and 129, each with a v of its own
abbrev pub n128 : Database
n128 = database (rows_from 0 1 128) [] []

abbrev pub n129 : Database
n129 = database (rows_from 0 1 129) [] []

-- 129 groups by v, of which the first has the two greatest keys
abbrev pub many : Database
many = database (rows_from 1 1 128 ++ (int 9223372036854775806 ∷ int 1 ∷ Null ∷ []) ∷ (int 9223372036854775807 ∷ int 1 ∷ Null ∷ []) ∷ []) [] []

-- rows (i, NULL, NULL)
abbrev pub bare_from : ℕ → ℕ → List (List Value)
bare_from i zero = []
bare_from i (suc n) = (int i ∷ Null ∷ Null ∷ []) ∷ bare_from (i + 1) n

-- 43 rows and 3, so 129 pairs
abbrev pub pairs : Database
pairs = database (bare_from 1 43) ((int 1 ∷ int 0 ∷ []) ∷ (int 2 ∷ int 0 ∷ []) ∷ (int 3 ∷ int 0 ∷ []) ∷ []) []
