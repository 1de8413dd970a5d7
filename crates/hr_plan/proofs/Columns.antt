-- A table of a sound catalog has few columns.
use Rattle.std.proofs.Common.{◌≡◌, ℕ, zero, suc, ◌≤◌, true, nat_le, length, List, [], ◌∷◌, arith}
use Rattle.std.specs.Prelude.{unwrap_or, slice_get}
use Rattle.std.specs.Option.{option_map}
use Rattle.std.specs.List.{list_all}
use Rattle.std.proofs.lemmas.Bool.{and_parts, leb-true}
use Rattle.hr_base.specs.declared.limits.TheConstants.{MAX_COLUMNS}
use Rattle.hr_rel.specs.declared.catalog.Catalog.{Catalog}
use Rattle.hr_rel.specs.declared.catalog.TableDef.{TableDef}
use Rattle.hr_rel.specs.Database.{columns_of}
use Rattle.hr_rel.specs.Holds.{IsSound}
use Rattle.hr_plan.specs.Paths.{first_columns}

few_at : (defs : List TableDef) (t : ℕ) → list_all (λ (d : TableDef). nat_le (length d.columns) MAX_COLUMNS) defs ≡ true
    → length (unwrap_or (option_map (λ (d : TableDef). d.columns) (slice_get defs t)) []) ≤ MAX_COLUMNS
few_at [] t h = omega arith
few_at (d ∷ defs) zero h = leb-true (length d.columns) MAX_COLUMNS (and_parts (nat_le (length d.columns) MAX_COLUMNS) (list_all (λ (d : TableDef). nat_le (length d.columns) MAX_COLUMNS) defs) h).0
few_at (d ∷ defs) (suc t) h = few_at defs t (and_parts (nat_le (length d.columns) MAX_COLUMNS) (list_all (λ (d : TableDef). nat_le (length d.columns) MAX_COLUMNS) defs) h).1

pub few_columns : (catalog : Catalog) (t : ℕ) → IsSound catalog → length (columns_of catalog t) ≤ MAX_COLUMNS
few_columns catalog t sound = few_at catalog.tables t sound.columns

pub few_first : (catalog : Catalog) (tables : List ℕ) → IsSound catalog → length (first_columns catalog tables) ≤ MAX_COLUMNS
few_first catalog [] sound = omega arith
few_first catalog (t ∷ ts) sound = few_columns catalog t sound
