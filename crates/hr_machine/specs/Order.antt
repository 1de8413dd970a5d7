-- What a machine keeps of its rows.
use Rattle.std.specs.Prelude.{◌≡◌, Bool, true, List, length}
use Rattle.hr_rel.specs.declared.value.Value.{Value}
use Rattle.hr_rel.specs.declared.catalog.Catalog.{Catalog}
use Rattle.hr_rel.specs.Holds.{IsOrdered}

-- one list of rows for each table, and where it is said that they are in order, they are
pub record IsShaped (catalog : Catalog) (tables : List (List (List Value))) (said : Bool) : Type 0 where
  pub size : length tables ≡ length catalog.tables
  pub order : said ≡ true → IsOrdered record { catalog = catalog; tables = tables }
