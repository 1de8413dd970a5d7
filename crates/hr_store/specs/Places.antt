-- Where rows stand.
use Rattle.std.specs.Prelude.{ℕ, ℤ, Bool, false, Option, Some, None, List}
use Rattle.std.specs.Option.{option_map}
use Rattle.std.specs.Ordering.{nat_cmp, int_cmp, ordering_then}
use Rattle.std.specs.declared.cmp.Ordering.{Ordering}
use Rattle.std.specs.BTreeMap.{is_at}
use Rattle.hr_rel.specs.declared.value.Value.{Value}
use Rattle.hr_rel.specs.Database.{key_of}
use Rattle.hr_store.specs.declared.place.Place.{Place}

-- places in order: by table, and then by key
abbrev pub place_cmp : Place → Place → Ordering
place_cmp a b = ordering_then (nat_cmp a.table b.table) (int_cmp a.key b.key)

-- the place of a key in a table
abbrev pub place_of : ℕ → ℤ → Place
place_of table key = record { table = table; key = key }

-- the place of a row in a table, if the row has a key
abbrev pub row_place : ℕ → List Value → Option Place
row_place table row = option_map (place_of table) (key_of row)

-- whether a place is this one
abbrev pub is_place : Option Place → Place → Bool
is_place None q = false
is_place (Some place) q = is_at (place_cmp place) q

-- whether a row of this table belongs at the place
abbrev pub belongs_at : ℕ → Place → List Value → Bool
belongs_at table q row = is_place (row_place table row) q
