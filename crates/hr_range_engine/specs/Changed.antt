-- What a statement has changed, where `seen k` is the row that its transaction saw at a key.
use Rattle.std.specs.Prelude.{ℤ, Bool, false, not, if◌then◌else◌, Option, Some, None, List, filter}
use Rattle.std.specs.List.{list_any}
use Rattle.std.specs.Ordering.{is_eq}
use Rattle.hr_rel.specs.declared.value.Value.{Value}
use Rattle.hr_rel.specs.Database.{key_of}
use Rattle.hr_meaning.specs.Order.{row_cmp}
use Rattle.hr_meaning.specs.Insert.{has_key}

-- whether there is this row
abbrev pub is_row : List Value → Option (List Value) → Bool
is_row row None = false
is_row row (Some other) = is_eq (row_cmp row other)

abbrev pub seen_at : (ℤ → Option (List Value)) → Option ℤ → Option (List Value)
seen_at seen None = None
seen_at seen (Some key) = seen key

-- whether a row is the one that was seen at its key
abbrev pub is_seen : (ℤ → Option (List Value)) → List Value → Bool
is_seen seen row = is_row row (seen_at seen (key_of row))

-- the rows that weren't seen so
abbrev pub new_rows : (ℤ → Option (List Value)) → List (List Value) → List (List Value)
new_rows seen rows = filter (λ row. not (is_seen seen row)) rows

-- the keys that no row has
abbrev pub gone_keys : List (List Value) → List ℤ → List ℤ
gone_keys rows keys = filter (λ key. not (list_any (has_key key) rows)) keys

-- what has to be put at a key, by what was seen there and what is left there
abbrev pub new_at : Option (List Value) → Option (List Value) → Option (List Value)
new_at seen None = None
new_at seen (Some row) = if is_row row seen then None else Some row
