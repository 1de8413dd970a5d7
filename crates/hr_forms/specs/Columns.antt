-- The columns of a table line.
use Rattle.std.specs.Prelude.{ℕ, ◌+◌, Bool, true, false, ◌&&◌, ◌==◌, nat_lt, if◌then◌else◌, List, [], ◌∷◌, length, drop, map, Option, Some, None, codes}
use Rattle.std.specs.Option.{option_and_then, option_map}
use Rattle.std.specs.Str.{bytes_eq}
use Rattle.hr_base.specs.Texts.{Text}
use Rattle.hr_rel.specs.declared.catalog.ColKind.{ColKind}
use Rattle.hr_rel.specs.declared.catalog.ColKind.TheVariants as kinds
use Rattle.hr_line.specs.Words.{first, others, only, pieces, words_of}
use Rattle.hr_line.specs.declared.name.LineName.{LineName}
use Rattle.hr_line.specs.declared.name.LineName.TheVariants.{Short, TooLong}
use Rattle.hr_forms.specs.Words.{named, is_over, all_there}
use Rattle.hr_forms.specs.declared.column.ColumnForm.{ColumnForm}

abbrev pub is_comma : ℕ → Bool
is_comma b = b == 44

-- what comes behind the byte at a place, where there is a byte
abbrev pub behind : ℕ → Text → Option Text
behind at text = if nat_lt at (length text) then Some (drop (at + 1) text) else None

-- there is a word, and it is this one
abbrev pub says : Option Text → Text → Bool
says None text = false
says (Some word) text = bytes_eq word text

abbrev pub kind_word : Option Text → Option ColKind
kind_word word =
    if says word (codes "int") then Some kinds.Int
    else (if says word (codes "text") then Some kinds.Text
    else None)

-- nothing, or `null`
abbrev pub null_word : List Text → Option Bool
null_word [] = Some false
null_word (word ∷ words) = if bytes_eq word (codes "null") && is_over words then Some true else None

abbrev pub with_null : Option ColKind → Option Bool → Option (ColKind × Bool)
with_null (Some kind) (Some nullable) = Some (kind, nullable)
with_null _ _ = None

-- a column's kind, and whether NULL may stand in it
abbrev pub kind_of : List Text → Option (ColKind × Bool)
kind_of words = with_null (kind_word (first words)) (null_word (others words))

-- a key's: it is `int key`
abbrev pub key_kind : List Text → Option (ColKind × Bool)
key_kind words = if says (first words) (codes "int") && says (only (others words)) (codes "key") then Some (kinds.Int, false) else None

-- a name, or the empty one where it is too long
abbrev pub short : LineName → Text
short (Short name) = name
short TooLong = []

abbrev pub is_too_long : LineName → Bool
is_too_long (Short name) = false
is_too_long TooLong = true

abbrev pub column : Option LineName → Option (ColKind × Bool) → Option ColumnForm
column (Some name) (Some kind) = Some (record { name = short name; is_too_long = is_too_long name; kind = kind.0; nullable = kind.1 })
column _ _ = None

-- `NAME KIND` or `NAME KIND null`
abbrev pub column_of : Text → Option ColumnForm
column_of piece = column (named (first (words_of piece))) (kind_of (others (words_of piece)))

-- `NAME int key`
abbrev pub key_piece : Text → Option ColumnForm
key_piece piece = column (named (first (words_of piece))) (key_kind (others (words_of piece)))

abbrev pub key_column : Option Text → Option ColumnForm
key_column piece = option_and_then key_piece piece

-- the key, and the columns that the pieces behind it are
abbrev pub with_others : ColumnForm → List Text → Option (List ColumnForm)
with_others key rest = option_map (λ columns. key ∷ columns) (all_there (map column_of rest))

-- the columns between the parentheses
unfoldable pub columns_of : Text → Option (List ColumnForm)
columns_of text = option_and_then (λ key. with_others key (others (pieces is_comma text))) (key_column (first (pieces is_comma text)))
