-- Which rows or pairs a SELECT keeps of some.
use Rattle.std.specs.Prelude.{Bool, ◌&&◌, List, [], ◌∷◌, filter}
use Rattle.hr_rel.specs.declared.value.Value.{Value}
use Rattle.hr_rel.specs.declared.stmt.SelectStmt.{SelectStmt}
use Rattle.hr_meaning.specs.Truth.{Tuple, is_kept}

abbrev pub keeps : SelectStmt → Tuple → Bool
keeps s t = is_kept s.on t && is_kept s.filter t

abbrev pub kept_of : SelectStmt → List Tuple → List Tuple
kept_of s ts = filter (keeps s) ts

-- a row alone
abbrev pub single : List Value → Tuple
single row = row ∷ []

-- a row before others
abbrev pub with_first : List Value → Tuple → Tuple
with_first row t = row ∷ t
