-- Names and numbers among the words of a line.
use Rattle.std.specs.Prelude.{Bool, Option, Some, None, List, [], ◌∷◌}
use Rattle.std.specs.Option.{option_and_then, option_map, is_none}
use Rattle.hr_base.specs.Texts.{Text}
use Rattle.hr_line.specs.Words.{first, only}
use Rattle.hr_line.specs.Names.{name_of}
use Rattle.hr_line.specs.Numbers.{number_of, signed_of}
use Rattle.hr_line.specs.declared.name.LineName.{LineName}
use Rattle.hr_line.specs.declared.number.Number.{Number}
use Rattle.hr_line.specs.declared.number.Signed.{Signed}

-- the name that a word is, where there is a word
unfoldable pub named : Option Text → Option LineName
named word = option_and_then name_of word

-- the number that a word is, where there is a word
unfoldable pub number_in : Option Text → Option Number
number_in word = option_and_then number_of word

-- the same with a sign
unfoldable pub signed_in : Option Text → Option Signed
signed_in word = option_and_then signed_of word

-- the number that stands alone
abbrev pub one_number : List Text → Option Number
one_number words = number_in (only words)

-- no word more
abbrev pub is_over : List Text → Bool
is_over words = is_none (first words)

-- all of them, where each is there
abbrev pub all_there : {X : Type 0} → List (Option X) → Option (List X)
all_there [] = Some []
all_there (None ∷ others) = None
all_there (Some x ∷ others) = option_map (λ xs. x ∷ xs) (all_there others)
