-- Texts, and what they are put together from.
use Rattle.std.specs.Prelude.{ℕ, ◌+◌, ◌==◌, if◌then◌else◌, List, [], ◌∷◌, ◌++◌}
use Rattle.std.specs.List.{flat_map}

-- a text, or a line of one, as its bytes
abbrev pub Text : Type 0
Text = List ℕ

-- a line, with the line feed that ends it
abbrev pub line : Text → Text
line text = text ++ 10 ∷ []

-- pieces of a text put together
abbrev pub joined : List Text → Text
joined [] = []
joined (piece ∷ pieces) = piece ++ joined pieces

-- the text of each item, one after another; the items are numbered from n
abbrev pub each_from : {X : Type 0} → (ℕ → X → Text) → ℕ → List X → Text
each_from text n [] = []
each_from text n (x ∷ xs) = text n x ++ each_from text (n + 1) xs

-- a byte within quotes: a quote is doubled
abbrev pub quoted_byte : ℕ → Text
quoted_byte b = if b == 39 then 39 ∷ 39 ∷ [] else b ∷ []

-- the bytes within quotes, each quote twice
abbrev pub doubled : Text → Text
doubled bytes = flat_map quoted_byte bytes
