-- When trees are equal apart from places, and how many parentheses a text has.
use Rattle.std.specs.Prelude.{◌≡◌, ℕ, suc, List, [], ◌∷◌, map, if◌then◌else◌}
use Rattle.hr_parse.specs.declared.ast.Ast.{Ast}
use Rattle.hr_parse.specs.declared.word.Mark.TheVariants as m
use Rattle.hr_parse.specs.declared.word.Sign.TheVariants as sg
use Rattle.hr_parse.specs.declared.word.Word.{Word}
use Rattle.hr_parse.specs.declared.word.Lexeme.{Lexeme}
use Rattle.hr_parse.specs.Words.{is_mark}
use Rattle.hr_parse.specs.Parse.{IsTextOf, words}
use Rattle.hr_print.specs.Places.{bare}

-- two trees that are equal apart from places
abbrev pub Alike : Ast → Ast → Type 0
Alike a b = bare a ≡ bare b

-- a tree that some text has
abbrev pub IsRead : Ast → Type 0
IsRead a = (text : List ℕ) × IsTextOf text a

-- what lexemes say, wherever they stand
abbrev pub says : List Lexeme → List Word
says lexemes = map (λ x. x.word) lexemes

-- how many parentheses open
abbrev pub opened : List Word → ℕ
opened [] = 0
opened (x ∷ rest) = if is_mark (m.Sign sg.LeftParen) x then suc (opened rest) else opened rest

-- how many parentheses open in a text, apart from those within quotes
abbrev pub parentheses : List ℕ → ℕ
parentheses text = opened (says (words text))
