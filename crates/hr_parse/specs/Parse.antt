-- What it means that a text is a statement or a tuple, and that a word is unexpected.
use Rattle.std.specs.Prelude.{◌≡◌, ℕ, ◌+◌, ◌*◌, List, [], ◌∷◌, ◌++◌, length, drop, map, Option, Some, None, Result, Ok, Err, ◌⊎◌}
use Rattle.std.specs.Option.{option_map}
use Rattle.hr_lex.specs.declared.token.LexError.{LexError}
use Rattle.hr_lex.specs.declared.token.LexError.TheVariants as l
use Rattle.hr_lex.specs.Tokens.{read_of}
use Rattle.hr_parse.specs.declared.ast.Ast.{Ast}
use Rattle.hr_parse.specs.declared.ast.TupleAst.{TupleAst}
use Rattle.hr_parse.specs.declared.parser.Stop.{Stop}
use Rattle.hr_parse.specs.declared.parser.Stop.TheVariants as stop
use Rattle.hr_parse.specs.declared.parsing.ParseError.{ParseError}
use Rattle.hr_parse.specs.declared.parsing.ParseError.TheVariants as e
use Rattle.hr_parse.specs.declared.word.Lexeme.{Lexeme}
use Rattle.hr_parse.specs.Lexemes.{lexemes}
use Rattle.hr_parse.specs.Readers.{Outcome, alone}
use Rattle.hr_parse.specs.Grammar.{IsStatement, IsTuple, statement, tuple}

-- ---- words and a language

-- these words can go on to what the language gives
abbrev pub Begins : {A : Type 0} → (List Lexeme → A → Type 0) → List Lexeme → Type 0
Begins {A} L words = (more : List Lexeme) × (a : A) × L (words ++ more) a

-- with this word behind these, nothing of the language can be
abbrev pub NoneWith : {A : Type 0} → (List Lexeme → A → Type 0) → List Lexeme → Lexeme → Type 0
NoneWith {A} L words next = (more : List Lexeme) (a : A) → L (words ++ next ∷ more) a → ⊥

-- The first word that nothing of the language has behind the words before it stands at this place.
abbrev pub UnexpectedAt : {A : Type 0} → (List Lexeme → A → Type 0) → ℕ → List Lexeme → Type 0
UnexpectedAt L place words = (front : List Lexeme) × (next : Lexeme) × (rest : List Lexeme)
    × (words ≡ front ++ next ∷ rest) × (place ≡ next.at) × Begins L front × NoneWith L front next

-- the words go on to something of the language, and are nothing of it
abbrev pub Unended : {A : Type 0} → (List Lexeme → A → Type 0) → List Lexeme → Type 0
Unended {A} L words = Begins L words × ((a : A) → L words a → ⊥)

-- Why a text is nothing of the language, by its words, the error of its tokens behind them, and its length. An
-- unexpected word stands before the error of the tokens, if there is one. That error is told where the words before
-- it can go on to something of the language.
abbrev pub Refused : {A : Type 0} → (List Lexeme → A → Type 0) → List Lexeme → Option LexError → ℕ → ParseError → Type 0
Refused L words error end (e.Unexpected place) = UnexpectedAt L place words ⊎ ((place ≡ end) × (error ≡ None) × Unended L words)
Refused L words error end (e.Lex first) = (error ≡ Some first) × Begins L words
Refused L words error end e.Memory = Unit {0}

-- ---- texts

-- the words of a text up to its first error, and that error
abbrev pub words : List ℕ → List Lexeme
words text = lexemes text (read_of text).tokens

abbrev pub error : List ℕ → Option LexError
error text = (read_of text).error

-- the text is a statement with this tree
abbrev pub IsTextOf : List ℕ → Ast → Type 0
IsTextOf text a = (error text ≡ None) × IsStatement (words text) a

-- why a text is no statement
abbrev pub TextRefused : List ℕ → ParseError → Type 0
TextRefused text = Refused IsStatement (words text) (error text) (length text)

-- ---- tuples within a text

-- a word of what stands behind a place, with its place in the whole text
abbrev pub moved : ℕ → Lexeme → Lexeme
moved from x = record { word = x.word; at = from + x.at }

abbrev pub moved_error : ℕ → LexError → LexError
moved_error from (l.BadChar place) = l.BadChar (from + place)
moved_error from (l.OpenText place) = l.OpenText (from + place)
moved_error from (l.NumberTooLarge place) = l.NumberTooLarge (from + place)
moved_error from (l.NameTooLong place) = l.NameTooLong (from + place)
moved_error from l.TooLong = l.TooLong
moved_error from l.Memory = l.Memory

-- the words of a text from a place on, and the first error there
abbrev pub words_from : ℕ → List ℕ → List Lexeme
words_from from text = map (moved from) (words (drop from text))

abbrev pub error_from : ℕ → List ℕ → Option LexError
error_from from text = option_map (moved_error from) (error (drop from text))

-- from this place on, the text is a tuple with this tree, and nothing else
abbrev pub IsTupleFrom : ℕ → List ℕ → TupleAst → Type 0
IsTupleFrom from text a = (error_from from text ≡ None) × IsTuple (words_from from text) a

-- why it isn't one
abbrev pub TupleRefused : ℕ → List ℕ → ParseError → Type 0
TupleRefused from text = Refused IsTuple (words_from from text) (error_from from text) (length text)

-- ---- what is read of a text

-- what is told where the words are read so up to a rest, with the first error of the tokens and the text's length
abbrev pub told : {A : Type 0} → Result A Stop → List Lexeme → Option LexError → ℕ → Result A ParseError
told (Ok a) rest None end = Ok a
told (Ok a) rest (Some first) end = Err (e.Lex first)
told (Err stop.Unexpected) (next ∷ rest) first end = Err (e.Unexpected next.at)
told (Err stop.Unexpected) [] None end = Err (e.Unexpected end)
told (Err stop.Unexpected) [] (Some first) end = Err (e.Lex first)
told (Err stop.Memory) rest first end = Err e.Memory

abbrev pub settled : {A : Type 0} → Outcome A → Option LexError → ℕ → Result A ParseError
settled (Ok read) first end = told (Ok read.0) read.1 first end
settled (Err rest) first end = told (Err stop.Unexpected) rest first end

-- how deep rules nest at most
abbrev pub depth_for : List Lexeme → ℕ
depth_for words = 4 * length words + 6

-- the tree of the statement that a text is, or why it is none
unfoldable pub parsed : List ℕ → Result Ast ParseError
parsed text = settled (alone (statement (depth_for (words text))).reads (words text)) (error text) (length text)

-- the tree of the tuple that a text is from a place on, or why it is none
unfoldable pub parsed_tuple : ℕ → List ℕ → Result TupleAst ParseError
parsed_tuple from text = settled (alone (tuple (depth_for (words_from from text))).reads (words_from from text)) (error_from from text) (length text)
