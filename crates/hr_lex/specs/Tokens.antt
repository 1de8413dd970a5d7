-- The tokens of a text. It is read from the left: blanks are passed over, and the longest token is taken each time.
use Rattle.std.specs.Prelude.{◌≡◌, ◌<◌, ◌≤◌, ℕ, zero, suc, ◌+◌, ◌-◌, true, false, nat_le, nat_lt, List, [], ◌∷◌, ◌++◌, length, take, drop, slice_index, Option, Some, None, Result, Ok, Err, ◌==◌, if◌then◌else◌}
use Rattle.std.specs.List.{prefix_len, AllByRecursion}
use Rattle.hr_base.specs.declared.limits.TheConstants.{MAX_NAME_BYTES, MAX_SQL_BYTES}
use Rattle.hr_lex.specs.Bytes.{is_blank, is_digit, is_letter, is_name_byte}
use Rattle.hr_lex.specs.Keywords.{keyword}
use Rattle.hr_lex.specs.Numbers.{number, fitting}
use Rattle.hr_lex.specs.Quotes.{closing}
use Rattle.hr_lex.specs.Signs.{long_sign, short_sign}
use Rattle.hr_lex.specs.declared.token.Keyword.{Keyword}
use Rattle.hr_lex.specs.declared.token.Token.{Token}
use Rattle.hr_lex.specs.declared.token.TokenKind.{TokenKind}
use Rattle.hr_lex.specs.declared.token.TokenKind.TheVariants as t
use Rattle.hr_lex.specs.declared.token.LexError.{LexError}
use Rattle.hr_lex.specs.declared.token.LexError.TheVariants as e
use Rattle.hr_lex.specs.declared.reading.Reading.{Reading}
use Rattle.hr_lex.specs.declared.quote.QuoteFault.{QuoteFault}
use Rattle.hr_lex.specs.declared.quote.QuoteFault.TheVariants as q

abbrev pub token : TokenKind → ℕ → ℕ → Token
token kind from to = record { kind = kind; from = from; to = to }

-- a token that begins at a place, and ends at the end or before
abbrev pub Spans : ℕ → ℕ → Token → Type 0
Spans at end t = (t.from ≡ at) × (at < t.to) × (t.to ≤ end)

-- ---- the token at the front of a text, which stands at a place; or the error there

-- the longest run of letters and digits is a keyword, or a name that isn't too long
abbrev pub word_of : ℕ → ℕ → Option Keyword → Result Token LexError
word_of at len (Some k) = Ok (token (t.Keyword k) at (at + len))
word_of at len None = if nat_le len MAX_NAME_BYTES then Ok (token t.Name at (at + len)) else Err (e.NameTooLong at)

abbrev pub word_at : ℕ → List ℕ → Result Token LexError
word_at at text = let len = prefix_len is_name_byte text in word_of at len (keyword (take len text))

-- the longest run of digits is a number
abbrev pub number_of : ℕ → ℕ → Option ℕ → Result Token LexError
number_of at len (Some n) = Ok (token (t.Number n) at (at + len))
number_of at len None = Err (e.NumberTooLarge at)

abbrev pub number_at : ℕ → List ℕ → Result Token LexError
number_at at text = let len = prefix_len is_digit text in number_of at len (fitting (number (take len text)))

-- a text goes from its quote to the one that closes it
abbrev pub quoted : ℕ → Result ℕ QuoteFault → Result Token LexError
quoted at (Ok end) = Ok (token t.Text at end)
quoted at (Err q.Open) = Err (e.OpenText at)
quoted at (Err (q.BadByte place)) = Err (e.BadChar place)

-- the longer sign, where there is one
abbrev pub sign_of : ℕ → Option TokenKind → Option TokenKind → Result Token LexError
sign_of at (Some long) short = Ok (token long at (at + 2))
sign_of at None (Some short) = Ok (token short at (at + 1))
sign_of at None None = Err (e.BadChar at)

abbrev pub sign_at : ℕ → List ℕ → Result Token LexError
sign_at at [] = Err (e.BadChar at)
sign_at at (a ∷ []) = sign_of at None (short_sign a)
sign_at at (a ∷ b ∷ text) = sign_of at (long_sign a b) (short_sign a)

-- by the first byte
unfoldable pub token_at : ℕ → List ℕ → Result Token LexError
token_at at text =
    let first = slice_index text 0 in
    if is_letter first then word_at at text
    else (if is_digit first then number_at at text
    else (if first == 39 then quoted at (closing false (at + 1) (drop 1 text))
    else sign_at at text))

-- ---- all tokens of a text

-- the tokens up to the first error, and that error
pub record Tokens : Type 0 where
  pub tokens : List Token
  pub error : Option LexError

abbrev pub reading_of : Reading → Tokens
reading_of r = record { tokens = r.tokens.items; error = r.error }

-- tokens that stand before
abbrev pub with_front : List Token → Tokens → Tokens
with_front front read = record { tokens = front ++ read.tokens; error = read.error }

-- a token and what comes behind it, where that depends on how many more bytes the token takes
abbrev pub with_token : Result Token LexError → (ℕ → Tokens) → Tokens
with_token (Ok first) behind =
    let others = behind (first.to - first.from - 1) in
    record { tokens = first ∷ others.tokens; error = others.error }
with_token (Err error) behind = record { tokens = []; error = Some error }

-- Reading a text that stands at a place. The number says how many bytes at its front belong to the token before.
abbrev pub reading : ℕ → ℕ → List ℕ → Tokens
reading taken at [] = record { tokens = []; error = None }
reading zero at (b ∷ text) =
    if is_blank b then reading zero (at + 1) text
    else with_token (token_at at (b ∷ text)) (λ taken. reading taken (at + 1) text)
reading (suc taken) at (b ∷ text) = reading taken (at + 1) text

abbrev pub all_tokens : Tokens → Result (List Token) LexError
all_tokens read = elim read.error [ None ↦ Ok read.tokens | Some error ↦ Err error ]

-- the tokens of a text up to its first error; that the text is too long comes before all others
abbrev pub read_of : List ℕ → Tokens
read_of text = if nat_lt MAX_SQL_BYTES (length text) then record { tokens = []; error = Some e.TooLong } else reading zero 0 text

-- the tokens of a text, or its first error
abbrev pub tokens_of : List ℕ → Result (List Token) LexError
tokens_of text = all_tokens (read_of text)

-- ---- what holds of each token

-- the bytes that a token stands on
abbrev pub written : List ℕ → Token → List ℕ
written text token = take (token.to - token.from) (drop token.from text)

-- letters and digits, no more than a name may have
abbrev pub IsNameText : List ℕ → Type 0
IsNameText bytes = (length bytes ≤ MAX_NAME_BYTES) × AllByRecursion (λ b. is_name_byte b ≡ true) bytes

-- a token stands on bytes of the text, and a name's are those of a name
abbrev pub IsTokenOf : List ℕ → Token → Type 0
IsTokenOf text token = (token.from < token.to) × (token.to ≤ length text) × (token.kind ≡ t.Name → IsNameText (written text token))

-- ---- how the tokens stand in the text

-- nothing but blanks stands from a place up to another
abbrev pub OnlyBlanks : List ℕ → ℕ → ℕ → Type 0
OnlyBlanks text from to = AllByRecursion (λ b. is_blank b ≡ true) (take (to - from) (drop from text))

-- Tokens tile a text from a place up to another: blanks and then a token, again and again, and then blanks. So they
-- stand in order, none reaches into the next, and only blanks stand between them.
abbrev pub Tiles : List ℕ → ℕ → ℕ → List Token → Type 0
Tiles text at end [] = (at ≤ end) × OnlyBlanks text at end
Tiles text at end (t ∷ others) = (at ≤ t.from) × OnlyBlanks text at t.from × (t.from < t.to) × Tiles text t.to end others

-- Tokens tile a text from a place on, all of it, or up to the place where there is an error in place of a token.
abbrev pub TilesUpTo : List ℕ → ℕ → List Token → Option LexError → Type 0
TilesUpTo text at tokens None = Tiles text at (length text) tokens
TilesUpTo text at tokens (Some error) =
    (place : ℕ) × (place < length text) × Tiles text at place tokens × (token_at place (drop place text) ≡ Err error)
