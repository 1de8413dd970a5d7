-- The worked texts, computed.
use Rattle.std.proofs.Common.{◌≡◌, [], ◌∷◌, codes, Ok, Err, refl, rules}
use Rattle.hr_lex.specs.declared.token.Keyword.TheVariants as k
use Rattle.hr_lex.specs.declared.token.TokenKind.TheVariants as t
use Rattle.hr_lex.specs.declared.token.LexError.TheVariants as e
use Rattle.hr_lex.specs.Keywords.{keyword}
use Rattle.hr_lex.specs.Tokens.{token, token_at, tokens_of, Tiles}

-- the longest sign is taken
pub comparison : tokens_of (codes "a<=1") ≡ Ok (token t.Name 0 1 ∷ token t.LessEqual 1 3 ∷ token (t.Number 1) 3 4 ∷ [])
unfolding token_at keyword
comparison = refl

-- a keyword in either case, and a text with a doubled quote
pub quoted : tokens_of (codes "Null 'it''s'") ≡ Ok (token (t.Keyword k.Null) 0 4 ∷ token t.Text 5 12 ∷ [])
unfolding token_at keyword
quoted = refl

-- a quote that is doubled doesn't close
pub doubled_at_the_end : tokens_of (codes "'a''") ≡ Err (e.OpenText 0)
unfolding token_at keyword
doubled_at_the_end = refl

pub past_the_largest : tokens_of (codes "9223372036854775809") ≡ Err (e.NumberTooLarge 0)
unfolding token_at keyword
past_the_largest = refl

pub no_token : tokens_of (codes "a#") ≡ Err (e.BadChar 1)
unfolding token_at keyword
no_token = refl

-- blanks in front, between and behind
pub tiled : Tiles (codes " a <=1 ") 0 7 (token t.Name 1 2 ∷ token t.LessEqual 3 5 ∷ token (t.Number 1) 5 6 ∷ [])
tiled = search rules

-- tokens that leave a letter out don't tile
pub left_out : Tiles (codes "ab") 0 2 (token t.Name 0 1 ∷ []) → ⊥
left_out h = let blank = h.3.1.0 in cc
