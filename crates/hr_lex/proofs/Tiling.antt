-- The tokens of a text tile it.
use Rattle.std.proofs.Common.{◌≡◌, ◌≤◌, ℕ, zero, suc, ◌+◌, ◌-◌, true, nat_lt, List, [], ◌∷◌, length, drop, Option, Some, None, Result, Ok, Err, refl, sym, ◌∙◌, ap, inl, inr, arith, drop-drop}
use Rattle.std.proofs.lemmas.Bool.{cases_Bool}
use Rattle.std.proofs.lemmas.Result.{IfOk-at_ok}
use Rattle.hr_lex.specs.declared.token.Token.{Token}
use Rattle.hr_lex.specs.declared.token.LexError.{LexError}
use Rattle.hr_lex.specs.Bytes.{is_blank}
use Rattle.hr_lex.specs.Tokens.{Tokens, Spans, OnlyBlanks, Tiles, TilesUpTo, all_tokens, reading, token_at, tokens_of, with_token}
use Rattle.hr_lex.proofs.Within.{if_holds, within_token}

-- what stands one place further
one_further : (text rest : List ℕ) (at b : ℕ) → drop at text ≡ b ∷ rest → drop (at + 1) text ≡ rest
one_further text rest at b here = sym (drop-drop 1 at text) ∙ ap (drop 1) here

-- ---- one blank more in front

blank_and_blanks : (text rest : List ℕ) (at to b : ℕ) → drop at text ≡ b ∷ rest → is_blank b ≡ true → at + 1 ≤ to → OnlyBlanks text (at + 1) to → OnlyBlanks text at to
blank_and_blanks text rest at to b here blank le blanks =
    let more : to - at ≡ suc (to - (at + 1)) = omega (arith, le) in
    rw (more, here) (blank, rw (one_further text rest at b here) at blanks)

blank_and_tiles : (text rest : List ℕ) (at to b : ℕ) (ts : List Token) → drop at text ≡ b ∷ rest → is_blank b ≡ true → Tiles text (at + 1) to ts → Tiles text at to ts
blank_and_tiles text rest at to b [] here blank h = (omega (arith, h.0), blank_and_blanks text rest at to b here blank h.0 h.1)
blank_and_tiles text rest at to b (t ∷ ts) here blank h = (omega (arith, h.0), blank_and_blanks text rest at t.from b here blank h.0 h.1, h.2, h.3)

blank_in_front : (text rest : List ℕ) (at b : ℕ) (ts : List Token) (error : Option LexError) → drop at text ≡ b ∷ rest → is_blank b ≡ true
    → TilesUpTo text (at + 1) ts error → TilesUpTo text at ts error
blank_in_front text rest at b ts None here blank h = blank_and_tiles text rest at (length text) b ts here blank h
blank_in_front text rest at b ts (Some error) here blank h = (h.0, h.1, blank_and_tiles text rest at h.0 b ts here blank h.2, h.3)

-- ---- a token in front

token_and_tiles : (text : List ℕ) (at end to : ℕ) (t : Token) (ts : List Token) → Spans at end t → Tiles text t.to to ts → Tiles text at to (t ∷ ts)
token_and_tiles text at end to t ts s h =
    let none : t.from - at ≡ 0 = omega (arith, s.0) in
    (omega (arith, s.0), rw none tt, omega (arith, s.0, s.1), h)

token_in_front : (text : List ℕ) (at end : ℕ) (t : Token) (ts : List Token) (error : Option LexError) → Spans at end t → TilesUpTo text t.to ts error → TilesUpTo text at (t ∷ ts) error
token_in_front text at end t ts None s h = token_and_tiles text at end _ t ts s h
token_in_front text at end t ts (Some error) s h = (h.0, h.1, token_and_tiles text at end h.0 t ts s h.2, h.3)

-- ---- reading

abbrev ReadTiles : List ℕ → ℕ → Tokens → Type 0
ReadTiles text at read = TilesUpTo text at read.tokens read.error

-- a token and what comes behind it; or the error there
with_token_tiles : (text rest : List ℕ) (at b : ℕ) (found : Result Token LexError) (behind : ℕ → Tokens)
    → drop at text ≡ b ∷ rest → at + length (b ∷ rest) ≡ length text → token_at at (b ∷ rest) ≡ found
    → ((taken : ℕ) → taken ≤ length rest → ReadTiles text (at + 1 + taken) (behind taken)) → ReadTiles text at (with_token found behind)
with_token_tiles text rest at b (Ok t) behind here fits read h =
    let span : Spans at (at + length (b ∷ rest)) t = IfOk-at_ok (Spans at (at + length (b ∷ rest))) read (within_token at (b ∷ rest) (omega arith)) in
    let place : at + 1 + (t.to - t.from - 1) ≡ t.to = omega (arith, span.0, span.1) in
    token_in_front text at _ t _ _ span (rw place at (h (t.to - t.from - 1) (omega (arith, span.0, span.1, span.2))))
with_token_tiles text rest at b (Err error) behind here fits read h =
    let none : at - at ≡ 0 = omega arith in
    (at, omega (arith, fits), (omega arith, rw none tt), rw here read)

pub reading_tiles : (text : List ℕ) (taken at : ℕ) (rest : List ℕ) → drop at text ≡ rest → at + length rest ≡ length text → taken ≤ length rest
    → ReadTiles text (at + taken) (reading taken at rest)
reading_tiles text zero at [] here fits le = let none : length text - (at + 0) ≡ 0 = omega (arith, fits) in (omega (arith, fits), rw none tt)
reading_tiles text (suc taken) at [] here fits le = absurd (omega (arith, le))
reading_tiles text zero at (b ∷ rest) here fits le =
    let place : at + 0 ≡ at = omega arith in
    let behind = λ (taken : ℕ) (few : taken ≤ length rest). reading_tiles text taken (at + 1) rest (one_further text rest at b here) (omega (arith, fits)) few in
    rw place (if_holds (ReadTiles text at) (is_blank b) _ _
    (λ blank. let next : at + 1 + 0 ≡ at + 1 = omega arith in blank_in_front text rest at b _ _ here blank (rw next at (behind zero (omega arith))))
    (λ other. with_token_tiles text rest at b _ _ here fits refl behind))
reading_tiles text (suc taken) at (b ∷ rest) here fits le =
    let place : at + 1 + taken ≡ at + suc taken = omega arith in
    rw place at (reading_tiles text taken (at + 1) rest (one_further text rest at b here) (omega (arith, fits)) (omega (arith, le)))

-- ---- the tokens of a text

pub as_read : (text : List ℕ) (read : Tokens) → read ≡ reading zero 0 text → ReadTiles text 0 read
as_read text read e = rw e (reading_tiles text zero 0 text refl (omega arith) (omega arith))

no_error : (text : List ℕ) (read : Tokens) (error : Option LexError) (all : List Token) → read.error ≡ error → ReadTiles text 0 read → all_tokens read ≡ Ok all → Tiles text 0 (length text) all
no_error text read None all e h is =
    let same : read.tokens ≡ all = let k = rw e at is in cc in
    rw same at (rw e at h)
no_error text read (Some error) all e h is = let k = rw e at is in absurd (cc)

pub tokens_tile : (text : List ℕ) (all : List Token) → tokens_of text ≡ Ok all → Tiles text 0 (length text) all
tokens_tile text all is =
    elim (cases_Bool (nat_lt 1024 (length text))) [
      | inl e ↦ let k = rw e at is in absurd (cc)
      | inr e ↦ no_error text (reading zero 0 text) _ all refl (as_read text _ refl) (rw e at is)
    ]
