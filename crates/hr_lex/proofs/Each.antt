-- Each token stands on bytes of the text.
use Rattle.std.proofs.Common.{◌≡◌, ◌≤◌, ℕ, ◌+◌, ◌-◌, Bool, true, false, nat_le, if◌then◌else◌, List, [], ◌∷◌, ◌++◌, length, drop, take, Option, Some, None, Result, Ok, Err, refl, ◌∙◌, ap, arith}
use Rattle.std.specs.List.{prefix_len, AllByRecursion}
use Rattle.std.proofs.lemmas.Bool.Decides.{nat_tests}
use Rattle.std.proofs.lemmas.List.Folds.{length-prefix_len}
use Rattle.hr_lex.specs.declared.quote.QuoteFault.{QuoteFault}
use Rattle.hr_lex.specs.declared.quote.QuoteFault.TheVariants as q
use Rattle.hr_lex.specs.declared.token.Keyword.{Keyword}
use Rattle.hr_lex.specs.declared.token.Token.{Token}
use Rattle.hr_lex.specs.declared.token.TokenKind.{TokenKind}
use Rattle.hr_lex.specs.declared.token.TokenKind.TheVariants as t
use Rattle.hr_lex.specs.declared.token.LexError.{LexError}
use Rattle.hr_lex.specs.declared.token.LexError.TheVariants as e
use Rattle.hr_lex.specs.Bytes.{is_digit, is_name_byte}
use Rattle.hr_lex.specs.Keywords.{keyword}
use Rattle.hr_lex.specs.Numbers.{number, fitting}
use Rattle.hr_lex.specs.Quotes.{closing}
use Rattle.hr_lex.specs.Signs.{long_sign, short_sign}
use Rattle.hr_lex.specs.Tokens.{token, word_of, number_of, quoted, sign_of, sign_at, token_at, Spans, IsNameText, IsTokenOf}
use Rattle.hr_lex.proofs.Runs.{run_passes}

pub all_more : {A : Type 0} (P : A → Type 0) (xs : List A) (x : A) → AllByRecursion P xs → P x → AllByRecursion P (xs ++ x ∷ [])
all_more P [] x all h = (h, tt)
all_more P (y ∷ ys) x all h = (all.0, all_more P ys x all.1 h)

-- a name's token has the bytes of a name
abbrev Named : List ℕ → ℕ → Result Token LexError → Type 0
Named bytes at result = (found : Token) → result ≡ Ok found → found.kind ≡ t.Name → IsNameText (take (found.to - at) bytes)

not_named : (bytes : List ℕ) (at : ℕ) (k : TokenKind) (from to : ℕ) → (k ≡ t.Name → ⊥) → Named bytes at (Ok (token k from to))
not_named bytes at k from to other found e named = let same : token k from to ≡ found = cc in absurd (other (ap (λ z. z.kind) same ∙ named))

named_word : (bytes : List ℕ) (at : ℕ) (v : Bool) → nat_le (prefix_len is_name_byte bytes) 32 ≡ v
    → Named bytes at (if v then Ok (token t.Name at (at + prefix_len is_name_byte bytes)) else Err (e.NameTooLong at))
named_word bytes at false h found e named = absurd (cc)
named_word bytes at true h found e named =
    let n : ℕ = prefix_len is_name_byte bytes in
    let same : token t.Name at (at + n) ≡ found = cc in
    let len : found.to - at ≡ n = let k : at + n ≡ found.to = ap (λ z. z.to) same in omega (arith, k) in
    let small : n ≤ 32 = grind (arith, nat_tests, h) in
    rw len (let k : length (take n bytes) ≡ n = length-prefix_len is_name_byte bytes in omega (arith, k, small), run_passes is_name_byte bytes)

named_keyword : (bytes : List ℕ) (at : ℕ) (o : Option Keyword) → Named bytes at (word_of at (prefix_len is_name_byte bytes) o)
named_keyword bytes at (Some k) = not_named bytes at (t.Keyword k) at (at + prefix_len is_name_byte bytes) (λ e. cc)
named_keyword bytes at None = named_word bytes at (nat_le (prefix_len is_name_byte bytes) 32) refl

named_number : (bytes : List ℕ) (at len : ℕ) (o : Option ℕ) → Named bytes at (number_of at len o)
named_number bytes at len (Some n) = not_named bytes at (t.Number n) at (at + len) (λ e. cc)
named_number bytes at len None = λ found e named. absurd (cc)

named_quoted : (bytes : List ℕ) (at : ℕ) (r : Result ℕ QuoteFault) → Named bytes at (quoted at r)
named_quoted bytes at (Ok end) = not_named bytes at t.Text at end (λ e. cc)
named_quoted bytes at (Err q.Open) = λ found e named. absurd (cc)
named_quoted bytes at (Err (q.BadByte p)) = λ found e named. absurd (cc)

either : (b : Bool) (k : TokenKind) (r : Option TokenKind) → (k ≡ t.Name → ⊥) → (r ≡ Some t.Name → ⊥) → (if b then Some k else r) ≡ Some t.Name → ⊥
either true k r h i e = h (cc)
either false k r h i e = i e

no_sign : (let r : Option TokenKind = None in r) ≡ Some t.Name → ⊥
no_sign e = cc

no_long : (a b : ℕ) → long_sign a b ≡ Some t.Name → ⊥
no_long a b = either _ t.NotEqual _ (λ e. cc) (either _ t.BangEqual _ (λ e. cc) (either _ t.LessEqual _ (λ e. cc) (either _ t.GreaterEqual _ (λ e. cc) no_sign)))

no_short : (a : ℕ) → short_sign a ≡ Some t.Name → ⊥
no_short a = either _ t.LeftParen _ (λ e. cc) (either _ t.RightParen _ (λ e. cc) (either _ t.Comma _ (λ e. cc) (either _ t.Dot _ (λ e. cc) (either _ t.Semicolon _ (λ e. cc)
    (either _ t.Star _ (λ e. cc) (either _ t.Plus _ (λ e. cc) (either _ t.Minus _ (λ e. cc) (either _ t.Equal _ (λ e. cc) (either _ t.Less _ (λ e. cc) (either _ t.Greater _ (λ e. cc) no_sign))))))))))

named_sign : (bytes : List ℕ) (at : ℕ) (long short : Option TokenKind) → (long ≡ Some t.Name → ⊥) → (short ≡ Some t.Name → ⊥) → Named bytes at (sign_of at long short)
named_sign bytes at (Some k) short h i = not_named bytes at k at (at + 2) (λ e. h (ap Some e))
named_sign bytes at None (Some k) h i = not_named bytes at k at (at + 1) (λ e. i (ap Some e))
named_sign bytes at None None h i = λ found e named. absurd (cc)

named_sign_at : (bytes rest : List ℕ) (at : ℕ) → Named bytes at (sign_at at rest)
named_sign_at bytes [] at = λ found e named. absurd (cc)
named_sign_at bytes (a ∷ []) at = named_sign bytes at None (short_sign a) no_sign (no_short a)
named_sign_at bytes (a ∷ b ∷ rest) at = named_sign bytes at (long_sign a b) (short_sign a) (no_long a b) (no_short a)

choose : (bytes : List ℕ) (at : ℕ) (b : Bool) (r s : Result Token LexError) → Named bytes at r → Named bytes at s → Named bytes at (if b then r else s)
choose bytes at true r s h i = h
choose bytes at false r s h i = i

pub named_token : (at : ℕ) (bytes : List ℕ) → Named bytes at (token_at at bytes)
unfolding token_at
named_token at bytes =
    choose bytes at _ _ _ (named_keyword bytes at (keyword (take (prefix_len is_name_byte bytes) bytes)))
    (choose bytes at _ _ _ (named_number bytes at (prefix_len is_digit bytes) (fitting (number (take (prefix_len is_digit bytes) bytes))))
    (choose bytes at _ _ _ (named_quoted bytes at (closing false (at + 1) (drop 1 bytes)))
    (named_sign_at bytes bytes at)))

pub token_holds : (text rest : List ℕ) (at : ℕ) (found : Token) → rest ≡ drop at text → at + length rest ≡ length text → token_at at rest ≡ Ok found → Spans at (at + length rest) found → IsTokenOf text found
token_holds text rest at found r l e s =
    (omega (arith, s.0, s.1), omega (arith, s.2, l), λ k. let m = named_token at rest found e k in rw (s.0, ← r) m)
