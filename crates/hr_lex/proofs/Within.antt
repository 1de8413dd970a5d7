-- A token begins where it is read, and ends within the text.
use Rattle.std.proofs.Common.{◌≡◌, ◌≤◌, ◌<◌, ℕ, ◌+◌, Bool, true, false, nat_le, if◌then◌else◌, ◌==◌, List, [], ◌∷◌, length, drop, get_or, Option, Some, None, IsSome, Result, Ok, Err, IfOk, refl, arith}
use Rattle.std.specs.List.{prefix_len}
use Rattle.std.proofs.lemmas.List.Sums.{prefix_len-le-length}
use Rattle.std.proofs.lemmas.Result.{IfOk-weaker}
use Rattle.hr_lex.specs.declared.quote.QuoteFault.{QuoteFault}
use Rattle.hr_lex.specs.declared.quote.QuoteFault.TheVariants as q
use Rattle.hr_lex.specs.declared.token.Keyword.{Keyword}
use Rattle.hr_lex.specs.declared.token.Token.{Token}
use Rattle.hr_lex.specs.declared.token.TokenKind.{TokenKind}
use Rattle.hr_lex.specs.declared.token.LexError.{LexError}
use Rattle.hr_lex.specs.Bytes.{is_letter, is_digit, is_name_byte}
use Rattle.hr_base.specs.Bytes.{is_printable}
use Rattle.hr_lex.specs.Quotes.{closing}
use Rattle.hr_lex.specs.Tokens.{word_of, number_of, quoted, sign_of, sign_at, token_at, Spans}

pub if_holds : {A : Type 0} (P : A → Type 0) (b : Bool) (r s : A) → (b ≡ true → P r) → (b ≡ false → P s) → P (if b then r else s)
if_holds P true r s h i = h refl
if_holds P false r s h i = i refl

-- a run whose first byte is of the class has a byte
some_run : (p : ℕ → Bool) (bytes : List ℕ) → 0 < length bytes → p (get_or bytes 0 0) ≡ true → 0 < prefix_len p bytes
some_run p [] some first = absurd (omega (arith, some))
some_run p (b ∷ bytes) some first = rw first (omega arith)

within_word : (at len end : ℕ) (word : Option Keyword) → 0 < len → at + len ≤ end → IfOk (word_of at len word) (Spans at end)
within_word at len end (Some k) some fits = (refl, omega arith, fits)
within_word at len end None some fits = if_holds (λ r. IfOk r (Spans at end)) (nat_le len 32) _ _ (λ e. (refl, omega arith, fits)) (λ e. tt)

within_number : (at len end : ℕ) (number : Option ℕ) → 0 < len → at + len ≤ end → IfOk (number_of at len number) (Spans at end)
within_number at len end (Some n) some fits = (refl, omega arith, fits)
within_number at len end None some fits = tt

-- a quote closes behind the place where its text begins
abbrev Closes : ℕ → List ℕ → Result ℕ QuoteFault → Type 0
Closes at bytes result = IfOk result (λ to. (at ≤ to) × (to ≤ at + length bytes))

closes_further : (at b : ℕ) (bytes : List ℕ) (r : Result ℕ QuoteFault) → Closes (at + 1) bytes r → Closes at (b ∷ bytes) r
closes_further at b bytes r = IfOk-weaker r _ _ (λ to h. (omega (arith, h.0), omega (arith, h.1)))

closes : (doubled : Bool) (at : ℕ) (bytes : List ℕ) → Closes at bytes (closing doubled at bytes)
closes true at [] = (omega arith, omega arith)
closes false at [] = tt
closes true at (b ∷ bytes) =
    if_holds (Closes at (b ∷ bytes)) (b == 39) _ _ (λ e. closes_further at b bytes _ (closes false (at + 1) bytes)) (λ e. (omega arith, omega arith))
closes false at (b ∷ bytes) =
    if_holds (Closes at (b ∷ bytes)) (b == 39) _ _ (λ e. closes_further at b bytes _ (closes true (at + 1) bytes))
    (λ e. if_holds (Closes at (b ∷ bytes)) (is_printable b) _ _ (λ f. closes_further at b bytes _ (closes false (at + 1) bytes)) (λ f. tt))

within_quoted : (at end : ℕ) (r : Result ℕ QuoteFault) → IfOk r (λ to. (at + 1 ≤ to) × (to ≤ end)) → IfOk (quoted at r) (Spans at end)
within_quoted at end (Ok to) h = (refl, omega (arith, h.0), h.1)
within_quoted at end (Err q.Open) h = tt
within_quoted at end (Err (q.BadByte place)) h = tt

within_sign : (at end : ℕ) (long short : Option TokenKind) → (IsSome long → at + 2 ≤ end) → at + 1 ≤ end → IfOk (sign_of at long short) (Spans at end)
within_sign at end (Some k) short two one = (refl, omega arith, two refl)
within_sign at end None (Some k) two one = (refl, omega arith, one)
within_sign at end None None two one = tt

within_sign_at : (at : ℕ) (bytes : List ℕ) → IfOk (sign_at at bytes) (Spans at (at + length bytes))
within_sign_at at [] = tt
within_sign_at at (a ∷ []) = within_sign at _ None _ (λ some. absurd (cc)) (omega arith)
within_sign_at at (a ∷ b ∷ bytes) = within_sign at _ _ _ (λ some. omega arith) (omega arith)

letter_goes_on : (b : ℕ) → is_letter b ≡ true → is_name_byte b ≡ true
letter_goes_on b e = rw e

behind_quote : (at : ℕ) (bytes : List ℕ) → 0 < length bytes → IfOk (closing false (at + 1) (drop 1 bytes)) (λ to. (at + 1 ≤ to) × (to ≤ at + length bytes))
behind_quote at [] some = absurd (omega (arith, some))
behind_quote at (b ∷ bytes) some = let e : at + 1 + length bytes ≡ at + length (b ∷ bytes) = omega arith in rw e at (closes false (at + 1) bytes)

-- by the first byte
pub within_token : (at : ℕ) (bytes : List ℕ) → 0 < length bytes → IfOk (token_at at bytes) (Spans at (at + length bytes))
unfolding token_at
within_token at bytes some =
    let first : ℕ = get_or bytes 0 0 in
    let end : ℕ = at + length bytes in
    let P = λ (r : Result Token LexError). IfOk r (Spans at end) in
    if_holds P (is_letter first) _ _ (λ e. within_word at _ end _ (some_run is_name_byte bytes some (letter_goes_on first e)) (omega (arith, prefix_len-le-length is_name_byte bytes)))
    (λ e. if_holds P (is_digit first) _ _ (λ f. within_number at _ end _ (some_run is_digit bytes some f) (omega (arith, prefix_len-le-length is_digit bytes)))
    (λ f. if_holds P (first == 39) _ _ (λ g. within_quoted at end _ (behind_quote at bytes some))
    (λ g. within_sign_at at bytes)))
