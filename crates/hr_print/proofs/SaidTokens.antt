-- A token that stands on bytes says its word, wherever they stand. What an end is, for the longest run of a class.
use Rattle.std.proofs.Common.{◌≡◌, ℕ, zero, suc, ◌+◌, ◌-◌, Bool, true, false, not, ◌||◌, ◌==◌, List, [], ◌∷◌, ◌++◌, length, drop, Ok, refl, sym, ◌∙◌, ap, arith}
use Rattle.std.specs.List.{prefix_len, list_all}
use Rattle.std.proofs.lemmas.Bool.{and_parts, or_parts}
use Rattle.std.proofs.lemmas.List.{length-append, take_at, drop_at}
use Rattle.hr_lex.specs.Bytes.{is_blank, is_letter, is_digit, is_name_byte}
use Rattle.hr_lex.specs.Tokens.{Spans, token, token_at, reading, with_front, written}
use Rattle.hr_lex.specs.declared.token.Token.{Token}
use Rattle.hr_lex.specs.declared.token.TokenKind.{TokenKind}
use Rattle.hr_lex.proofs.Spans.{one_more}
use Rattle.hr_parse.specs.Lexemes.{word_of}
use Rattle.hr_print.proofs.Spelled.{Read, is_apart, Ends}

-- ---- one token

-- the bytes that the token between front and rest stands on
written_between : (k : TokenKind) (front bytes rest : List ℕ) → written (front ++ (bytes ++ rest)) (token k (length front) (length front + length bytes)) ≡ bytes
written_between k front bytes rest =
    let n : length front + length bytes - length front ≡ length bytes = omega arith in
    rw (n, drop_at front (bytes ++ rest) (length front) refl) (take_at bytes rest (length bytes) refl)

-- Bytes that begin with no blank, and at which a token is found that takes them all, say the word of that token.
pub read_token : (k : TokenKind) (front : List ℕ) (b : ℕ) (bytes rest : List ℕ) → is_blank b ≡ false
    → token_at (length front) (b ∷ (bytes ++ rest)) ≡ Ok (token k (length front) (length front + length (b ∷ bytes)))
    → Read front (b ∷ bytes) rest (word_of (b ∷ bytes) k ∷ [])
read_token k front b bytes rest unblank found =
    let at : ℕ = length front in
    let t : Token = token k at (at + length (b ∷ bytes)) in
    let all : List ℕ = b ∷ (bytes ++ rest) in
    let spans : Spans at (at + length all) t = (refl, omega arith, omega (arith, length-append bytes rest)) in
    let n : at + length (b ∷ bytes) - at ≡ length (b ∷ bytes) = omega arith in
    let behind : drop (at + length (b ∷ bytes) - at) all ≡ rest = rw n (drop_at (b ∷ bytes) rest (length (b ∷ bytes)) refl) in
    record {
      tokens = t ∷ [];
      reads = sym (one_more [] at all t (reading zero at all) (omega arith) unblank found spans refl)
          ∙ ap (λ z. with_front (t ∷ []) (reading zero (at + length (b ∷ bytes)) z)) behind;
      says = ap (λ z. word_of z k ∷ []) (written_between k front (b ∷ bytes) rest);
    }

-- ---- ends

-- none of four tests holds, where it isn't so that one of them does
none_of : (x y z v : Bool) → not (x || y || z || v) ≡ true → (x ≡ false) × (y ≡ false) × (z ≡ false) × (v ≡ false)
none_of true y z v h = absurd (cc)
none_of false true z v h = absurd (cc)
none_of false false true v h = absurd (cc)
none_of false false false true h = absurd (cc)
none_of false false false false h = (refl, refl, refl, refl)

-- a byte apart is in no name, is no quote, and ends no sign of two bytes
pub apart : (b : ℕ) → is_apart b ≡ true → (is_name_byte b ≡ false) × (b == 39 ≡ false) × (b == 61 ≡ false) × (b == 62 ≡ false)
apart b h = none_of (is_name_byte b) (b == 39) (b == 61) (b == 62) h

-- a byte outside a class begins no run of it
none_ahead : (p : ℕ → Bool) (b : ℕ) (rest : List ℕ) → p b ≡ false → prefix_len p (b ∷ rest) ≡ 0
none_ahead p b rest e = rw e refl

-- no name goes on behind an end
pub no_name_ahead : (rest : List ℕ) → Ends rest → prefix_len is_name_byte rest ≡ 0
no_name_ahead [] h = refl
no_name_ahead (b ∷ rest) h = none_ahead is_name_byte b rest (apart b h).0

-- and no number
pub no_digit_ahead : (rest : List ℕ) → Ends rest → prefix_len is_digit rest ≡ 0
no_digit_ahead [] h = refl
no_digit_ahead (b ∷ rest) h = none_ahead is_digit b rest (or_parts (is_letter b) (is_digit b) (apart b h).0).1

-- bytes of a class are the longest run of it, where the rest doesn't go on with it
pub whole_run : (p : ℕ → Bool) (bytes rest : List ℕ) → list_all p bytes ≡ true → prefix_len p rest ≡ 0 → prefix_len p (bytes ++ rest) ≡ length bytes
whole_run p [] rest all none = none
whole_run p (b ∷ bytes) rest all none =
    let parts = and_parts (p b) (list_all p bytes) all in
    let more : 1 + length bytes ≡ suc (length bytes) = omega arith in
    rw (parts.0, whole_run p bytes rest parts.1 none) more
