-- What decimal numbers say.
use Rattle.std.proofs.Common.{◌≡◌, ◌≤◌, ◌<◌, ℕ, ◌+◌, ◌-◌, ◌*◌, ◌/◌, ◌%◌, ◌^◌, true, false, nat_le, List, [], ◌∷◌, ◌++◌, length, take, Some, refl, ◌∙◌, ap, arith}
use Rattle.std.specs.Fmt.{decimal}
use Rattle.std.specs.List.{prefix_len, list_all}
use Rattle.std.proofs.lemmas.Bool.{and_from, and_parts, cond-true, cond-false, le-leb}
use Rattle.std.proofs.lemmas.Bool.Decides.{nat_tests}
use Rattle.std.proofs.lemmas.Fmt.{decimal_by_steps}
use Rattle.std.proofs.lemmas.List.{length-append, take_at}
use Rattle.std.proofs.lemmas.List.Folds.{list_all-append}
use Rattle.hr_lex.specs.Bytes.{is_blank, is_letter, is_digit}
use Rattle.hr_lex.specs.Numbers.{with_digit, number_from, number, fitting}
use Rattle.hr_lex.specs.Tokens.{token_at, number_at, number_of}
use Rattle.hr_lex.specs.declared.token.TokenKind.TheVariants as t
use Rattle.hr_parse.specs.declared.word.Word.TheVariants as w
use Rattle.hr_print.proofs.Spelled.{Says, Ends}
use Rattle.hr_print.proofs.SaidTokens.{read_token, no_digit_ahead, whole_run}

-- the digits write the number
record Writes (n : ℕ) (digits : List ℕ) : Type 0 where
  some : 1 ≤ length digits
  all : list_all is_digit digits ≡ true
  value : number digits ≡ n

-- ---- what `decimal` writes

-- the byte of a digit
is_digit_of : (d : ℕ) → d < 10 → is_digit (48 + d) ≡ true
is_digit_of d h = grind (arith, nat_tests)

one_digit : (n : ℕ) → n < 10 → Writes n ((48 + n) ∷ [])
one_digit n h = record { some = omega arith; all = and_from (is_digit (48 + n)) true (is_digit_of n h) refl; value = omega arith }

number_from-push : (digits : List ℕ) (n d : ℕ) → number_from n (digits ++ d ∷ []) ≡ with_digit (number_from n digits) d
number_from-push [] n d = refl
number_from-push (e ∷ digits) n d = number_from-push digits (with_digit n e) d

last_digit : (n : ℕ) → n / 10 * 10 + ((48 + n % 10) - 48) ≡ n
last_digit n = omega arith

more_digits : (n : ℕ) (digits : List ℕ) → 10 ≤ n → Writes (n / 10) digits → Writes n (digits ++ ((48 + n % 10) ∷ []))
more_digits n digits h front =
    let d : ℕ = 48 + n % 10 in
    let small : n % 10 < 10 = omega arith in
    let last : list_all is_digit (d ∷ []) ≡ true = and_from (is_digit d) true (is_digit_of (n % 10) small) refl in
    record {
      some = omega (arith, length-append digits (d ∷ []), front.some);
      all = list_all-append is_digit digits (d ∷ []) ∙ and_from (list_all is_digit digits) (list_all is_digit (d ∷ [])) front.all last;
      value = number_from-push digits 0 d ∙ (ap (λ z. with_digit z d) front.value ∙ last_digit n);
    }

decimal_writes : (n : ℕ) → n < 2 ^ 64 → Writes n (decimal n)
decimal_writes n h = decimal_by_steps Writes one_digit more_digits n h

-- ---- the token of digits

digit_not_blank : (b : ℕ) → is_digit b ≡ true → is_blank b ≡ false
digit_not_blank b h = grind (arith, nat_tests)

digit_not_letter : (b : ℕ) → is_digit b ≡ true → is_letter b ≡ false
digit_not_letter b h = grind (arith, nat_tests)

begins_number : (at b : ℕ) (text : List ℕ) → is_digit b ≡ true → token_at at (b ∷ text) ≡ number_at at (b ∷ text)
unfolding token_at
begins_number at b text h = cond-false (is_letter b) _ _ (digit_not_letter b h) ∙ cond-true (is_digit b) _ _ h

-- digits before an end are read as their number
digits_token : (at b : ℕ) (digits rest : List ℕ) → list_all is_digit (b ∷ digits) ≡ true → Ends rest
    → token_at at (b ∷ (digits ++ rest)) ≡ number_of at (length (b ∷ digits)) (fitting (number (b ∷ digits)))
digits_token at b digits rest all h =
    let text : List ℕ = b ∷ (digits ++ rest) in
    let len : prefix_len is_digit text ≡ length (b ∷ digits) = whole_run is_digit (b ∷ digits) rest all (no_digit_ahead rest h) in
    begins_number at b (digits ++ rest) (and_parts (is_digit b) (list_all is_digit digits) all).0
    ∙ (ap (λ n. number_of at n (fitting (number (take n text)))) len
    ∙ ap (λ z. number_of at (length (b ∷ digits)) (fitting (number z))) (take_at (b ∷ digits) rest (length (b ∷ digits)) refl))

-- a number up to the largest that a token may have is taken
fits : (n : ℕ) → n ≤ 2 ^ 63 → fitting n ≡ Some n
fits n h = cond-true (nat_le n (2 ^ 63)) _ _ (le-leb n (2 ^ 63) h)

said_digits : (n : ℕ) (digits : List ℕ) → Writes n digits → n ≤ 2 ^ 63 → Says Ends digits (w.Number n ∷ [])
said_digits n [] writes h = absurd (omega (arith, writes.some))
said_digits n (b ∷ digits) writes h = λ front rest ends.
    let at : ℕ = length front in
    let digit : is_digit b ≡ true = (and_parts (is_digit b) (list_all is_digit digits) writes.all).0 in
    read_token (t.Number n) front b digits rest (digit_not_blank b digit)
    (digits_token at b digits rest writes.all ends ∙ ap (number_of at (length (b ∷ digits))) (ap fitting writes.value ∙ fits n h))

-- a number says itself
pub said_number : (n : ℕ) → n ≤ 2 ^ 63 → Says Ends (decimal n) (w.Number n ∷ [])
said_number n h = said_digits n (decimal n) (decimal_writes n (omega (arith, h))) h
