-- Digits: that std reads them.
use Rattle.std.proofs.Common.{◌≡◌, ◌≢◌, ℕ, ◌^◌, ◌<◌, ◌≤◌, Bool, true, false, cond, not, nat_lt, ◌&&◌, ◌||◌, List, [], ◌∷◌, length, drop, Option, Some, None, IfNone, Result, Ok, Err, MatchResult, refl, sym, ap, ◌∙◌, subst, arith}
use Rattle.std.specs.Prelude.{◌==◌, slice_index}
use Rattle.std.specs.Char.{is_ascii_digit}
use Rattle.std.specs.List.{list_all}
use Rattle.std.specs.Result.{result_ok}
use Rattle.std.specs.Str.{IsUtf8}
use Rattle.std.specs.Str.Parse.{AllDigits, IsNumeral, ParsesUnsigned, digits_value, without_leading_plus}
use Rattle.std.proofs.lemmas.Bool.Decides.{nat_tests}
use Rattle.std.proofs.lemmas.Fmt.{IsAscii-from_digits}
use Rattle.std.proofs.lemmas.Str.{IsUtf8-from_ascii}
use Rattle.std.proofs.lemmas.Str.Parse.{tells_digits}
use Rattle.hr_line.specs.Numbers.{is_number}

pub both : (b c : Bool) → b && c ≡ true → (b ≡ true) × (c ≡ true)
both true c h = (refl, h)
both false c h = cc

digits_are : (word : List ℕ) → list_all is_ascii_digit word ≡ true → AllDigits 10 word
digits_are [] h = tt
digits_are (b ∷ word) h =
    let k = both (is_ascii_digit b) (list_all is_ascii_digit word) h in
    let low : 48 ≤ b = grind (arith, nat_tests, k.0) in
    let high : b ≤ 57 = grind (arith, nat_tests, k.0) in
    tells_digits.more b word (low, high) (digits_are word k.1)

-- what a number's word is
pub numeral : (word : List ℕ) → is_number word ≡ true → IsNumeral 10 word × (list_all is_ascii_digit word ≡ true)
numeral word h =
    let k = both (nat_lt 0 (length word) && list_all is_ascii_digit word) (not (slice_index word 0 == 48) || length word == 1) h in
    let m = both (nat_lt 0 (length word)) (list_all is_ascii_digit word) k.0 in
    let some : 0 < length word = grind (arith, nat_tests, m.0) in
    ((some, digits_are word m.1), m.1)

-- it is text
pub number_text : (word : List ℕ) → is_number word ≡ true → IsUtf8 word
number_text word h = IsUtf8-from_ascii _ (IsAscii-from_digits word (numeral word h).0.1)

-- it has no plus before it
pub no_plus : (word : List ℕ) → list_all is_ascii_digit word ≡ true → without_leading_plus word ≡ word
no_plus [] h = refl
no_plus (b ∷ word) h =
    let k = both (is_ascii_digit b) (list_all is_ascii_digit word) h in
    let other : b == 43 ≡ false = grind (arith, nat_tests, k.0) in
    rw other refl

-- where it isn't read, it is too large
pub unread : {E : Type 0} (word text : List ℕ) (r : Result ℕ E) (o : Option ℕ) → is_number word ≡ true → text ≡ word
    → ParsesUnsigned 64 10 text r → o ≡ result_ok r → IfNone o (2 ^ 64 ≤ digits_value 10 word)
unread word text r (Some n) h same parses is = tt
unread word text (Ok n) None h same parses is = cc
unread word text (Err e) None h same parses is =
    let k = numeral word h in
    let plain : without_leading_plus text ≡ word = ap without_leading_plus same ∙ no_plus word k.1 in
    let not_small : ¬ (digits_value 10 word < 2 ^ 64) = λ small. parses (rw plain (k.0, small)) in
    omega (arith, not_small)
