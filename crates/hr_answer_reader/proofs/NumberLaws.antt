-- Numbers are read as they are written, and in no other way.
use Rattle.std.proofs.Common.{◌≡◌, ℕ, zero, suc, ℤ, pos, negsuc, ◌+◌, ◌^◌, ◌<◌, ◌≤◌, Bool, true, false, not, nat_lt, nat_le, ◌&&◌, ◌||◌, ◌==◌, cond, List, [], ◌∷◌, ◌++◌, length, get_or, Option, Some, None, refl, ap, sym, subst, ◌∙◌, arith, rules}
use Rattle.std.specs.Prelude.{slice_index, neg_ℤ, codes, if◌then◌else◌}
use Rattle.std.specs.Char.{is_ascii_digit}
use Rattle.std.specs.Fmt.{decimal, signed_decimal}
use Rattle.std.specs.List.{list_all}
use Rattle.std.specs.Option.{option_and_then, option_map}
use Rattle.std.specs.Str.{bytes_eq}
use Rattle.std.specs.Str.Parse.{digits_value}
use Rattle.std.proofs.lemmas.Bool.{and_from, and_parts}
use Rattle.std.proofs.lemmas.Bool.Decides.{nat_tests}
use Rattle.std.proofs.lemmas.Fmt.{decimal_nonempty, first_decimal, digits_decimal, digits_value-decimal, decimal-digits_value, decimal_digit}
use Rattle.std.proofs.lemmas.Str.Parse.{IsNumeralModel, IsDigitsTest, numerals_by_value}
use Rattle.hr_base.specs.Texts.{Text}
use Rattle.hr_rel.specs.Kinds.{fits_i64}
use Rattle.hr_line.specs.Numbers.{is_number, number, number_of, plain, negated, signed_of}
use Rattle.hr_line.specs.declared.number.Number.{Number}
use Rattle.hr_line.specs.declared.number.Number.TheVariants as number
use Rattle.hr_line.specs.declared.number.Signed.{Signed}
use Rattle.hr_line.specs.declared.number.Signed.TheVariants as signed
use Rattle.hr_answer_reader.specs.Numbers.{held, held_signed, long, small, short, key}

abbrev AllDigits : Text → Type 0
AllDigits ds = list_all is_ascii_digit ds ≡ true

digits_test : IsDigitsTest AllDigits
digits_test = search rules

own : IsNumeralModel AllDigits (digits_value 10)
own = numerals_by_value AllDigits digits_test

pub all_digits : (n : ℕ) → n < 2 ^ 64 → list_all is_ascii_digit (decimal n) ≡ true
all_digits n h = digits_decimal own n h

-- ---- numbers without a sign

first_or_one : (n : ℕ) → n < 2 ^ 64 → (not (slice_index (decimal n) 0 == 48) || length (decimal n) == 1) ≡ true
first_or_one zero h = rw (decimal_digit 0 (omega arith)) refl
first_or_one (suc n) h =
    let high : 48 < slice_index (decimal (suc n)) 0 = first_decimal (suc n) (omega arith) h in
    grind (arith, nat_tests, high)

is_number_decimal : (n : ℕ) → n < 2 ^ 64 → is_number (decimal n) ≡ true
is_number_decimal n h =
    let some : 0 < length (decimal n) = decimal_nonempty n h in
    let filled : nat_lt 0 (length (decimal n)) ≡ true = grind (arith, nat_tests, some) in
    and_from (nat_lt 0 (length (decimal n)) && list_all is_ascii_digit (decimal n)) (not (slice_index (decimal n) 0 == 48) || length (decimal n) == 1)
    (and_from (nat_lt 0 (length (decimal n))) (list_all is_ascii_digit (decimal n)) filled (all_digits n h))
    (first_or_one n h)

small_number : (n : ℕ) → n < 2 ^ 64 → number n ≡ number.Of n
small_number n h =
    let low : nat_lt n (2 ^ 64) ≡ true = grind (arith, nat_tests, h) in
    rw low refl

pub number_again : (n : ℕ) → n < 2 ^ 64 → number_of (decimal n) ≡ Some (number.Of n)
unfolding number_of
number_again n h =
    let value : digits_value 10 (decimal n) ≡ n = digits_value-decimal own n h in
    rw (is_number_decimal n h) (ap (λ (v : ℕ). Some (number v)) value ∙ ap (λ (v : Number). Some v) (small_number n h))

number_is : (v n : ℕ) (b : Bool) → nat_lt v (2 ^ 64) ≡ b → cond b (number.Of v) number.TooLarge ≡ number.Of n → (v ≡ n) × (v < 2 ^ 64)
number_is v n true low e = (cc, grind (arith, nat_tests, low))
number_is v n false low e = cc

value_said : (word : Text) (n : ℕ) → is_number word ≡ true → number (digits_value 10 word) ≡ number.Of n → (decimal n ≡ word) × (n < 2 ^ 64)
value_said word n is e =
    let v = number_is (digits_value 10 word) n (nat_lt (digits_value 10 word) (2 ^ 64)) refl e in
    let parts = and_parts (nat_lt 0 (length word) && list_all is_ascii_digit word) (not (slice_index word 0 == 48) || length word == 1) is in
    let front = and_parts (nat_lt 0 (length word)) (list_all is_ascii_digit word) parts.0 in
    let some : 0 < length word = grind (arith, nat_tests, front.0) in
    let lone : get_or word 0 0 ≡ 48 → length word ≡ 1 = λ zero_first. grind (arith, nat_tests, parts.1, zero_first) in
    let back : decimal (digits_value 10 word) ≡ word = decimal-digits_value own word front.1 some lone v.1 in
    (ap decimal (sym v.0) ∙ back, subst (λ (m : ℕ). m < 2 ^ 64) v.0 v.1)

number_cases : (word : Text) (n : ℕ) (b : Bool) → is_number word ≡ b → cond b (Some (number (digits_value 10 word))) None ≡ Some (number.Of n) → (decimal n ≡ word) × (n < 2 ^ 64)
number_cases word n true is e =
    let same : number (digits_value 10 word) ≡ number.Of n = cc in
    value_said word n is same
number_cases word n false is e = cc

number_said : (word : Text) (n : ℕ) → number_of word ≡ Some (number.Of n) → (decimal n ≡ word) × (n < 2 ^ 64)
unfolding number_of
number_said word n e = number_cases word n (is_number word) refl e

pub long_again : (n : ℕ) → n < 2 ^ 64 → long (decimal n) ≡ Some n
long_again n h = ap (option_and_then held) (number_again n h)

long_cases : (word : Text) (n : ℕ) (o : Option Number) → number_of word ≡ o → option_and_then held o ≡ Some n → (decimal n ≡ word) × (n < 2 ^ 64)
long_cases word n None is e = cc
long_cases word n (Some number.TooLarge) is e = cc
long_cases word n (Some (number.Of m)) is e =
    let same : m ≡ n = cc in
    number_said word n (is ∙ ap (λ (k : ℕ). Some (number.Of k)) same)

pub long_said : (word : Text) (n : ℕ) → long word ≡ Some n → (decimal n ≡ word) × (n < 2 ^ 64)
long_said word n e = long_cases word n (number_of word) refl e

pub short_again : (n : ℕ) → n < 2 ^ 32 → short (decimal n) ≡ Some n
short_again n h =
    let low : nat_lt n (2 ^ 32) ≡ true = grind (arith, nat_tests, h) in
    ap (option_and_then small) (long_again n (omega (arith, h))) ∙ rw low refl

small_is : (m n : ℕ) (b : Bool) → nat_lt m (2 ^ 32) ≡ b → cond b (Some m) None ≡ Some n → (m ≡ n) × (m < 2 ^ 32)
small_is m n true low e = (cc, grind (arith, nat_tests, low))
small_is m n false low e = cc

short_cases : (word : Text) (n : ℕ) (o : Option ℕ) → long word ≡ o → option_and_then small o ≡ Some n → (decimal n ≡ word) × (n < 2 ^ 32)
short_cases word n None is e = cc
short_cases word n (Some m) is e =
    let v = small_is m n (nat_lt m (2 ^ 32)) refl e in
    let said = long_said word m is in
    (ap decimal (sym v.0) ∙ said.0, subst (λ (k : ℕ). k < 2 ^ 32) v.0 v.1)

pub short_said : (word : Text) (n : ℕ) → short word ≡ Some n → (decimal n ≡ word) × (n < 2 ^ 32)
short_said word n e = short_cases word n (long word) refl e

-- ---- numbers with a sign

-- digits have no sign
no_sign : (word : Text) → list_all is_ascii_digit word ≡ true → 0 < length word → key word ≡ option_and_then held_signed (option_map plain (number_of word))
unfolding signed_of
no_sign [] all some = absurd (omega arith)
no_sign (b ∷ word) all some =
    let digit = (and_parts (is_ascii_digit b) (list_all is_ascii_digit word) all).0 in
    let other : (b == 45) ≡ false = grind (arith, nat_tests, digit) in
    rw other refl

key_positive : (n : ℕ) → n < 2 ^ 63 → key (decimal n) ≡ Some (pos n)
key_positive n h =
    let fits : n < 2 ^ 64 = omega (arith, h) in
    let low : nat_lt n (2 ^ 63) ≡ true = grind (arith, nat_tests, h) in
    no_sign (decimal n) (all_digits n fits) (decimal_nonempty n fits)
    ∙ ap (λ (o : Option Number). option_and_then held_signed (option_map plain o)) (number_again n fits)
    ∙ rw low refl

no_zero : (word : Text) → 48 < get_or word 0 0 → bytes_eq (45 ∷ word) (codes "-0") ≡ false
no_zero [] h = refl
no_zero (b ∷ word) h =
    let other : (b == 48) ≡ false = grind (arith, nat_tests, h) in
    rw other refl

key_negative : (n : ℕ) → n < 2 ^ 63 → key (45 ∷ decimal (suc n)) ≡ Some (negsuc n)
unfolding signed_of
key_negative n h =
    let fits : suc n < 2 ^ 64 = omega (arith, h) in
    let low : nat_le (suc n) (2 ^ 63) ≡ true = grind (arith, nat_tests, h) in
    let some : bytes_eq (45 ∷ decimal (suc n)) (codes "-0") ≡ false = no_zero (decimal (suc n)) (first_decimal (suc n) (omega arith) fits) in
    rw some (ap (λ (o : Option Number). option_and_then held_signed (option_map negated o)) (number_again (suc n) fits) ∙ rw low refl)

pub key_again : (z : ℤ) → fits_i64 z ≡ true → key (signed_decimal z) ≡ Some z
key_again (pos n) h = key_positive n (grind (arith, nat_tests, h))
key_again (negsuc n) h = key_negative n (grind (arith, nat_tests, h))

plain_is : (n : ℕ) (z : ℤ) (b : Bool) → nat_lt n (2 ^ 63) ≡ b → held_signed (cond b (signed.Of (pos n)) signed.TooLarge) ≡ Some z → (pos n ≡ z) × (n < 2 ^ 63)
plain_is n z true low e = (cc, grind (arith, nat_tests, low))
plain_is n z false low e = cc

negated_is : (n : ℕ) (z : ℤ) (b : Bool) → nat_le n (2 ^ 63) ≡ b → held_signed (cond b (signed.Of (neg_ℤ (pos n))) signed.TooLarge) ≡ Some z → (neg_ℤ (pos n) ≡ z) × (n ≤ 2 ^ 63)
negated_is n z true low e = (cc, grind (arith, nat_tests, low))
negated_is n z false low e = cc

abbrev Said : Text → ℤ → Type 0
Said word z = (signed_decimal z ≡ word) × (fits_i64 z ≡ true)

positive_said : (word : Text) (z : ℤ) (o : Option Number) → number_of word ≡ o → option_and_then held_signed (option_map plain o) ≡ Some z → Said word z
positive_said word z None is e = cc
positive_said word z (Some number.TooLarge) is e = cc
positive_said word z (Some (number.Of n)) is e =
    let v = plain_is n z (nat_lt n (2 ^ 63)) refl e in
    let fits : nat_lt n (2 ^ 63) ≡ true = grind (arith, nat_tests, v.1) in
    subst (λ (y : ℤ). Said word y) v.0 ((number_said word n is).0, fits)

minus_said : (word : Text) (z : ℤ) (n : ℕ) → bytes_eq (45 ∷ word) (codes "-0") ≡ false → decimal n ≡ word → n ≤ 2 ^ 63 → neg_ℤ (pos n) ≡ z → Said (45 ∷ word) z
minus_said word z zero some is low e =
    let none : word ≡ 48 ∷ [] = sym is ∙ decimal_digit 0 (omega arith) in
    let same : bytes_eq (45 ∷ word) (codes "-0") ≡ true = ap (λ (w : Text). bytes_eq (45 ∷ w) (codes "-0")) none in
    cc
minus_said word z (suc n) some is low e =
    let fits : nat_lt n (2 ^ 63) ≡ true = grind (arith, nat_tests, low) in
    subst (λ (y : ℤ). Said (45 ∷ word) y) e (ap (λ (w : Text). 45 ∷ w) is, fits)

negative_said : (word : Text) (z : ℤ) (o : Option Number) → bytes_eq (45 ∷ word) (codes "-0") ≡ false → number_of word ≡ o → option_and_then held_signed (option_map negated o) ≡ Some z → Said (45 ∷ word) z
negative_said word z None some is e = cc
negative_said word z (Some number.TooLarge) some is e = cc
negative_said word z (Some (number.Of n)) some is e =
    let v = negated_is n z (nat_le n (2 ^ 63)) refl e in
    minus_said word z n some (number_said word n is).0 v.1 v.0

sign_cases : (b : ℕ) (word : Text) (z : ℤ) (minus : Bool) → (b == 45) ≡ minus → bytes_eq (b ∷ word) (codes "-0") ≡ false
    → option_and_then held_signed (cond minus (option_map negated (number_of word)) (option_map plain (number_of (b ∷ word)))) ≡ Some z → Said (b ∷ word) z
sign_cases b word z true is some e =
    let sign : b ≡ 45 = grind (arith, nat_tests, is) in
    subst (λ (c : ℕ). Said (c ∷ word) z) (sym sign)
    (negative_said word z (number_of word) (subst (λ (c : ℕ). bytes_eq (c ∷ word) (codes "-0") ≡ false) sign some) refl e)
sign_cases b word z false is some e = positive_said (b ∷ word) z (number_of (b ∷ word)) refl e

key_cases : (word : Text) (z : ℤ) (zero_minus : Bool) → bytes_eq word (codes "-0") ≡ zero_minus → cond zero_minus None (option_and_then held_signed (signed_of word)) ≡ Some z → Said word z
unfolding signed_of
key_cases word z true is e = cc
key_cases [] z false is e = cc
key_cases (b ∷ word) z false is e = sign_cases b word z (b == 45) refl is e

pub key_said : (word : Text) (z : ℤ) → key word ≡ Some z → (signed_decimal z ≡ word) × (fits_i64 z ≡ true)
key_said word z e = key_cases word z (bytes_eq word (codes "-0")) refl e
