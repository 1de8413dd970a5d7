-- What the digits of a number are.
use Rattle.std.proofs.Common.{◌≡◌, ℕ, ◌+◌, ◌%◌, ◌<◌, ◌^◌, true, not, [], ◌∷◌, refl, ◌∙◌, arith}
use Rattle.std.specs.List.{list_all}
use Rattle.std.specs.Fmt.{decimal}
use Rattle.std.proofs.lemmas.Bool.{and_from}
use Rattle.std.proofs.lemmas.Bool.Decides.{nat_tests}
use Rattle.std.proofs.lemmas.Fmt.{decimal_by_steps}
use Rattle.std.proofs.lemmas.List.Folds.{list_all-append}
use Rattle.hr_base.specs.Bytes.{is_printable}
use Rattle.hr_lex.specs.Bytes.{is_blank, is_digit}
use Rattle.hr_made.proofs.Texts.{IsPrinted, Ends, all_are}

digit_of : (d : ℕ) → d < 10 → is_digit (48 + d) ≡ true
digit_of d h = grind (arith, nat_tests)

pub decimal_ends : (n : ℕ) → n < 2 ^ 64 → Ends (decimal n)
decimal_ends n h = decimal_by_steps (λ n ds. Ends ds)
    (λ n small. record { front = []; last = 48 + n; digit = digit_of n small; is = refl })
    (λ n ds some e. record { front = ds; last = 48 + n % 10; digit = digit_of (n % 10) (omega arith); is = refl })
    n h

all_digits : (n : ℕ) → n < 2 ^ 64 → list_all is_digit (decimal n) ≡ true
all_digits n h = decimal_by_steps (λ n ds. list_all is_digit ds ≡ true)
    (λ n small. and_from (is_digit (48 + n)) true (digit_of n small) refl)
    (λ n ds some all. list_all-append is_digit ds ((48 + n % 10) ∷ []) ∙ and_from (list_all is_digit ds) (list_all is_digit ((48 + n % 10) ∷ [])) all
    (and_from (is_digit (48 + n % 10)) true (digit_of (n % 10) (omega arith)) refl))
    n h

digit_printed : (b : ℕ) → is_digit b ≡ true → is_printable b ≡ true
digit_printed b h = grind (arith, nat_tests)

pub decimal_printed : (n : ℕ) → n < 2 ^ 64 → IsPrinted (decimal n)
decimal_printed n h = all_are is_digit is_printable digit_printed (decimal n) (all_digits n h)

digit_unblank : (b : ℕ) → is_digit b ≡ true → not (is_blank b) ≡ true
digit_unblank b h = grind (arith, nat_tests)

pub decimal_unblank : (n : ℕ) → n < 2 ^ 64 → list_all (λ c. not (is_blank c)) (decimal n) ≡ true
decimal_unblank n h = all_are is_digit (λ c. not (is_blank c)) digit_unblank (decimal n) (all_digits n h)
