-- A row is read as it is written.
use Rattle.std.proofs.Common.{◌≡◌, ℕ, zero, suc, ℤ, pos, negsuc, ◌+◌, ◌^◌, ◌<◌, ◌≤◌, Bool, true, false, not, nat_lt, nat_le, ◌&&◌, ◌||◌, ◌==◌, cond, List, [], ◌∷◌, ◌++◌, length, Option, Some, None, refl, ap, sym, subst, ◌∙◌, append_assoc, arith, rules}
use Rattle.std.specs.Prelude.{codes, if◌then◌else◌}
use Rattle.std.specs.Char.{is_ascii_digit}
use Rattle.std.specs.Fmt.{decimal, signed_decimal}
use Rattle.std.specs.List.{list_all, fold, flat_map}
use Rattle.std.specs.Str.{bytes_eq}
use Rattle.std.proofs.lemmas.Bool.{and_from, and_parts, eqb-true}
use Rattle.std.proofs.lemmas.Bool.Decides.{nat_tests}
use Rattle.std.proofs.lemmas.Fmt.{decimal_nonempty}
use Rattle.std.proofs.lemmas.List.{append-nil}
use Rattle.std.proofs.lemmas.List.Sums.{fold-append}
use Rattle.hr_base.specs.Lists.{is_empty}
use Rattle.hr_base.specs.Texts.{Text, doubled, quoted_byte}
use Rattle.hr_base.proofs.Tests.{and_false}
use Rattle.hr_rel.specs.Kinds.{fits_i64}
use Rattle.hr_rel.specs.declared.value.Value.{Value}
use Rattle.hr_rel.specs.declared.value.Value.TheVariants as value
use Rattle.hr_line.specs.Numbers.{number_of, signed_of}
use Rattle.hr_answer_text.specs.Answers.{value_text, more_values, values_text, row_text}
use Rattle.hr_answer_reader.specs.Held.{is_text, is_held_value, is_held_row}
use Rattle.hr_answer_reader.specs.Numbers.{key}
use Rattle.hr_answer_reader.specs.Rows.{start, number_in, number_value, value_of, with_byte, quote, finished, unquoted, next, scanned, is_text_of, row_of}
use Rattle.hr_answer_reader.specs.declared.row.Scan.{Scan}
use Rattle.hr_answer_reader.proofs.NumberLaws.{all_digits, key_again}

-- between values; within one that is no text; within a text whose quotes are open; and behind a text
abbrev ready : List Value → Scan
ready values = record { values = values; part = []; is_text = false; is_quoted = false }

abbrev plain : List Value → Text → Scan
plain values part = record { values = values; part = part; is_text = false; is_quoted = false }

abbrev quoted : List Value → Text → Scan
quoted values part = record { values = values; part = part; is_text = true; is_quoted = true }

abbrev closed : List Value → Text → Scan
closed values part = record { values = values; part = part; is_text = true; is_quoted = false }

-- a byte that stands for itself within a number or a word
abbrev is_plain : ℕ → Bool
is_plain b = not (b == 39) && not (b == 44 || b == 41) && not (b == 32 || b == 40)

not_true : (b : Bool) → not b ≡ true → b ≡ false
not_true true h = cc
not_true false h = refl

plain_next : (b : ℕ) (values : List Value) (part : Text) → is_plain b ≡ true → next (plain values part) b ≡ plain values (part ++ b ∷ [])
plain_next b values part h =
    let most = and_parts (not (b == 39) && not (b == 44 || b == 41)) (not (b == 32 || b == 40)) h in
    let two = and_parts (not (b == 39)) (not (b == 44 || b == 41)) most.0 in
    let no_quote : (b == 39) ≡ false = not_true (b == 39) two.0 in
    let no_end : (b == 44 || b == 41) ≡ false = not_true (b == 44 || b == 41) two.1 in
    let no_blank : (b == 32 || b == 40) ≡ false = not_true (b == 32 || b == 40) most.1 in
    rw no_quote (rw no_end (rw no_blank refl))

plain_run : (text : Text) (values : List Value) (part : Text) → list_all is_plain text ≡ true → fold next (plain values part) text ≡ plain values (part ++ text)
plain_run [] values part h = ap (plain values) (sym (append-nil part))
plain_run (b ∷ text) values part h =
    let parts = and_parts (is_plain b) (list_all is_plain text) h in
    ap (λ (s : Scan). fold next s text) (plain_next b values part parts.0)
    ∙ plain_run text values (part ++ b ∷ []) parts.1
    ∙ ap (plain values) (append_assoc part (b ∷ []) text)

digit_plain : (b : ℕ) → is_ascii_digit b ≡ true → is_plain b ≡ true
digit_plain b h = grind (arith, nat_tests)

digits_plain : (ds : Text) → list_all is_ascii_digit ds ≡ true → list_all is_plain ds ≡ true
digits_plain [] h = refl
digits_plain (b ∷ ds) h =
    let parts = and_parts (is_ascii_digit b) (list_all is_ascii_digit ds) h in
    and_from (is_plain b) (list_all is_plain ds) (digit_plain b parts.0) (digits_plain ds parts.1)

number_plain : (z : ℤ) → fits_i64 z ≡ true → list_all is_plain (signed_decimal z) ≡ true
number_plain (pos n) h =
    let low : n < 2 ^ 63 = grind (arith, nat_tests, h) in
    digits_plain (decimal n) (all_digits n (omega (arith, low)))
number_plain (negsuc n) h =
    let low : n < 2 ^ 63 = grind (arith, nat_tests, h) in
    digits_plain (decimal (suc n)) (all_digits (suc n) (omega (arith, low)))

-- ---- texts

quoted_step : (b : ℕ) (values : List Value) (part : Text) (is : Bool) → (b == 39) ≡ is → fold next (quoted values part) (cond is (39 ∷ 39 ∷ []) (b ∷ [])) ≡ quoted values (part ++ b ∷ [])
quoted_step b values part true is = ap (λ (c : ℕ). quoted values (part ++ c ∷ [])) (sym (eqb-true b 39 is))
quoted_step b values part false is = rw is refl

quoted_run : (bytes : Text) (values : List Value) (part : Text) → fold next (quoted values part) (doubled bytes) ≡ quoted values (part ++ bytes)
quoted_run [] values part = ap (quoted values) (sym (append-nil part))
quoted_run (b ∷ bytes) values part =
    fold-append next (quoted values part) (quoted_byte b) (doubled bytes)
    ∙ ap (λ (s : Scan). fold next s (doubled bytes)) (quoted_step b values part (b == 39) refl)
    ∙ quoted_run bytes values (part ++ b ∷ [])
    ∙ ap (quoted values) (append_assoc part (b ∷ []) bytes)

-- ---- a value

-- what is read once a value is, before what ends it
abbrev holding : List Value → Value → Scan
holding values value.Null = plain values (codes "NULL")
holding values (value.Int n) = plain values (signed_decimal n)
holding values (value.Text bytes) = closed values bytes

value_run : (v : Value) (values : List Value) → is_held_value v ≡ true → fold next (ready values) (value_text v) ≡ holding values v
value_run value.Null values h = refl
value_run (value.Int n) values h = plain_run (signed_decimal n) values [] (number_plain n h)
value_run (value.Text bytes) values h =
    fold-append next (quoted values []) (doubled bytes) (codes "'")
    ∙ ap (λ (s : Scan). fold next s (codes "'")) (quoted_run bytes values [])

null_word : number_value (codes "NULL") ≡ value.Null
unfolding signed_of number_of
null_word = refl

filled : (text : Text) → 0 < length text → is_empty text ≡ false
filled [] h = absurd (omega arith)
filled (b ∷ text) h = refl

number_filled : (z : ℤ) → fits_i64 z ≡ true → is_empty (signed_decimal z) ≡ false
number_filled (pos n) h =
    let low : n < 2 ^ 63 = grind (arith, nat_tests, h) in
    filled (decimal n) (decimal_nonempty n (omega (arith, low)))
number_filled (negsuc n) h = refl

value_end : (v : Value) (values : List Value) → is_held_value v ≡ true → finished (holding values v) ≡ ready (values ++ v ∷ [])
value_end value.Null values h = ap (λ (v : Value). ready (values ++ v ∷ [])) null_word
value_end (value.Int n) values h =
    rw (number_filled n h) (ap (λ (o : Option ℤ). ready (values ++ number_in o ∷ [])) (key_again n h))
value_end (value.Text bytes) values h = rw (and_false (is_empty bytes) false refl) (rw h refl)

comma : (v : Value) (values : List Value) → is_held_value v ≡ true → next (holding values v) 44 ≡ ready (values ++ v ∷ [])
comma value.Null values h = value_end value.Null values h
comma (value.Int n) values h = value_end (value.Int n) values h
comma (value.Text bytes) values h = value_end (value.Text bytes) values h

close : (v : Value) (values : List Value) → is_held_value v ≡ true → next (holding values v) 41 ≡ ready (values ++ v ∷ [])
close value.Null values h = value_end value.Null values h
close (value.Int n) values h = value_end (value.Int n) values h
close (value.Text bytes) values h = value_end (value.Text bytes) values h

-- ---- a row

more_run : (vs : List Value) (v : Value) (values : List Value) → is_held_value v ≡ true → is_held_row vs ≡ true
    → fold next (holding values v) (more_values vs ++ codes ")") ≡ ready (values ++ v ∷ vs)
more_run [] v values h all = close v values h
more_run (w ∷ vs) v values h all =
    let parts = and_parts (is_held_value w) (is_held_row vs) all in
    let rest = more_values vs ++ codes ")" in
    ap (fold next (holding values v)) (append_assoc (codes ", " ++ value_text w) (more_values vs) (codes ")"))
    ∙ ap (λ (s : Scan). fold next (next s 32) (value_text w ++ rest)) (comma v values h)
    ∙ fold-append next (ready (values ++ v ∷ [])) (value_text w) rest
    ∙ ap (λ (s : Scan). fold next s rest) (value_run w (values ++ v ∷ []) parts.0)
    ∙ more_run vs w (values ++ v ∷ []) parts.0 parts.1
    ∙ ap ready (append_assoc values (v ∷ []) (w ∷ vs))

scan_run : (row : List Value) → is_held_row row ≡ true → fold next start (row_text row) ≡ ready row
scan_run [] h = refl
scan_run (v ∷ vs) h =
    let parts = and_parts (is_held_value v) (is_held_row vs) h in
    ap (fold next start) (append_assoc (codes "(" ++ value_text v) (more_values vs) (codes ")"))
    ∙ fold-append next start (value_text v) (more_values vs ++ codes ")")
    ∙ ap (λ (s : Scan). fold next s (more_values vs ++ codes ")")) (value_run v [] parts.0)
    ∙ more_run vs v [] parts.0 parts.1

-- ---- texts that are the same

pub same_bytes : (text : Text) → bytes_eq text text ≡ true
same_bytes [] = refl
same_bytes (b ∷ text) =
    let same : (b == b) ≡ true = grind (arith, nat_tests) in
    rw same (same_bytes text)

pub bytes_same : (a b : Text) → bytes_eq a b ≡ true → a ≡ b
bytes_same [] [] h = refl
bytes_same [] (c ∷ b) h = cc
bytes_same (d ∷ a) [] h = cc
bytes_same (d ∷ a) (c ∷ b) h =
    let parts = and_parts (d == c) (bytes_eq a b) h in
    λ i. eqb-true d c parts.0 i ∷ bytes_same a b parts.1 i

-- ---- the law

abbrev scanned_if : List Value → Text → Option (List Value)
scanned_if row line = if is_text_of row line then Some row else None

pub row_again : (row : List Value) → is_held_row row ≡ true → row_of (row_text row) ≡ Some row
unfolding row_of
row_again row h =
    let same : scanned (row_text row) ≡ row = ap (λ (s : Scan). s.values) (scan_run row h) in
    ap (λ (r : List Value). scanned_if r (row_text row)) same ∙ rw (same_bytes (row_text row)) refl

said_cases : (row found : List Value) (line : Text) (b : Bool) → is_text_of found line ≡ b → cond b (Some found) None ≡ Some row → row_text row ≡ line
said_cases row found line true is e =
    let same : found ≡ row = cc in
    ap row_text (sym same) ∙ bytes_same (row_text found) line is
said_cases row found line false is e = cc

pub row_said : (line : Text) (row : List Value) → row_of line ≡ Some row → row_text row ≡ line
unfolding row_of
row_said line row e = said_cases row (scanned line) line (is_text_of (scanned line) line) refl e
