-- What a text says: its names are good names, and its texts are printable.
use Rattle.std.proofs.Common.{◌≡◌, ◌≤◌, ℕ, zero, suc, ◌+◌, ◌-◌, Bool, true, false, nat_le, nat_lt, ◌==◌, if◌then◌else◌, List, [], ◌∷◌, ◌++◌, length, take, drop, map, Option, Some, None, Result, Ok, Err, refl, sym, ◌∙◌, ap, subst, arith, append_assoc}
use Rattle.std.specs.Char.{to_ascii_lowercase}
use Rattle.std.specs.List.{prefix_len, list_all, AllByRecursion}
use Rattle.std.specs.Str.{str_to_ascii_lowercase, bytes_eq}
use Rattle.std.proofs.lemmas.Bool.{and_from, or_left, leb-true, cond-true, cond_both}
use Rattle.std.proofs.lemmas.Bool.Decides.{nat_tests}
use Rattle.std.proofs.lemmas.List.{length-map, length_push, drop_at}
use Rattle.std.proofs.lemmas.List.Folds.{length-prefix_len}
use Rattle.std.proofs.lemmas.Str.Ascii.{lowercase-lowercase}
use Rattle.hr_lex.specs.Bytes.{is_blank, is_letter, is_digit, is_name_byte}
use Rattle.hr_base.specs.Bytes.{is_printable}
use Rattle.hr_lex.specs.Keywords.{lookup, keywords, keyword}
use Rattle.hr_lex.specs.Numbers.{number, fitting}
use Rattle.hr_lex.specs.Quotes.{closing}
use Rattle.hr_lex.specs.Signs.{long_sign, short_sign}
use Rattle.hr_lex.specs.Tokens.{Tokens, token_at, number_of, quoted, sign_of, sign_at, with_token, reading, written, word_of as token_of_word}
use Rattle.hr_lex.specs.declared.quote.QuoteFault.{QuoteFault}
use Rattle.hr_lex.specs.declared.quote.QuoteFault.TheVariants as fault
use Rattle.hr_lex.specs.declared.token.Keyword.{Keyword}
use Rattle.hr_lex.specs.declared.token.LexError.{LexError}
use Rattle.hr_lex.specs.declared.token.LexError.TheVariants as error
use Rattle.hr_lex.specs.declared.token.Token.{Token}
use Rattle.hr_lex.specs.declared.token.TokenKind.{TokenKind}
use Rattle.hr_lex.specs.declared.token.TokenKind.TheVariants as t
use Rattle.hr_lex.proofs.Runs.{run_passes}
use Rattle.hr_parse.specs.declared.word.Word.{Word}
use Rattle.hr_parse.specs.declared.word.Word.TheVariants as w
use Rattle.hr_parse.specs.Lexemes.{word_of, lexemes, undoubled, between_quotes}
use Rattle.hr_parse.specs.Parse.{words}
use Rattle.hr_print.specs.Canonical.{says}
use Rattle.hr_print.proofs.SaidWords.{IsGoodName}

-- a name of a text is a good one, and a text within quotes is printable
abbrev pub IsValid : Word → Type 0
IsValid (w.Name n) = IsGoodName n
IsValid (w.Text bytes) = AllByRecursion (λ b. is_printable b ≡ true) bytes
IsValid (w.Fixed m) = Unit {0}
IsValid (w.Number n) = Unit {0}
IsValid (w.Compare o) = Unit {0}

-- ---- a word that is no keyword is a good name in small letters

small_letter : (b : ℕ) → is_letter b ≡ true → is_letter (to_ascii_lowercase b) ≡ true
small_letter b h = grind (arith, nat_tests)

small_name_byte : (b : ℕ) → is_name_byte b ≡ true → is_name_byte (to_ascii_lowercase b) ≡ true
small_name_byte b h = grind (arith, nat_tests)

small_bytes : (bytes : List ℕ) → AllByRecursion (λ b. is_name_byte b ≡ true) bytes → list_all is_name_byte (str_to_ascii_lowercase bytes) ≡ true
small_bytes [] all = refl
small_bytes (b ∷ bytes) all =
    and_from (is_name_byte (to_ascii_lowercase b)) (list_all is_name_byte (str_to_ascii_lowercase bytes)) (small_name_byte b all.0) (small_bytes bytes all.1)

small_again : (bytes : List ℕ) → str_to_ascii_lowercase (str_to_ascii_lowercase bytes) ≡ str_to_ascii_lowercase bytes
small_again [] = refl
small_again (b ∷ bytes) =
    ap (λ z. z ∷ str_to_ascii_lowercase (str_to_ascii_lowercase bytes)) (lowercase-lowercase b) ∙ ap (λ z. to_ascii_lowercase b ∷ z) (small_again bytes)

lookup_small : (table : List (List ℕ × Keyword)) (word : List ℕ) → lookup table (str_to_ascii_lowercase word) ≡ lookup table word
lookup_small [] word = refl
lookup_small (entry ∷ table) word =
    let small : List ℕ = str_to_ascii_lowercase word in
    let found : List ℕ → Bool = λ z. bytes_eq (str_to_ascii_lowercase entry.0) z in
    ap (λ z. if found z then Some entry.1 else lookup table small) (small_again word) ∙ ap (λ z. if found small then Some entry.1 else z) (lookup_small table word)

-- the case of letters doesn't make a keyword
keyword_small : (word : List ℕ) → keyword (str_to_ascii_lowercase word) ≡ keyword word
unfolding keyword
keyword_small word = lookup_small keywords word

good_name : (b : ℕ) (bytes : List ℕ) → is_letter b ≡ true → AllByRecursion (λ c. is_name_byte c ≡ true) bytes → length (b ∷ bytes) ≤ 32 → keyword (b ∷ bytes) ≡ None
    → IsGoodName (str_to_ascii_lowercase (b ∷ bytes))
good_name b bytes letter all short free = record {
  run = (small_letter b letter, small_bytes bytes all);
  short = let n : length (map to_ascii_lowercase bytes) ≡ length bytes = length-map bytes to_ascii_lowercase in omega (arith, n, short);
  small = small_again (b ∷ bytes);
  free = keyword_small (b ∷ bytes) ∙ free;
}

-- ---- parts of printable bytes are printable

-- each byte may stand within quotes
abbrev Printable : List ℕ → Type 0
Printable bytes = AllByRecursion (λ b. is_printable b ≡ true) bytes

printable_take : (n : ℕ) (bytes : List ℕ) → Printable bytes → Printable (take n bytes)
printable_take zero bytes all = tt
printable_take (suc n) [] all = tt
printable_take (suc n) (b ∷ bytes) all = (all.0, printable_take n bytes all.1)

printable_drop : (n : ℕ) (bytes : List ℕ) → Printable bytes → Printable (drop n bytes)
printable_drop zero bytes all = all
printable_drop (suc n) [] all = tt
printable_drop (suc n) (b ∷ bytes) all = printable_drop n bytes all.1

printable_undoubled : (after : Bool) (bytes : List ℕ) → Printable bytes → Printable (undoubled after bytes)
printable_undoubled true [] all = tt
printable_undoubled false [] all = tt
printable_undoubled true (b ∷ bytes) all = printable_undoubled false bytes all.1
printable_undoubled false (b ∷ bytes) all = (all.0, printable_undoubled (b == 39) bytes all.1)

printable_between : (bytes : List ℕ) → Printable bytes → Printable (undoubled false (between_quotes bytes))
printable_between bytes all = printable_undoubled false (between_quotes bytes) (printable_take (length bytes - 2) (drop 1 bytes) (printable_drop 1 bytes all))

-- ---- the bytes up to the closing quote are printable

-- up to the end that a result tells, if it tells one, which is n bytes on
abbrev PrintableTo : ℕ → List ℕ → Result ℕ QuoteFault → Type 0
PrintableTo at bytes (Ok end) = (n : ℕ) → end ≡ at + n → Printable (take n bytes)
PrintableTo at bytes (Err f) = Unit {0}

-- a text that closes here has no more bytes
stops : (at : ℕ) (bytes : List ℕ) (n : ℕ) → at ≡ at + n → Printable (take n bytes)
stops at bytes zero e = tt
stops at bytes (suc n) e = absurd (omega (arith, e))

on_to : (at b : ℕ) (bytes : List ℕ) (end : ℕ) → is_printable b ≡ true → PrintableTo (at + 1) bytes (Ok end) → (n : ℕ) → end ≡ at + n → Printable (take n (b ∷ bytes))
on_to at b bytes end h all zero e = tt
on_to at b bytes end h all (suc n) e = (h, all n (omega (arith, e)))

-- one printable byte on
one_on : (at b : ℕ) (bytes : List ℕ) (r : Result ℕ QuoteFault) → is_printable b ≡ true → PrintableTo (at + 1) bytes r → PrintableTo at (b ∷ bytes) r
one_on at b bytes (Err f) h all = tt
one_on at b bytes (Ok end) h all = on_to at b bytes end h all

quote_printable : (b : ℕ) → b == 39 ≡ true → is_printable b ≡ true
quote_printable b h = grind (arith, nat_tests)

printable_closing : (after : Bool) (at : ℕ) (bytes : List ℕ) → PrintableTo at bytes (closing after at bytes)
printable_closing true at [] = stops at []
printable_closing false at [] = tt
printable_closing true at (b ∷ bytes) = cond_both (b == 39) _ _ (PrintableTo at (b ∷ bytes))
    (λ quote. one_on at b bytes (closing false (at + 1) bytes) (quote_printable b quote) (printable_closing false (at + 1) bytes))
    (λ other. stops at (b ∷ bytes))
printable_closing false at (b ∷ bytes) = cond_both (b == 39) _ _ (PrintableTo at (b ∷ bytes))
    (λ quote. one_on at b bytes (closing true (at + 1) bytes) (quote_printable b quote) (printable_closing true (at + 1) bytes))
    (λ other. cond_both (is_printable b) _ _ (PrintableTo at (b ∷ bytes))
    (λ h. one_on at b bytes (closing false (at + 1) bytes) h (printable_closing false (at + 1) bytes))
    (λ h. tt))

-- ---- the token at the front of bytes, which stand at a place: it begins there, and what it says is valid

abbrev Valid : ℕ → List ℕ → Result Token LexError → Type 0
Valid at bytes (Ok found) = (found.from ≡ at) × IsValid (word_of (take (found.to - at) bytes) found.kind)
Valid at bytes (Err e) = Unit {0}

-- a name's bytes
valid_name : (at b : ℕ) (bytes : List ℕ) (n : ℕ) → is_letter b ≡ true → n ≡ prefix_len is_name_byte (b ∷ bytes) → n ≤ 32 → keyword (take n (b ∷ bytes)) ≡ None
    → IsGoodName (str_to_ascii_lowercase (take (at + n - at) (b ∷ bytes)))
valid_name at b bytes n letter is short free =
    let more : ℕ = prefix_len is_name_byte bytes in
    let first : is_name_byte b ≡ true = or_left (is_letter b) (is_digit b) letter in
    let len : n ≡ suc more = is ∙ (cond-true (is_name_byte b) (1 + more) 0 first ∙ omega arith) in
    let taken : length (take more bytes) ≡ more = length-prefix_len is_name_byte bytes in
    let whole : keyword (b ∷ take more bytes) ≡ None = subst (λ z. keyword (take z (b ∷ bytes)) ≡ None) len free in
    let good : IsGoodName (str_to_ascii_lowercase (b ∷ take more bytes))
    = good_name b (take more bytes) letter (run_passes is_name_byte bytes) (omega (arith, taken, len, short)) whole in
    let place : suc more ≡ at + n - at = omega (arith, len) in
    subst (λ z. IsGoodName (str_to_ascii_lowercase (take z (b ∷ bytes)))) place good

valid_word : (at b : ℕ) (bytes : List ℕ) (n : ℕ) (o : Option Keyword) → is_letter b ≡ true → n ≡ prefix_len is_name_byte (b ∷ bytes) → keyword (take n (b ∷ bytes)) ≡ o
    → Valid at (b ∷ bytes) (token_of_word at n o)
valid_word at b bytes n (Some k) letter is e = (refl, tt)
valid_word at b bytes n None letter is e = cond_both (nat_le n 32) _ _ (Valid at (b ∷ bytes))
    (λ short. (refl, valid_name at b bytes n letter is (leb-true n 32 short) e))
    (λ long. tt)

valid_number : (at : ℕ) (bytes : List ℕ) (len : ℕ) (o : Option ℕ) → Valid at bytes (number_of at len o)
valid_number at bytes len (Some n) = (refl, tt)
valid_number at bytes len None = tt

-- the bytes of a text, its quotes among them
quoted_bytes : (at b : ℕ) (bytes : List ℕ) (end n : ℕ) → b == 39 ≡ true → PrintableTo (at + 1) bytes (Ok end) → n ≡ end - at → Printable (take n (b ∷ bytes))
quoted_bytes at b bytes end zero quote all e = tt
quoted_bytes at b bytes end (suc n) quote all e = (quote_printable b quote, all n (omega (arith, e)))

valid_quoted : (at b : ℕ) (bytes : List ℕ) (r : Result ℕ QuoteFault) → b == 39 ≡ true → PrintableTo (at + 1) bytes r → Valid at (b ∷ bytes) (quoted at r)
valid_quoted at b bytes (Ok end) quote all = (refl, printable_between (take (end - at) (b ∷ bytes)) (quoted_bytes at b bytes end (end - at) quote all refl))
valid_quoted at b bytes (Err fault.Open) quote all = tt
valid_quoted at b bytes (Err (fault.BadByte place)) quote all = tt

-- the word of a kind, if there is one, is neither a name nor a text
abbrev IsPlain : Option TokenKind → Type 0
IsPlain None = Unit {0}
IsPlain (Some kind) = (bytes : List ℕ) → IsValid (word_of bytes kind)

-- the same, as a record: then the kind can be told from it
record Plain (kind : Option TokenKind) : Type 0 where
  plain : IsPlain kind

no_kind : Plain None
no_kind = record { plain = tt }

this_or : (c : Bool) (kind : TokenKind) (other : Option TokenKind) → ((bytes : List ℕ) → IsValid (word_of bytes kind)) → Plain other → Plain (if c then Some kind else other)
this_or true kind other h i = record { plain = h }
this_or false kind other h i = i

plain_long : (a b : ℕ) → Plain (long_sign a b)
plain_long a b = this_or _ t.NotEqual _ (λ x. tt) (this_or _ t.BangEqual _ (λ x. tt) (this_or _ t.LessEqual _ (λ x. tt) (this_or _ t.GreaterEqual _ (λ x. tt) no_kind)))

plain_short : (b : ℕ) → Plain (short_sign b)
plain_short b =
    this_or _ t.LeftParen _ (λ x. tt) (this_or _ t.RightParen _ (λ x. tt) (this_or _ t.Comma _ (λ x. tt) (this_or _ t.Dot _ (λ x. tt) (this_or _ t.Semicolon _ (λ x. tt)
    (this_or _ t.Star _ (λ x. tt) (this_or _ t.Plus _ (λ x. tt) (this_or _ t.Minus _ (λ x. tt) (this_or _ t.Equal _ (λ x. tt) (this_or _ t.Less _ (λ x. tt) (this_or _ t.Greater _ (λ x. tt) no_kind))))))))))

valid_sign : (at : ℕ) (bytes : List ℕ) (long short : Option TokenKind) → Plain long → Plain short → Valid at bytes (sign_of at long short)
valid_sign at bytes (Some k) short h i = (refl, h.plain (take (at + 2 - at) bytes))
valid_sign at bytes None (Some k) h i = (refl, i.plain (take (at + 1 - at) bytes))
valid_sign at bytes None None h i = tt

valid_sign_at : (at b : ℕ) (bytes : List ℕ) → Valid at (b ∷ bytes) (sign_at at (b ∷ bytes))
valid_sign_at at b [] = valid_sign at (b ∷ []) None (short_sign b) no_kind (plain_short b)
valid_sign_at at b (c ∷ bytes) = valid_sign at (b ∷ c ∷ bytes) (long_sign b c) (short_sign b) (plain_long b c) (plain_short b)

valid_token : (at b : ℕ) (bytes : List ℕ) → Valid at (b ∷ bytes) (token_at at (b ∷ bytes))
unfolding token_at
valid_token at b bytes =
    let text : List ℕ = b ∷ bytes in
    let V : Result Token LexError → Type 0 = Valid at text in
    cond_both (is_letter b) _ _ V
    (λ letter. valid_word at b bytes (prefix_len is_name_byte text) (keyword (take (prefix_len is_name_byte text) text)) letter refl refl)
    (λ e. cond_both (is_digit b) _ _ V
    (λ digit. valid_number at text (prefix_len is_digit text) (fitting (number (take (prefix_len is_digit text) text))))
    (λ e. cond_both (b == 39) _ _ V
    (λ quote. valid_quoted at b bytes (closing false (at + 1) bytes) quote (printable_closing false (at + 1) bytes))
    (λ e. valid_sign_at at b bytes)))

-- ---- the tokens of a text

-- what tokens of the text say is valid
abbrev AllValid : List ℕ → Tokens → Type 0
AllValid text read = AllByRecursion IsValid (says (lexemes text read.tokens))

valid_written : (text rest : List ℕ) (at : ℕ) (found : Token) → drop at text ≡ rest → Valid at rest (Ok found) → IsValid (word_of (written text found) found.kind)
valid_written text rest at found here valid =
    let same : take (found.to - at) rest ≡ written text found
    = ap (λ z. take (found.to - at) z) (sym here) ∙ ap (λ z. take (found.to - z) (drop z text)) (sym valid.0) in
    subst (λ z. IsValid (word_of z found.kind)) same valid.1

valid_with : (text rest : List ℕ) (at : ℕ) (r : Result Token LexError) (behind : ℕ → Tokens) → drop at text ≡ rest → Valid at rest r
    → ((taken : ℕ) → AllValid text (behind taken)) → AllValid text (with_token r behind)
valid_with text rest at (Ok found) behind here valid others = (valid_written text rest at found here valid, others (found.to - found.from - 1))
valid_with text rest at (Err e) behind here valid others = tt

-- the reading of the rest, with the byte before it among those that were read
one_byte_on : (front : List ℕ) (b : ℕ) (rest : List ℕ) (taken : ℕ) → AllValid ((front ++ (b ∷ [])) ++ rest) (reading taken (length (front ++ (b ∷ []))) rest)
    → AllValid (front ++ (b ∷ rest)) (reading taken (length front + 1) rest)
one_byte_on front b rest taken all =
    subst (λ z. AllValid z (reading taken (length front + 1) rest)) (append_assoc front (b ∷ []) rest)
    (subst (λ n. AllValid ((front ++ (b ∷ [])) ++ rest) (reading taken n rest)) (length_push front b) all)

-- whatever stands before the rest, and however many of its bytes belong to the token before
valid_reading : (rest front : List ℕ) (taken : ℕ) → AllValid (front ++ rest) (reading taken (length front) rest)
valid_reading [] front zero = tt
valid_reading [] front (suc taken) = tt
valid_reading (b ∷ rest) front (suc taken) = one_byte_on front b rest taken (valid_reading rest (front ++ (b ∷ [])) taken)
valid_reading (b ∷ rest) front zero =
    let text : List ℕ = front ++ (b ∷ rest) in
    let at : ℕ = length front in
    cond_both (is_blank b) _ _ (AllValid text)
    (λ blank. one_byte_on front b rest zero (valid_reading rest (front ++ (b ∷ [])) zero))
    (λ other. valid_with text (b ∷ rest) at (token_at at (b ∷ rest)) (λ taken. reading taken (at + 1) rest) (drop_at front (b ∷ rest) at refl) (valid_token at b rest)
    (λ taken. one_byte_on front b rest taken (valid_reading rest (front ++ (b ∷ [])) taken)))

-- the words of any text are valid
pub valid_words : (text : List ℕ) → AllByRecursion IsValid (says (words text))
valid_words text =
    let none : Tokens = record { tokens = []; error = Some error.TooLong } in
    cond_both (nat_lt 1024 (length text)) none (reading zero 0 text) (AllValid text) (λ long. tt) (λ fits. valid_reading text [] zero)
