-- What a line holds is ASCII, and short.
use Rattle.std.proofs.Common.{◌≡◌, ℕ, zero, suc, ◌-◌, ◌<◌, ◌≤◌, Bool, true, false, cond, nat_lt, [], ◌∷◌, take, drop, length, Ok, Err, refl, sym, arith}
use Rattle.std.specs.List.{list_all, prefix_len, suffix_len}
use Rattle.std.specs.Str.{IsAscii, IsUtf8}
use Rattle.std.proofs.lemmas.Bool.Decides.{nat_tests}
use Rattle.std.proofs.lemmas.List.{length-take, length-drop}
use Rattle.std.proofs.lemmas.Str.{IsUtf8-from_ascii}
use Rattle.std.proofs.lemmas.Str.Ascii.{IsAscii-nil, IsAscii-cons}
use Rattle.hr_base.specs.Texts.{Text}
use Rattle.hr_lex.specs.Bytes.{is_blank}
use Rattle.hr_line.specs.Bytes.{is_line_byte, trimmed, content_of}
use Rattle.hr_line.specs.declared.bytes.LineFault.TheVariants.{TooLong, BadByte}
use Rattle.hr_line.proofs.NumberLemmas.{both}

module _ (p : ℕ → Bool) where
  all_drop : (n : ℕ) (text : Text) → list_all p text ≡ true → list_all p (drop n text) ≡ true
  all_drop zero text h = h
  all_drop (suc n) [] h = refl
  all_drop (suc n) (b ∷ text) h = all_drop n text (both (p b) (list_all p text) h).1

  all_take : (n : ℕ) (text : Text) → list_all p text ≡ true → list_all p (take n text) ≡ true
  all_take zero text h = refl
  all_take (suc n) [] h = refl
  all_take (suc n) (b ∷ text) h = let k = both (p b) (list_all p text) h in rw k.0 (all_take n text k.1)

small_byte : (b : ℕ) → is_line_byte b ≡ true → b < 128
small_byte b e = grind (arith, nat_tests)

ascii_all : (text : Text) → list_all is_line_byte text ≡ true → IsAscii text
ascii_all [] h = IsAscii-nil
ascii_all (b ∷ text) h = let k = both (is_line_byte b) (list_all is_line_byte text) h in IsAscii-cons b text (small_byte b k.0) (ascii_all text k.1)

trimmed_ascii : (line : Text) → list_all is_line_byte line ≡ true → IsAscii (trimmed line)
trimmed_ascii line h =
    let inner = drop (prefix_len is_blank line) line in
    ascii_all (trimmed line) (all_take is_line_byte (length inner - suffix_len is_blank inner) inner (all_drop is_line_byte (prefix_len is_blank line) line h))

trimmed_short : (line : Text) → length line ≤ 1024 → length (trimmed line) ≤ 1024
trimmed_short line short =
    let inner = drop (prefix_len is_blank line) line in
    let cut = length-take (length inner - suffix_len is_blank inner) inner in
    let fewer = length-drop (prefix_len is_blank line) line in
    omega (arith, cut, fewer)

content_cases : (line content : Text) (long good : Bool) → nat_lt 1024 (length line) ≡ long → list_all is_line_byte line ≡ good
    → cond long (Err TooLong) (cond good (Ok (trimmed line)) (Err BadByte)) ≡ Ok content → IsAscii content × (length content ≤ 1024)
content_cases line content true good l g is = cc
content_cases line content false false l g is = cc
content_cases line content false true l g is =
    let same : trimmed line ≡ content = cc in
    let short : length line ≤ 1024 = grind (arith, nat_tests, l) in
    rw (sym same) (trimmed_ascii line g, trimmed_short line short)

-- what a line holds is ASCII, and no longer than a line
content_is : (line content : Text) → content_of line ≡ Ok content → IsAscii content × (length content ≤ 1024)
content_is line content is = content_cases line content (nat_lt 1024 (length line)) (list_all is_line_byte line) refl refl is

pub content_is_ascii : (line content : Text) → content_of line ≡ Ok content → IsAscii content
content_is_ascii line content is = (content_is line content is).0

pub content_is_short : (line content : Text) → content_of line ≡ Ok content → length content ≤ 1024
content_is_short line content is = (content_is line content is).1

pub content_is_text : (line content : Text) → content_of line ≡ Ok content → IsUtf8 content
content_is_text line content is = IsUtf8-from_ascii _ (content_is line content is).0
