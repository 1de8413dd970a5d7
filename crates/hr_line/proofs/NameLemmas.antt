-- Names: that they are texts in small letters, and the words that are never names.
use Rattle.std.proofs.Common.{◌≡◌, ℕ, ◌≤◌, Bool, true, false, not, nat_lt, ◌&&◌, List, [], ◌∷◌, length, map, refl, ap, arith}
use Rattle.std.specs.Prelude.{slice_index}
use Rattle.std.specs.Char.{to_ascii_lowercase}
use Rattle.std.specs.List.{list_all, list_any}
use Rattle.std.specs.Option.{is_some}
use Rattle.std.specs.Str.{str_eq_ignore_ascii_case, str_to_ascii_lowercase}
use Rattle.std.proofs.lemmas.Bool.Decides.{nat_tests}
use Rattle.std.proofs.lemmas.List.{length-map}
use Rattle.hr_base.specs.Bytes.{is_printable}
use Rattle.hr_base.specs.Texts.{Text}
use Rattle.hr_lex.specs.Bytes.{is_letter, is_name_byte}
use Rattle.hr_lex.specs.Keywords.{keyword, lookup}
use Rattle.hr_lex.specs.declared.token.Keyword.{Keyword}
use Rattle.hr_rel.specs.Printable.{IsText}
use Rattle.hr_line.specs.Names.{is_name}
use Rattle.hr_line.proofs.NumberLemmas.{both}

small_byte : (b : ℕ) → is_name_byte b ≡ true → is_printable (to_ascii_lowercase b) ≡ true
small_byte b e = grind (arith, nat_tests)

small_bytes : (word : Text) → list_all is_name_byte word ≡ true → list_all is_printable (str_to_ascii_lowercase word) ≡ true
small_bytes [] all = refl
small_bytes (b ∷ word) all =
    let k = both (is_name_byte b) (list_all is_name_byte word) all in rw (small_byte b k.0) (small_bytes word k.1)

pub name_is_text : (word : Text) → is_name word ≡ true → length word ≤ 32 → IsText (str_to_ascii_lowercase word)
name_is_text word h short =
    let a = both (nat_lt 0 (length word) && is_letter (slice_index word 0) && list_all is_name_byte word) (not (is_some (keyword word))) h in
    let b = both (nat_lt 0 (length word) && is_letter (slice_index word 0)) (list_all is_name_byte word) a.0 in
    let k : length (map to_ascii_lowercase word) ≡ length word = simp length-map in (omega (arith, k, short), small_bytes word b.1)

-- a table of words has a word where one of its words is it
pub among : (table : List (Text × Keyword)) (word : Text)
    → list_any (λ one. str_eq_ignore_ascii_case one word) (map (λ entry. entry.0) table) ≡ is_some (lookup table word)
among [] word = refl
among (entry ∷ table) word =
    let Here : Type 0 = list_any (λ one. str_eq_ignore_ascii_case one word) (map (λ entry. entry.0) (entry ∷ table)) ≡ is_some (lookup (entry ∷ table) word) in
    let by : (e : Bool) → str_eq_ignore_ascii_case entry.0 word ≡ e → Here
    = λ e. elim e as (λ (e : Bool). str_eq_ignore_ascii_case entry.0 word ≡ e → Here) [
      | true ↦ λ h. rw h refl
      | false ↦ λ h. rw h (among table word)
    ] in
    by (str_eq_ignore_ascii_case entry.0 word) refl
