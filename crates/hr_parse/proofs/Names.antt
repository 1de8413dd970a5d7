-- A name in small letters is a text.
use Rattle.std.proofs.Common.{◌≡◌, ℕ, true, List, [], ◌∷◌, length, map, refl, arith}
use Rattle.std.specs.List.{AllByRecursion, list_all}
use Rattle.std.specs.Char.{to_ascii_lowercase}
use Rattle.std.specs.Str.{str_to_ascii_lowercase}
use Rattle.std.proofs.lemmas.Bool.Decides.{nat_tests}
use Rattle.std.proofs.lemmas.List.{length-map}
use Rattle.hr_lex.specs.Bytes.{is_name_byte}
use Rattle.hr_lex.specs.Tokens.{IsNameText}
use Rattle.hr_base.specs.Bytes.{is_printable}
use Rattle.hr_rel.specs.Printable.{IsText}

small_byte : (b : ℕ) → is_name_byte b ≡ true → is_printable (to_ascii_lowercase b) ≡ true
small_byte b e = grind (arith, nat_tests)

small_bytes : (bytes : List ℕ) → AllByRecursion (λ b. is_name_byte b ≡ true) bytes → list_all is_printable (str_to_ascii_lowercase bytes) ≡ true
small_bytes [] all = refl
small_bytes (b ∷ bytes) all = rw (small_byte b all.0) (small_bytes bytes all.1)

pub name_is_text : (bytes : List ℕ) → IsNameText bytes → IsText (str_to_ascii_lowercase bytes)
name_is_text bytes h = let k : length (map to_ascii_lowercase bytes) ≡ length bytes = simp length-map in (omega (arith, k, h.0), small_bytes bytes h.1)
