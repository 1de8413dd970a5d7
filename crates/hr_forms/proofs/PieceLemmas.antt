-- The first piece of a text, and those behind it.
use Rattle.std.proofs.Common.{◌≡◌, ℕ, zero, suc, ◌+◌, ◌<◌, ◌≤◌, Bool, true, false, not, nat_lt, [], ◌∷◌, length, take, drop, Option, Some, None, refl, ap, ◌∙◌, arith}
use Rattle.std.specs.Prelude.{if◌then◌else◌}
use Rattle.std.specs.List.{prefix_len}
use Rattle.std.proofs.lemmas.Bool.Decides.{nat_tests}
use Rattle.hr_base.specs.Texts.{Text}
use Rattle.hr_line.specs.Words.{pieces, pieces_left}
use Rattle.hr_line.proofs.WordLemmas.{pieces_at, goes_on}
use Rattle.hr_line.proofs.WordLemmas as words

-- what stands behind the byte at a place, where there is a byte
abbrev pub behind : ℕ → Text → Option Text
behind at text = if nat_lt at (length text) then Some (drop (at + 1) text) else None

module _ (parts : ℕ → Bool) where
  inside : (n : ℕ) (text : Text) → n < length text → words.behind parts (drop n text) ≡ pieces parts (drop (n + 1) text)
  inside n [] h = absurd (omega (arith, h))
  inside zero (b ∷ text) h = refl
  inside (suc n) (b ∷ text) h =
      let one : suc n + 1 ≡ suc (n + 1) = omega arith in
      rw one (inside n text (omega (arith, h)))

  outside : (n : ℕ) (text : Text) → length text ≤ n → words.behind parts (drop n text) ≡ []
  outside zero [] h = refl
  outside (suc n) [] h = refl
  outside zero (b ∷ text) h = absurd (omega (arith, h))
  outside (suc n) (b ∷ text) h = outside n text (omega (arith, h))

  behind_at : (n : ℕ) (text : Text) → words.behind parts (drop n text) ≡ pieces_left parts (behind n text)
  behind_at n text =
      let Here : Type 0 = words.behind parts (drop n text) ≡ pieces_left parts (behind n text) in
      let by : (e : Bool) → nat_lt n (length text) ≡ e → Here = λ e. elim e as (λ (e : Bool). nat_lt n (length text) ≡ e → Here) [
        | true ↦ λ h. let low : n < length text = grind (arith, nat_tests, h) in rw h (inside n text low)
        | false ↦ λ h. let high : length text ≤ n = grind (arith, nat_tests, h) in rw h (outside n text high)
      ] in
      by (nat_lt n (length text)) refl

  pub piece_split : (text : Text) (n : ℕ) → n ≡ prefix_len (λ b. not (parts b)) text
      → pieces parts text ≡ take n text ∷ pieces_left parts (behind n text)
  piece_split text n is = rw is
      (pieces_at parts text ∙ ap (λ ps. take (prefix_len (goes_on parts) text) text ∷ ps) (behind_at (prefix_len (goes_on parts) text) text))
