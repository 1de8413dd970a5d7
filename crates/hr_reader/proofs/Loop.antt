-- One line after another.
use Rattle.std.proofs.Common.{◌≡◌, ℕ, ◌+◌, Some, None, Ok, Err, List, [], ◌∷◌, length, refl, ap, ◌∙◌, arith}
use Rattle.hr_base.specs.Texts.{Text}
use Rattle.hr_line.specs.Words.{first, others}
use Rattle.hr_said.specs.declared.error.InputKind.{InputKind}
use Rattle.hr_said.specs.declared.said.Said.{Said}
use Rattle.hr_reader.specs.Reading.{line_says, at_line, read_on, read_lines, whole}

module _ (said : Said) (n : ℕ) where
  pub read_next : (next : Said) (rest : List Text) (line : Text) → Some line ≡ first rest → line_says said line ≡ Ok next → read_lines said n rest ≡ read_lines next (n + 1) (others rest)
  read_next next [] line e says = cc
  read_next next (text ∷ rest) line e says =
      let same : text ≡ line = cc in
      ap (λ d. read_on d (n + 1) (λ s. read_lines s (n + 1) rest)) (ap (line_says said) same ∙ says)

  pub read_bad : (k : InputKind) (rest : List Text) (line : Text) → Some line ≡ first rest → line_says said line ≡ Err k → read_lines said n rest ≡ Err (at_line (n + 1) k)
  read_bad k [] line e says = cc
  read_bad k (text ∷ rest) line e says =
      let same : text ≡ line = cc in
      ap (λ d. read_on d (n + 1) (λ s. read_lines s (n + 1) rest)) (ap (line_says said) same ∙ says)

  pub read_end : (rest : List Text) → None ≡ first rest → read_lines said n rest ≡ whole said n
  read_end [] e = refl
  read_end (text ∷ rest) e = cc

pub one_fewer : (rest : List Text) (line : Text) → Some line ≡ first rest → length rest ≡ length (others rest) + 1
one_fewer [] line e = cc
one_fewer (text ∷ rest) line e = omega arith
