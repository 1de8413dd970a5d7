-- Lines one after another, and what they make of what was said before them.
use Rattle.std.proofs.Common.{◌≡◌, ◌+◌, ℕ, [], ◌++◌, Ok, ◌∙◌, ap, arith, append_assoc}
use Rattle.hr_base.specs.Texts.{Text, line}
use Rattle.hr_lines.specs.Lines.{lines_of}
use Rattle.hr_said.specs.declared.said.Said.{Said}
use Rattle.hr_reader.specs.Reading.{line_says, read_on, read_lines}
use Rattle.hr_made.proofs.Texts.{IsPrinted, first_line}

-- a text of whole lines leads from what was said to what is said then, whatever stands behind it
pub record Goes (said : Said) (text : Text) (next : Said) : Type 0 where
  pub lines : ℕ
  pub goes : (n : ℕ) (rest : Text) → read_lines said n (lines_of (text ++ rest)) ≡ read_lines next (n + lines) (lines_of rest)

pub goes_nowhere : (said : Said) → Goes said [] said
goes_nowhere said = record { lines = 0; goes = λ n rest. let same : n ≡ n + 0 = omega arith in ap (λ k. read_lines said k (lines_of rest)) same }

pub goes_line : (said next : Said) (t : Text) → IsPrinted t → line_says said t ≡ Ok next → Goes said (line t) next
goes_line said next t all is = record {
  lines = 1;
  goes = λ n rest. ap (read_lines said n) (first_line t rest all) ∙ ap (λ z. read_on z (n + 1) (λ then. read_lines then (n + 1) (lines_of rest))) is;
}

pub goes_both : (said then next : Said) (a b : Text) → Goes said a then → Goes then b next → Goes said (a ++ b) next
goes_both said then next a b g h = record {
  lines = g.lines + h.lines;
  goes = λ n rest.
      let far : n + g.lines + h.lines ≡ n + (g.lines + h.lines) = omega arith in
      ap (λ z. read_lines said n (lines_of z)) (append_assoc a b rest) ∙ g.goes n (b ++ rest) ∙ h.goes (n + g.lines) rest ∙ ap (λ k. read_lines next k (lines_of rest)) far;
}
