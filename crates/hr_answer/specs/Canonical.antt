-- Answers in canonical form.
use Rattle.std.specs.Prelude.{IsSorted}
use Rattle.hr_rel.specs.declared.answer.Answer.{Answer}
use Rattle.hr_rel.specs.declared.answer.Answer.TheVariants.{Rows, Count, Failed}
pub use Rattle.hr_meaning.specs.Order.{row_cmp}

-- an answer's rows, if it has some, are sorted
abbrev pub IsCanonical : Answer → Type 0
IsCanonical (Rows rows) = IsSorted row_cmp rows
IsCanonical (Count n) = Unit {0}
IsCanonical (Failed e) = Unit {0}
