-- What the code finds in one commit. It mirrors the code and needn't be believed.
use Rattle.std.specs.Prelude.{◌≡◌, ℕ, ◌+◌, List, Option, Some, None}
use Rattle.std.specs.List.{AllZip}
use Rattle.hr_rel.specs.declared.answer.Answer.{Answer}
use Rattle.hr_meaning.specs.SameAnswer.{SameAnswer}
use Rattle.hr_audit.specs.declared.commit.Wrong.{Wrong}
use Rattle.hr_audit.specs.Wrong.{IsFirstWrong}

-- the first told answer that isn't due, where so many stand before these
abbrev pub FoundFrom : ℕ → List Answer → List Answer → Wrong → Type 0
FoundFrom n told due wrong = (k : ℕ) × (wrong.index ≡ n + k + 1) × IsFirstWrong told due k wrong.told wrong.due

-- nothing, or the first told answer that isn't due
abbrev pub Found : ℕ → List Answer → List Answer → Option Wrong → Type 0
Found n told due None = AllZip SameAnswer due told
Found n told due (Some wrong) = FoundFrom n told due wrong
