-- How the end of a transaction is told, behind its number.
use Rattle.std.specs.Prelude.{ℕ, Option, Some, None, List, ◌++◌, codes}
use Rattle.std.specs.List.{flat_map}
use Rattle.std.specs.Fmt.{decimal}
use Rattle.hr_base.specs.Texts.{Text, line}
use Rattle.hr_rel.specs.declared.answer.Answer.{Answer}
use Rattle.hr_history.specs.declared.cause.Cause.{Cause}
use Rattle.hr_history.specs.declared.cause.Cause.TheVariants as cause
use Rattle.hr_history.specs.declared.cause.Why.{Why}
use Rattle.hr_history.specs.declared.cause.Why.TheVariants as why
use Rattle.hr_history.specs.declared.reply.Ending.{Ending}
use Rattle.hr_history.specs.declared.reply.Ending.TheVariants as ending
use Rattle.hr_answer_text.specs.Answers.{answer_text}

-- each number with a blank before it
abbrev pub numbers_text : List ℕ → Text
numbers_text numbers = flat_map (λ n. codes " " ++ decimal n) numbers

abbrev pub why_text : Why → Text
why_text why.Convicted = codes "convicted"
why_text why.Lost = codes "lost"
why_text why.Suspected = codes "suspected"

-- it would have closed a cycle of waits
abbrev pub deadlock_text : List ℕ → Text
deadlock_text cycle = line (codes "deadlock" ++ numbers_text cycle)

-- the primary that it ran at is primary no more
abbrev pub primary_text : ℕ → Why → Text
primary_text from why = line (codes "primary " ++ decimal from ++ codes " " ++ why_text why)

-- the answer given to a statement isn't the one that replicas agree on; both stand below
abbrev pub differ_text : ℕ → Answer → Answer → Text
differ_text index given agreed =
    line (codes "differ " ++ decimal index) ++ line (codes "given " ++ answer_text given) ++ line (codes "agreed " ++ answer_text agreed)

-- why a transaction was refused
abbrev pub cause_text : Cause → Text
cause_text (cause.Deadlock cycle) = deadlock_text cycle
cause_text (cause.PrimaryChanged from why) = primary_text from why
cause_text (cause.Differ index given agreed) = differ_text index given agreed
cause_text cause.PrimaryMemory = line (codes "memory")

-- how a transaction ended; none where it is open
abbrev pub ending_text : Option Ending → Text
ending_text None = line (codes "unfinished")
ending_text (Some (ending.Committed place)) = line (codes "committed " ++ decimal place)
ending_text (Some ending.RolledBack) = line (codes "rolledback")
ending_text (Some (ending.Refused why)) = cause_text why
