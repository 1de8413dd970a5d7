-- Histories in which two of three replicas lie alike, and the third, which is correct, is convicted.
use Rattle.std.specs.Prelude.{◌≡◌, true, ◌∷◌, ◌++◌, []}
use Rattle.hr_history.specs.declared.entry.Event.TheVariants as event
use Rattle.hr_history.specs.declared.cause.CauseAt.TheVariants as cause
use Rattle.hr_history.specs.declared.evidence.Evidence.TheVariants as evidence
use Rattle.hr_history.specs.History.{History, history_of}
use Rattle.hr_history.specs.Faithful.{is_begun, Correct}
use Rattle.hr_history_worked.specs.Entries.{follows, ask_commit}
use Rattle.hr_serial.specs.Serial.{LiarsAreAtMost, AtEachDecide}
use Rattle.hr_barriers_worked.specs.OneRow.{empty_table, submitted, honest, lies}

-- the primary is correct, both others lie, and the transaction is refused
abbrev pub others_contradict : History
others_contradict = history_of (submitted ++ honest 0 ++ lies 1 ++ lies 2 ++ ask_commit 1 1 ∷ follows 4 (event.Refuse 1 (cause.Differ 1 1 5)) ∷ [])

-- then the primary is convicted
abbrev pub primary_convicted : History
primary_convicted = follows 4 (event.Convict 0 (evidence.Contradicted 1 1)) ∷ others_contradict

-- replica 2 is correct, both others lie, and the transaction is decided
abbrev pub others_agree : History
others_agree = history_of (submitted ++ lies 0 ++ lies 1 ++ honest 2 ++ ask_commit 1 1 ∷ follows 4 (event.Decide 1) ∷ [])

-- then replica 2 is convicted
abbrev pub secondary_convicted : History
secondary_convicted = follows 4 (event.Convict 2 (evidence.Differs 1 1)) ∷ others_agree

-- The history follows the rules, at most 2 of the 3 replicas aren't correct, and the convicted primary is.
pub record ConvictsPrimary : Type 0 where
  pub begun : is_begun 1 1 primary_convicted ≡ true
  pub correct : Correct empty_table others_contradict 0
  pub liars : LiarsAreAtMost 2 1 empty_table others_contradict

-- The history follows the rules, at its decision at most 2 of the 3 replicas weren't correct, and the convicted secondary is.
pub record ConvictsSecondary : Type 0 where
  pub begun : is_begun 1 1 secondary_convicted ≡ true
  pub correct : Correct empty_table others_agree 2
  pub liars : AtEachDecide (LiarsAreAtMost 2 1 empty_table) others_agree
