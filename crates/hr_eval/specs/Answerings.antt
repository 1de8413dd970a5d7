-- What an answer in the making holds of the rows or pairs that were kept so far, by the kind of its SELECT.
use Rattle.std.specs.Prelude.{◌≡◌, true, false, List, map}
use Rattle.hr_base.specs.Lists.{is_empty}
use Rattle.hr_rel.specs.declared.stmt.SelectStmt.{SelectStmt}
use Rattle.hr_rel.specs.Fit.{is_grouped}
use Rattle.hr_meaning.specs.Truth.{Tuple}
use Rattle.hr_eval.specs.declared.tally.Tally.{Tally}
use Rattle.hr_eval.specs.declared.answering.Answering.{Answering}
use Rattle.hr_eval.specs.declared.answering.Answering.TheVariants as answering
use Rattle.hr_eval.specs.Tallies.{tally_of}
use Rattle.hr_eval.specs.SoFar.{IsListed}
use Rattle.hr_eval.specs.Groups.{IsGrouped}

-- The tallies over all rows or pairs, of a SELECT with aggregates and no GROUP BY.
pub record IsWhole (s : SelectStmt) (tallies : List Tally) (kept : List Tuple) : Type 0 where
  pub alone : is_empty s.groups ≡ true
  pub grouped : is_grouped s ≡ true
  pub tallied : tallies ≡ map (tally_of kept) s.items

-- The answer so far: a row for each that is kept, or their groups, or the tallies over all of them.
abbrev pub IsSoFar : SelectStmt → Answering → List Tuple → Type 0
IsSoFar s (answering.Plain rows) kept = (is_grouped s ≡ false) × IsListed s.items rows kept
IsSoFar s (answering.Grouped groups) kept = (is_empty s.groups ≡ false) × IsGrouped s.groups s.items groups kept
IsSoFar s (answering.Whole tallies) kept = IsWhole s tallies kept
