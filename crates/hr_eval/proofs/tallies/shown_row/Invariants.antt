use Rattle.std.proofs.Common.{◌≡◌, drop}
use Rattle.hr_meaning.specs.Value.{each}
use Rattle.hr_eval.specs.Tallies.{tally_shown}
use Rattle.hr_eval.specs.SoFar.{led}
use Rattle.hr_eval.proofs.tallies.shown_row.Given as goal

abbrev pub invariant-tallies : goal.invariant-tallies
invariant-tallies l = led l.row (each tally_shown (drop l.tally-index l.tallies)) ≡ each tally_shown l.tallies
