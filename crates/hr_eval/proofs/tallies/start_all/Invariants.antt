use Rattle.std.proofs.Common.{◌≡◌, ◌≤◌, ◌-◌, [], length, map, take}
use Rattle.hr_eval.specs.Tallies.{tally_of}
use Rattle.hr_eval.proofs.tallies.start_all.Given as goal

abbrev pub invariant-tallies : goal.invariant-tallies
invariant-tallies l = record {
  within : l.at ≤ length l.items;
  length : length l.tallies ≡ length l.items;
  started : take l.at l.tallies ≡ map (tally_of []) (take l.at l.items);
}

abbrev pub decreases-tallies : goal.decreases-tallies
decreases-tallies l = length l.items - l.at
