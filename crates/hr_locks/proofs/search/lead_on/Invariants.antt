use Rattle.std.proofs.Common.{◌≡◌, drop}
use Rattle.hr_locks.specs.Searches.{led_on, AreFound}
use Rattle.hr_locks.proofs.search.lead_on.Given as goal

-- what is left leads on to what the whole wait does
abbrev pub invariant-names : goal.invariant-names
invariant-names l = record {
  queue : led_on l.at (drop l.name-index l.names) l.queue.items ≡ led_on l.at l.names l.fn.queue.items;
  found : AreFound l.found.items l.queue.items;
}
