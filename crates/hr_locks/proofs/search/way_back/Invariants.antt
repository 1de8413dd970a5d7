use Rattle.std.proofs.Common.{◌≡◌, ◌<◌, [], ◌++◌, length, get_or, IfSome}
use Rattle.hr_locks.specs.Searches.{routes, rest_by}
use Rattle.hr_locks.proofs.Links.{left}
use Rattle.hr_locks.proofs.search.way_back.Given as goal

-- what is left of the route goes on from the way so far
abbrev pub invariant-way : goal.invariant-way
invariant-way l = record {
  route : l.way.items ++ rest_by (routes l.queue) l.next ≡ get_or (routes l.queue) l.at [];
  within : IfSome l.next (λ here. here < length l.queue);
}

abbrev pub decreases-way : goal.decreases-way
decreases-way l = left l.next
