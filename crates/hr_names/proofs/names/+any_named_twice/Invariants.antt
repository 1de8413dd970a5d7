use Rattle.std.proofs.Common.{length}
use Rattle.hr_names.proofs.names.+any_named_twice.Given as goal

abbrev pub decreases-any_named_twice : goal.decreases-any_named_twice
decreases-any_named_twice l = length l.later.now
