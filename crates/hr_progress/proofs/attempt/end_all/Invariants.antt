use Rattle.std.proofs.Common.{◌≡◌, map}
use Rattle.hr_moves.specs.Changes.{map_from}
use Rattle.hr_progress.specs.Plain.{plain_entry, to_idle_entry}
use Rattle.hr_progress.proofs.Recounts.{up_to}
use Rattle.hr_progress.proofs.attempt.end_all.Given as goal

abbrev pub invariant-attempts : goal.invariant-attempts
invariant-attempts l = map plain_entry l.attempts.entries ≡ map_from (up_to l.place to_idle_entry) 0 (map plain_entry l.fn.attempts.entries)
