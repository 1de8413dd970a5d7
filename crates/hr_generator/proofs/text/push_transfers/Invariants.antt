use Rattle.std.proofs.Common.{◌≡◌, ◌++◌, ◌*◌, string_bytes}
use Rattle.hr_generator.specs.Draws.{state_after}
use Rattle.hr_generator.specs.Made.{transfers_behind}
use Rattle.hr_generator.proofs.text.push_transfers.Given as goal

abbrev pub invariant-transfers : goal.invariant-transfers
invariant-transfers l =
    (string_bytes l.out ≡ string_bytes l.fn.out ++ transfers_behind l.fn.draws.state l.before)
    × (l.draws.state ≡ state_after l.fn.draws.state (4 * l.before))
