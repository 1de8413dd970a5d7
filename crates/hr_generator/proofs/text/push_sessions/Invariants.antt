use Rattle.std.proofs.Common.{◌≡◌, ◌++◌, ◌*◌, string_bytes}
use Rattle.std.specs.List.{flat_map, range_with_len}
use Rattle.hr_generator.specs.Draws.{state_after}
use Rattle.hr_generator.specs.Made.{session_text}
use Rattle.hr_generator.proofs.text.push_sessions.Given as goal

abbrev pub invariant-sessions : goal.invariant-sessions
invariant-sessions l =
    (string_bytes l.out ≡ string_bytes l.fn.out ++ flat_map (session_text l.order) (range_with_len 0 l.before))
    × (l.draws.state ≡ state_after l.order.seed (4 * (l.before * l.order.transactions)))
