use Rattle.std.proofs.Common.{◌≡◌}
use Rattle.hr_turn.specs.Passes.{lock_of, view_of, IsFree}
use Rattle.hr_thread_tests.specs.Numbered.{first_calls}
use Rattle.hr_thread_tests.proofs.turns.make_calls.Given as goal

abbrev pub invariant-calls : goal.invariant-calls
invariant-calls g l = record {
  lock : lock_of l.pass ≡ lock_of l.fn.pass;
  free : IsFree l.pass;
  number : (view_of l.pass).number ≡ l.fn.caller;
  mine : (view_of l.pass).mine ≡ first_calls l.fn.caller l.index;
}
