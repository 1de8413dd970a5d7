use Rattle.std.proofs.Common.{arith, ◌∙◌}
use Rattle.hr_io.proofs.Streams.{Appends_front}
use Rattle.hr_io.proofs.whole.write_whole.Goals as goal

pub writes-preserved : goal.writes-preserved
writes-preserved g c = record {
  within = omega (arith, c.in_ok-done.ensures.bound);
  taken = Appends_front _ _ _ c.args.text.now c.writes.done _ c.writes.invariant.taken c.in_ok-done.ensures.bytes;
  told = c.in_ok-done.ensures.cause.sound ∙ c.writes.invariant.told;
}
