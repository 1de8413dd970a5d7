use Rattle.std.proofs.Common.{length, refl, ◌∙◌}
use Rattle.hr_core.specs.Seats.{waiting}
use Rattle.hr_core.proofs.Changes.{one_waits, no_seat}
use Rattle.hr_core.proofs.seat.wait_if.Goals as goal

pub returns-in-Some : goal.returns-in-Some
returns-in-Some c = one_waits c.args.session c.args.seats.now.items c.len.result c.in-Some.place (c.len.ensures ∙ c.args.seats.now.ok.0) c.in-Some.ensures

pub returns-in-None : goal.returns-in-None
returns-in-None c = no_seat c.args.session waiting c.args.seats.now.items c.len.result (c.len.ensures ∙ c.args.seats.now.ok.0) c.in-None.ensures
