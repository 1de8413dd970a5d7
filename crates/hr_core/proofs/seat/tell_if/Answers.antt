use Rattle.std.proofs.Common.{slice_set, ap, ◌∙◌}
use Rattle.hr_core.specs.Seats.{first_told}
use Rattle.hr_core.proofs.Changes.{one_seat, no_seat}
use Rattle.hr_core.proofs.seat.tell_if.Goals as goal

pub returns-in-Some : goal.returns-in-Some
returns-in-Some c =
    let xs = c.args.seats.now.items in
    ap (slice_set xs c.in-Some.place) c.first_told.ensures ∙ one_seat c.args.session (first_told c.args.reply) xs c.len.result c.in-Some.place c.index.result.now (c.len.ensures ∙ c.args.seats.now.ok.0) c.in-Some.ensures c.index.ensures

pub returns-in-None : goal.returns-in-None
returns-in-None c = no_seat c.args.session (first_told c.args.reply) c.args.seats.now.items c.len.result (c.len.ensures ∙ c.args.seats.now.ok.0) c.in-None.ensures
