use Rattle.std.proofs.Common.{◌-◌, Option, length, unwrap_or, refl, ap, sym, ◌∙◌, arith}
use Rattle.std.proofs.lemmas.Option.{slice_get_read, slice_get_past}
use Rattle.hr_progress.proofs.Lookups.{numbered_at}
use Rattle.hr_core.specs.declared.seat.Seat.{Seat}
use Rattle.hr_core.specs.declared.seat.Seat.TheVariants as seat
use Rattle.hr_core.proofs.whole.told.seat_at.Goals as goal

pub returns-in-Some : goal.returns-in-Some
returns-in-Some c =
    let xs = c.args.seats.now in
    let q = c.args.session in
    sym (ap (λ (o : Option Seat). unwrap_or o seat.NothingAsked) (numbered_at xs q (λ e. omega (arith, e, c.requires)) ∙ slice_get_read xs (length xs) (q - 1) c.in-Some.seat.now refl c.in-Some.ensures.lookup.3.0 c.in-Some.ensures.lookup.1))

pub returns-in-None : goal.returns-in-None
returns-in-None c =
    let xs = c.args.seats.now in
    let q = c.args.session in
    sym (ap (λ (o : Option Seat). unwrap_or o seat.NothingAsked) (numbered_at xs q (λ e. omega (arith, e, c.requires)) ∙ slice_get_past xs (q - 1) c.in-None.ensures.lookup.3))
