use Rattle.std.proofs.Common.{Some, ap, sym, ◌∙◌}
use Rattle.hr_history.specs.declared.entry.Event.TheVariants as event
use Rattle.hr_history.specs.Faithful.{fits_job}
use Rattle.hr_history.specs.Processed.{replica_in}
use Rattle.hr_moves.specs.Moves.{after_give}
use Rattle.hr_sane.proofs.MoveLaws.{moves}
use Rattle.hr_progress.proofs.Gives.{still_out, anywhere}
use Rattle.hr_progress.proofs.view.View.give.Goals as goal

pub returns-in-Some-Run-clause-step : goal.returns-in-Some-Run-clause-step
returns-in-Some-Run-clause-step c = λ asks.
    let v = c.args.self.now in
    let r = c.args.replica in
    let out = sym c.out.ensures ∙ c.in-Some-Run.is ∙ ap Some c.in-Some-Run.field-0-is in
    c.ran.ensures.step ∙ sym (λ i. after_give v c.args.place r (out i) (c.in-Ran.is i)) ∙ sym (moves v c.args.place asks c.sane.ensures (event.Give r c.args.reply) (c.requires.known, c.requires.fits))

pub returns-in-Ended-clause-step : goal.returns-in-Ended-clause-step
returns-in-Ended-clause-step c = λ asks.
    let v = c.args.self.now in
    let r = c.args.replica in
    c.ended.ensures ∙ anywhere v 0 c.args.place r (replica_in v r).out c.in-Ended.reply ∙ sym (ap (after_give v c.args.place r (replica_in v r).out) c.in-Ended.is)
    ∙ sym (moves v c.args.place asks c.sane.ensures (event.Give r c.args.reply) (c.requires.known, c.requires.fits))

pub returns-in-StillLost-clause-step : goal.returns-in-StillLost-clause-step
returns-in-StillLost-clause-step c = λ asks.
    let v = c.args.self.now in
    let r = c.args.replica in
    let out = still_out (replica_in v r).out (sym (ap (λ told. fits_job told (replica_in v r).out) c.in-StillLost.is) ∙ c.requires.fits) in
    c.still_lost.ensures ∙ sym (λ i. after_give v c.args.place r (out i) (c.in-StillLost.is i)) ∙ sym (moves v c.args.place asks c.sane.ensures (event.Give r c.args.reply) (c.requires.known, c.requires.fits))
