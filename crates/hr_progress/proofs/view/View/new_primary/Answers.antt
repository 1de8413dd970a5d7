use Rattle.std.proofs.Common.{sym, ◌∙◌, ap, subst}
use Rattle.hr_history.specs.declared.entry.Event.TheVariants as event
use Rattle.hr_moves.specs.Sane.{IsSane}
use Rattle.hr_moves.specs.Moves.{after_new_primary}
use Rattle.hr_sane.proofs.MoveLaws.{moves}
use Rattle.hr_progress.proofs.Sanes.{sane_after}
use Rattle.hr_progress.proofs.view.View.new_primary.Goals as goal

pub returns : goal.returns
returns c = λ place asks. ap (λ v. after_new_primary v c.args.replica) c.self.view_is ∙ sym (moves c.args.self.now place asks (subst IsSane c.self.view_is c.self.invariant.sane) (event.NewPrimary c.args.replica) (c.requires.known, c.requires.live))

pub invariant_of-self : goal.invariant_of-self
invariant_of-self c = record {
  few = c.self.invariant.few;
  sane = subst IsSane (sym (ap (λ v. after_new_primary v c.args.replica) c.self.view_is)) (sane_after c.args.self.now 0 0 (event.NewPrimary c.args.replica) (subst IsSane c.self.view_is c.self.invariant.sane) (c.requires.known, c.requires.live));
  kept = record { opened = c.self.invariant.kept.opened; counted = c.self.invariant.kept.counted };
  places = record { told = c.self.invariant.places.told; given = c.self.invariant.places.given };
  room = record { log = c.self.invariant.room.log; given = c.self.invariant.room.given; replies = c.self.invariant.room.replies; ready = c.self.invariant.room.ready };
}
