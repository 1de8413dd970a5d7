use Rattle.std.proofs.Common.{◌≡◌, sym, ◌∙◌, ap, subst, refl, arith}
use Rattle.hr_history.specs.declared.phase.Phase.TheVariants as phase
use Rattle.hr_history.specs.View.{View, TxnState}
use Rattle.hr_moves.specs.Sane.{IsSane}
use Rattle.hr_moves.specs.Fits.{IsOpen}
use Rattle.hr_moves.specs.Moves.{after_refuse}
use Rattle.hr_history.specs.declared.entry.Event.TheVariants as event
use Rattle.hr_history.specs.declared.cause.CauseAt.{CauseAt}
use Rattle.hr_history.specs.declared.cause.CauseAt.TheVariants as cause
use Rattle.hr_sane.proofs.MoveLaws.{moves}
use Rattle.hr_progress.proofs.Sanes.{sane_after}
use Rattle.hr_progress.specs.Plain.{plain, to_phase}
use Rattle.hr_progress.specs.Seen.{seen, seen_plain}
use Rattle.hr_progress.specs.Kept.{IsKept, ArePlaces}
use Rattle.hr_progress.proofs.Txns.{with_end, seen_end, kept_end, places_end, closed, opened_plain}
use Rattle.hr_progress.proofs.view.View.refuse.Goals as goal

moved : (c : goal.After-close) → plain record c.self.inside { txns = c.set_phase.new.txns; opened = c.close.new.opened } ≡ with_end (plain c.self.inside) c.args.txn (to_phase phase.Refused)
moved c = λ i. record (plain c.self.inside) { txns = c.set_phase.ensures.phase i; opened = c.close.ensures.others i }

after : (c : goal.After-close) → seen (record c.self.inside { txns = c.set_phase.new.txns; opened = c.close.new.opened }) ≡ after_refuse c.args.self.now c.args.txn
after c = ap seen_plain (moved c) ∙ seen_end (plain c.self.inside) c.args.txn (to_phase phase.Refused) (λ (x : TxnState). record x { phase = phase.Refused }) (λ x. refl) ∙ ap (λ v. after_refuse v c.args.txn) c.self.view_is

pub returns : goal.returns
returns c = λ place asks (why : CauseAt). after c ∙ sym (moves c.args.self.now place asks (subst IsSane c.self.view_is c.self.invariant.sane) (event.Refuse c.args.txn why) c.requires)

pub invariant_of-self : goal.invariant_of-self
invariant_of-self c =
    let p = plain c.self.inside in
    let sane = c.self.invariant.sane in
    let opened = subst (λ (v : View). IsOpen v c.args.txn) (sym c.self.view_is) c.requires in
    record {
      few = c.self.invariant.few;
      sane = subst IsSane (sym (after c)) (sane_after c.args.self.now 0 0 (event.Refuse c.args.txn (cause.PrimaryMemory 0)) (subst IsSane c.self.view_is c.self.invariant.sane) c.requires);
      kept = subst IsKept (sym (moved c)) (kept_end p c.args.txn (to_phase phase.Refused) (opened_plain p c.args.txn opened) (closed p sane) c.self.invariant.kept refl);
      places = subst ArePlaces (sym (moved c)) (places_end p c.args.txn (to_phase phase.Refused) (λ x. refl) c.self.invariant.places);
      room = record { log = omega (arith, c.self.invariant.room.log, c.close.ensures.fewer); given = c.set_phase.ensures.room c.self.invariant.room.given; replies = c.self.invariant.room.replies; ready = c.self.invariant.room.ready };
    }
