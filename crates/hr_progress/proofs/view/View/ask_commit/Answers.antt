use Rattle.std.proofs.Common.{◌≡◌, ◌+◌, None, sym, ◌∙◌, ap, subst, refl}
use Rattle.hr_history.specs.declared.phase.Phase.TheVariants as phase
use Rattle.hr_history.specs.View.{View, TxnState}
use Rattle.hr_moves.specs.Changes.{with_phase}
use Rattle.hr_moves.specs.Sane.{IsSane}
use Rattle.hr_moves.specs.Fits.{IsOpen}
use Rattle.hr_moves.specs.Moves.{after_ask_commit}
use Rattle.hr_history.specs.declared.entry.Event.TheVariants as event
use Rattle.hr_sane.proofs.MoveLaws.{moves}
use Rattle.hr_progress.proofs.Sanes.{sane_after}
use Rattle.hr_progress.specs.Plain.{PlainView, plain, to_phase}
use Rattle.hr_progress.specs.Seen.{seen, seen_plain}
use Rattle.hr_progress.specs.Kept.{IsKept, ArePlaces}
use Rattle.hr_progress.proofs.Rests.{seen_rest}
use Rattle.hr_progress.proofs.Txns.{with_open, seen_open, kept_open, places_open, closed, opened_plain}
use Rattle.hr_progress.proofs.view.View.ask_commit.Goals as goal

moved : (c : goal.After-set_phase) → plain record c.self.inside { txns = c.set_phase.new.txns; fresh = None } ≡ with_open record (plain c.self.inside) { fresh = None } c.args.txn (to_phase (phase.Asked (c.args.asks + 1)))
moved c = λ i. record (plain c.self.inside) { txns = c.set_phase.ensures.phase i; fresh = None }

after : (c : goal.After-set_phase) → seen (record c.self.inside { txns = c.set_phase.new.txns; fresh = None }) ≡ after_ask_commit c.args.self.now c.args.asks c.args.txn
after c =
    let p = plain c.self.inside in
    let asked = phase.Asked (c.args.asks + 1) in
    ap seen_plain (moved c) ∙ seen_open record p { fresh = None } c.args.txn (to_phase asked) (λ (x : TxnState). record x { phase = asked }) (λ x. refl)
    ∙ ap (with_phase c.args.txn asked) (seen_rest p c.self.invariant.places) ∙ ap (λ v. after_ask_commit v c.args.asks c.args.txn) c.self.view_is

pub returns : goal.returns
returns c = λ place. after c ∙ sym (moves c.args.self.now place c.args.asks (subst IsSane c.self.view_is c.self.invariant.sane) (event.AskCommit c.args.txn) c.requires.open)

pub invariant_of-self : goal.invariant_of-self
invariant_of-self c =
    let p : PlainView = record (plain c.self.inside) { fresh = None } in
    let asked = phase.Asked (c.args.asks + 1) in
    let opened = opened_plain (plain c.self.inside) c.args.txn (subst (λ (v : View). IsOpen v c.args.txn) (sym c.self.view_is) c.requires.open) in
    let shut = closed (plain c.self.inside) c.self.invariant.sane in
    record {
      few = c.self.invariant.few;
      sane = subst IsSane (sym (after c)) (sane_after c.args.self.now 0 c.args.asks (event.AskCommit c.args.txn) (subst IsSane c.self.view_is c.self.invariant.sane) c.requires.open);
      kept = subst IsKept (sym (moved c)) (kept_open p c.args.txn (to_phase asked) opened shut record { opened = c.self.invariant.kept.opened; counted = c.self.invariant.kept.counted } refl);
      places = subst ArePlaces (sym (moved c)) (places_open p c.args.txn (to_phase asked) (λ x. refl) record { told = c.self.invariant.places.told; given = c.self.invariant.places.given });
      room = record { log = c.self.invariant.room.log; given = c.set_phase.ensures.room c.self.invariant.room.given; replies = c.self.invariant.room.replies; ready = c.self.invariant.room.ready };
    }
