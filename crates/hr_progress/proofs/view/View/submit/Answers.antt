use Rattle.std.proofs.Common.{◌≡◌, ◌+◌, None, sym, ◌∙◌, ap, subst, refl}
use Rattle.hr_history.specs.View.{View, TxnState}
use Rattle.hr_moves.specs.Changes.{with_txn}
use Rattle.hr_moves.specs.Sane.{IsSane}
use Rattle.hr_moves.specs.Fits.{IsOpen}
use Rattle.hr_moves.specs.Moves.{after_submit}
use Rattle.hr_history.specs.declared.entry.Event.TheVariants as event
use Rattle.hr_rel.specs.declared.stmt.Stmt.{Stmt}
use Rattle.hr_history.specs.Replicas.{any_stmt}
use Rattle.hr_sane.proofs.MoveLaws.{moves}
use Rattle.hr_progress.proofs.Sanes.{sane_after}
use Rattle.hr_progress.specs.Plain.{PlainView, plain, with_statement}
use Rattle.hr_progress.specs.Seen.{seen, seen_plain}
use Rattle.hr_progress.specs.Kept.{IsKept, ArePlaces}
use Rattle.hr_progress.proofs.Rests.{seen_rest}
use Rattle.hr_progress.proofs.Txns.{with_open, seen_open, kept_open, places_open, closed, opened_plain}
use Rattle.hr_progress.proofs.view.View.submit.Goals as goal

moved : (c : goal.In_ok-add_statement) → plain record c.self.inside { txns = c.add_statement.new.txns; fresh = None } ≡ with_open record (plain c.self.inside) { fresh = None } c.args.txn with_statement
moved c = λ i. record (plain c.self.inside) { txns = c.in_ok-add_statement.ensures.ok i; fresh = None }

after : (c : goal.In_ok-add_statement) → seen (record c.self.inside { txns = c.add_statement.new.txns; fresh = None }) ≡ after_submit c.args.self.now c.args.txn
after c =
    let p = plain c.self.inside in
    let more = λ (x : TxnState). record x { statements = x.statements + 1 } in
    ap seen_plain (moved c) ∙ seen_open record p { fresh = None } c.args.txn with_statement more (λ x. refl)
    ∙ ap (with_txn c.args.txn more) (seen_rest p c.self.invariant.places) ∙ ap (λ v. after_submit v c.args.txn) c.self.view_is

pub returns-clause-ok : goal.returns-clause-ok
returns-clause-ok c = λ place asks index (stmt : Stmt). after c ∙ sym (moves c.args.self.now place asks (subst IsSane c.self.view_is c.self.invariant.sane) (event.Submit c.args.txn index stmt) c.requires.open)

pub invariant_of-self-2 : goal.invariant_of-self-2
invariant_of-self-2 c =
    let p : PlainView = record (plain c.self.inside) { fresh = None } in
    let opened = opened_plain (plain c.self.inside) c.args.txn (subst (λ (v : View). IsOpen v c.args.txn) (sym c.self.view_is) c.requires.open) in
    let shut = closed (plain c.self.inside) c.self.invariant.sane in
    record {
      few = c.self.invariant.few;
      sane = subst IsSane (sym (after c)) (sane_after c.args.self.now 0 0 (event.Submit c.args.txn 0 any_stmt) (subst IsSane c.self.view_is c.self.invariant.sane) c.requires.open);
      kept = subst IsKept (sym (moved c)) (kept_open p c.args.txn with_statement opened shut record { opened = c.self.invariant.kept.opened; counted = c.self.invariant.kept.counted } opened);
      places = subst ArePlaces (sym (moved c)) (places_open p c.args.txn with_statement (λ x. refl) record { told = c.self.invariant.places.told; given = c.self.invariant.places.given });
      room = record { log = c.self.invariant.room.log; given = c.add_statement.ensures.room c.self.invariant.room.given; replies = c.self.invariant.room.replies; ready = c.self.invariant.room.ready };
    }
