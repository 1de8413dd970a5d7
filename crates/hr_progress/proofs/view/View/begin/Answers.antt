use Rattle.std.proofs.Common.{◌≡◌, ◌+◌, ◌++◌, ◌∷◌, [], None, length, sym, ◌∙◌, ap, subst, refl, arith}
use Rattle.hr_history.specs.declared.phase.Phase.TheVariants as phase
use Rattle.hr_history.specs.View.{View}
use Rattle.hr_moves.specs.Sane.{IsSane}
use Rattle.hr_moves.specs.Moves.{after_begin}
use Rattle.hr_history.specs.declared.entry.Event.TheVariants as event
use Rattle.hr_sane.proofs.MoveLaws.{moves}
use Rattle.hr_progress.proofs.Sanes.{sane_after}
use Rattle.hr_progress.specs.Plain.{plain, plain_txn}
use Rattle.hr_progress.specs.Seen.{seen, seen_plain}
use Rattle.hr_progress.specs.Kept.{IsKept, ArePlaces}
use Rattle.hr_progress.proofs.Begins.{with_begun, seen_begun, kept_begun, places_begun}
use Rattle.hr_progress.proofs.Rests.{seen_rest}
use Rattle.std.proofs.lemmas.List.{length-map}
use Rattle.hr_progress.proofs.view.View.begin.Goals as goal

moved : (c : goal.After-push_reserved) → plain record c.self.inside { log = c.reserve.new.self; txns = c.begin.new.txns; fresh = None; opened = c.push_reserved.new.self } ≡ with_begun record (plain c.self.inside) { fresh = None } c.args.session
moved c =
    let p = plain c.self.inside in
    λ i. record p {
      log = c.reserve.ensures.items i;
      txns = c.in_ok-begin.ensures.ok i;
      fresh = None;
      opened = (c.push_reserved.ensures.items ∙ (λ j. c.reserve-2.ensures.items j ++ (count j + 1) ∷ [])) i;
    }
  where
    count : c.len-2.result ≡ length (plain c.self.inside).txns
    count = c.len-2.ensures ∙ c.self.inside.txns.ok.0 ∙ sym (length-map c.self.inside.txns.items plain_txn)

after : (c : goal.After-push_reserved) → seen (record c.self.inside { log = c.reserve.new.self; txns = c.begin.new.txns; fresh = None; opened = c.push_reserved.new.self }) ≡ after_begin c.args.self.now c.args.session
after c =
    let p = plain c.self.inside in
    ap seen_plain (moved c) ∙ seen_begun record p { fresh = None } c.args.session
    ∙ ap (λ (v : View). record v { txns = v.txns ++ record { session = c.args.session; statements = 0; given = []; phase = phase.Active } ∷ [] }) (seen_rest p c.self.invariant.places)
    ∙ ap (λ v. after_begin v c.args.session) c.self.view_is

pub returns-clause-ok : goal.returns-clause-ok
returns-clause-ok c = λ place asks. after c ∙ sym (moves c.args.self.now place asks (subst IsSane c.self.view_is c.self.invariant.sane) (event.Begin c.args.session (length c.args.self.now.txns + 1)) refl)

pub invariant_of-self-2 : goal.invariant_of-self-2
invariant_of-self-2 c =
    let p = plain c.self.inside in
    let kept = kept_begun p c.args.session c.self.invariant.sane c.self.invariant.kept in
    let places = places_begun p c.args.session c.self.invariant.places in
    record {
      few = c.self.invariant.few;
      sane = subst IsSane (sym (after c)) (sane_after c.args.self.now 0 0 (event.Begin c.args.session (length c.args.self.now.txns + 1)) (subst IsSane c.self.view_is c.self.invariant.sane) refl);
      kept = subst IsKept (sym (moved c)) record { opened = kept.opened; counted = kept.counted };
      places = subst ArePlaces (sym (moved c)) record { told = places.told; given = places.given };
      room = record {
        log = omega (arith, c.in_ok-reserve.ensures.ok, c.len.ensures, c.push_reserved.ensures.len, c.reserve-2.ensures.len);
        given = c.begin.ensures.room c.self.invariant.room.given;
        replies = c.self.invariant.room.replies;
        ready = c.self.invariant.room.ready;
      };
    }
