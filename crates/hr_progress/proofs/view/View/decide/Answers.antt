use Rattle.std.proofs.Common.{◌≡◌, ◌+◌, List, map, sym, ◌∙◌, ap, subst, refl, arith}
use Rattle.hr_base.specs.Lists.{has}
use Rattle.hr_history.specs.declared.phase.Phase.TheVariants as phase
use Rattle.hr_history.specs.View.{View}
use Rattle.hr_moves.specs.Changes.{map_from, change_at}
use Rattle.hr_moves.specs.Sane.{IsSane}
use Rattle.hr_moves.specs.Fits.{IsOpen}
use Rattle.hr_moves.specs.Moves.{after_decide}
use Rattle.hr_history.specs.declared.entry.Event.TheVariants as event
use Rattle.hr_sane.proofs.MoveLaws.{moves}
use Rattle.hr_progress.proofs.Sanes.{sane_after}
use Rattle.hr_progress.specs.Plain.{PlainTxn, plain, plain_txn, to_phase}
use Rattle.hr_progress.specs.Seen.{seen, seen_plain}
use Rattle.hr_progress.specs.Kept.{IsKept, ArePlaces, NoneLess, recounted, runs_out}
use Rattle.hr_progress.proofs.Decides.{decided, txns_then, log_then, seen_decided, less_then, kept_decided, places_decided, is_opened}
use Rattle.hr_progress.proofs.Txns.{closed, opened_plain}
use Rattle.hr_progress.proofs.Ready.{runs_map}
use Rattle.hr_progress.proofs.view.View.decide.Goals as goal

pub push_reserved-requires : goal.push_reserved-requires
push_reserved-requires c =
    let opened = opened_plain (plain c.self.inside) c.args.txn (subst (λ (v : View). IsOpen v c.args.txn) (sym c.self.view_is) c.requires) in
    omega (arith, c.close.ensures.one (ap (λ ts. has ts c.args.txn) c.self.invariant.kept.opened ∙ is_opened (plain c.self.inside).txns c.args.txn opened), c.self.invariant.room.log)

-- the lists that the replicas are counted by
seen_txns : (c : goal.After-deref-2) → map plain_txn c.deref.result.now ≡ txns_then (plain c.self.inside) c.args.txn
seen_txns c = ap (map plain_txn) c.deref.ensures.value ∙ c.set_phase.ensures.phase ∙ ap (λ n. map_from (change_at c.args.txn (to_phase (phase.Logged (n + 1)))) 1 (map plain_txn c.self.inside.txns.items)) (c.len.ensures ∙ c.self.inside.log.ok.0)

seen_log : (c : goal.After-deref-2) → c.deref-2.result.now ≡ log_then (plain c.self.inside) c.args.txn
seen_log c = c.deref-2.ensures.value ∙ c.push_reserved.ensures.items

pub recount-requires : goal.recount-requires
recount-requires c =
    let p = plain c.self.inside in
    let opened = opened_plain p c.args.txn (subst (λ (v : View). IsOpen v c.args.txn) (sym c.self.view_is) c.requires) in
    let shut = closed p c.self.invariant.sane in
    subst (λ (ts : List PlainTxn). NoneLess ts c.deref-2.result.now p.replicas) (sym (seen_txns c))
    (subst (λ ns. NoneLess (txns_then p c.args.txn) ns p.replicas) (sym (seen_log c)) (less_then p c.args.txn opened shut c.self.invariant.kept))

txns_at : (c : goal.After-recount) → map plain_txn c.deref.result.now ≡ txns_then (plain c.self.inside) c.args.txn
txns_at c = ap (map plain_txn) c.deref.ensures.value ∙ c.set_phase.ensures.phase ∙ ap (λ n. map_from (change_at c.args.txn (to_phase (phase.Logged (n + 1)))) 1 (map plain_txn c.self.inside.txns.items)) (c.len.ensures ∙ c.self.inside.log.ok.0)

log_at : (c : goal.After-recount) → c.deref-2.result.now ≡ log_then (plain c.self.inside) c.args.txn
log_at c = c.deref-2.ensures.value ∙ c.push_reserved.ensures.items

moved : (c : goal.After-recount) → plain record c.self.inside { log = c.push_reserved.new.self; txns = c.set_phase.new.txns; replicas = c.recount.new.replicas; opened = c.close.new.opened } ≡ decided (plain c.self.inside) c.args.txn
moved c =
    let p = plain c.self.inside in
    λ i. record p {
      log = c.push_reserved.ensures.items i;
      txns = (c.set_phase.ensures.phase ∙ ap (λ n. map_from (change_at c.args.txn (to_phase (phase.Logged (n + 1)))) 1 (map plain_txn c.self.inside.txns.items)) (c.len.ensures ∙ c.self.inside.log.ok.0)) i;
      replicas = (c.recount.ensures.value ∙ (λ j. map (recounted (txns_at c j) (log_at c j)) p.replicas)) i;
      opened = c.close.ensures.others i;
    }

after : (c : goal.After-recount) → seen (record c.self.inside { log = c.push_reserved.new.self; txns = c.set_phase.new.txns; replicas = c.recount.new.replicas; opened = c.close.new.opened }) ≡ after_decide c.args.self.now c.args.txn
after c = ap seen_plain (moved c) ∙ seen_decided (plain c.self.inside) c.args.txn ∙ ap (λ v. after_decide v c.args.txn) c.self.view_is

pub returns : goal.returns
returns c = λ place asks. after c ∙ sym (moves c.args.self.now place asks (subst IsSane c.self.view_is c.self.invariant.sane) (event.Decide c.args.txn) c.requires)

pub invariant_of-self : goal.invariant_of-self
invariant_of-self c =
    let p = plain c.self.inside in
    let opened = opened_plain p c.args.txn (subst (λ (v : View). IsOpen v c.args.txn) (sym c.self.view_is) c.requires) in
    let shut = closed p c.self.invariant.sane in
    record {
      few = c.self.invariant.few;
      sane = subst IsSane (sym (after c)) (sane_after c.args.self.now 0 0 (event.Decide c.args.txn) (subst IsSane c.self.view_is c.self.invariant.sane) c.requires);
      kept = subst IsKept (sym (moved c)) (kept_decided p c.args.txn opened shut c.self.invariant.kept);
      places = subst ArePlaces (sym (moved c)) (places_decided p c.args.txn c.self.invariant.places);
      room = record {
        log = omega (arith, c.self.invariant.room.log, c.push_reserved.ensures.len, c.push_reserved.ensures.capacity, c.close.ensures.one (ap (λ ts. has ts c.args.txn) c.self.invariant.kept.opened ∙ is_opened p.txns c.args.txn opened));
        given = c.set_phase.ensures.room c.self.invariant.room.given;
        replies = omega (arith, c.self.invariant.room.replies, ap runs_out c.recount.ensures.value, runs_map (recounted (map plain_txn c.deref.result.now) c.deref-2.result.now) p.replicas (λ q. refl));
        ready = c.recount.ensures.room c.self.invariant.room.ready;
      };
    }
