use Rattle.std.proofs.Common.{◌≡◌, ◌<◌, None, map, length, sym, ◌∙◌, ap, subst, refl, arith, true, false}
use Rattle.hr_history.specs.View.{View}
use Rattle.hr_moves.specs.Changes.{map_from, change_at, with_replica}
use Rattle.hr_moves.specs.Sane.{IsSane, IsReplica}
use Rattle.hr_moves.specs.Moves.{restart, after_restart}
use Rattle.hr_history.specs.declared.entry.Event.TheVariants as event
use Rattle.hr_sane.proofs.MoveLaws.{moves}
use Rattle.hr_progress.proofs.Sanes.{sane_after}
use Rattle.hr_progress.specs.Plain.{PlainView, plain, plain_txn, plain_replica_in, with_restart}
use Rattle.hr_progress.specs.Seen.{seen, seen_plain}
use Rattle.hr_progress.specs.Kept.{IsKept, ArePlaces, IsLeast, restarted, runs_out}
use Rattle.hr_progress.proofs.Replicas.{with_change, within, within_code, kept_change, places_change, seen_change}
use Rattle.hr_progress.proofs.Rests.{seen_rest}
use Rattle.hr_progress.proofs.Restarts.{in_doubt, least_restarted, counted_restarted}
use Rattle.hr_progress.proofs.Ready.{runs_no_more}
use Rattle.hr_progress.proofs.view.View.restarted.Goals as goal

no_run : false ≡ true → ⊥
no_run e = cc

known : (c : goal.After-deref-2) → c.args.replica < length (plain c.self.inside).replicas
known c = within (plain c.self.inside) c.args.replica c.self.invariant.sane (subst (λ (v : View). IsReplica v c.args.replica) (sym c.self.view_is) c.requires.known)

pub restart_at-requires-clause-known : goal.restart_at-requires-clause-known
restart_at-requires-clause-known c = within_code c.self.inside.replicas.items c.args.replica (known c)

pub restart_at-requires-clause-next : goal.restart_at-requires-clause-next
restart_at-requires-clause-next c = λ doubt.
    omega (arith, in_doubt (plain c.self.inside) c.args.replica c.self.invariant.sane doubt, c.self.inside.log.ok.0, c.self.inside.log.ok.1, c.self.inside.log.small)

pub restart_at-requires-clause-least : goal.restart_at-requires-clause-least
restart_at-requires-clause-least c =
    let p = plain c.self.inside in
    let q = plain_replica_in p.replicas c.args.replica in
    subst (λ ts. IsLeast (map plain_txn ts) c.deref-2.result.now (with_restart c.args.count q)) (sym c.deref.ensures.value)
    (subst (λ ns. IsLeast p.txns ns (with_restart c.args.count q)) (sym c.deref-2.ensures.value) (least_restarted p.txns p.log c.args.count q (c.self.invariant.kept.counted c.args.replica (known c))))

moved : (c : goal.After-restart_at) → plain record c.self.inside { replicas = c.restart_at.new.replicas; fresh = None } ≡ with_change record (plain c.self.inside) { fresh = None } c.args.replica (restarted (plain c.self.inside).txns (plain c.self.inside).log c.args.count)
moved c =
    let p = plain c.self.inside in
    λ i. record p {
      replicas = (c.restart_at.ensures.value ∙ (λ j. map_from (change_at c.args.replica (restarted (map plain_txn (c.deref.ensures.value j)) (c.deref-2.ensures.value j) c.args.count)) 0 p.replicas)) i;
      fresh = None;
    }

after : (c : goal.After-restart_at) → seen (record c.self.inside { replicas = c.restart_at.new.replicas; fresh = None }) ≡ after_restart c.args.self.now c.args.replica c.args.count
after c =
    let p = plain c.self.inside in
    ap seen_plain (moved c) ∙ seen_change record p { fresh = None } c.args.replica (restarted p.txns p.log c.args.count) (restart c.args.count) refl
    ∙ ap (with_replica c.args.replica (restart c.args.count)) (seen_rest p c.self.invariant.places) ∙ ap (λ v. after_restart v c.args.replica c.args.count) c.self.view_is

pub returns : goal.returns
returns c = λ place asks. after c ∙ sym (moves c.args.self.now place asks (subst IsSane c.self.view_is c.self.invariant.sane) (event.Restarted c.args.replica c.args.count) (c.requires.known, c.requires.out))

pub invariant_of-self : goal.invariant_of-self
invariant_of-self c =
    let p : PlainView = record (plain c.self.inside) { fresh = None } in
    let q = plain_replica_in p.replicas c.args.replica in
    record {
      few = c.self.invariant.few;
      sane = subst IsSane (sym (after c)) (sane_after c.args.self.now 0 0 (event.Restarted c.args.replica c.args.count) (subst IsSane c.self.view_is c.self.invariant.sane) (c.requires.known, c.requires.out));
      kept = subst IsKept (sym (moved c)) (kept_change p c.args.replica (restarted p.txns p.log c.args.count) record { opened = c.self.invariant.kept.opened; counted = c.self.invariant.kept.counted } (counted_restarted p.txns p.log c.args.count q));
      places = subst ArePlaces (sym (moved c)) (places_change p c.args.replica (restarted p.txns p.log c.args.count) record { told = c.self.invariant.places.told; given = c.self.invariant.places.given } (λ told. told));
      room = record {
        log = c.self.invariant.room.log;
        given = c.self.invariant.room.given;
        replies = omega (arith, c.self.invariant.room.replies, ap runs_out c.restart_at.ensures.value, runs_no_more c.args.replica 0 (restarted (map plain_txn c.deref.result.now) c.deref-2.result.now c.args.count) (plain c.self.inside).replicas (λ q run. absurd (no_run run)));
        ready = c.restart_at.ensures.room c.self.invariant.room.ready;
      };
    }
