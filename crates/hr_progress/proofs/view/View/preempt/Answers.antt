use Rattle.std.proofs.Common.{◌≡◌, true, sym, ◌∙◌, ap, subst, arith}
use Rattle.hr_history.specs.View.{View}
use Rattle.hr_moves.specs.Sane.{IsSane, IsReplica}
use Rattle.hr_moves.specs.Moves.{after_preempt}
use Rattle.hr_history.specs.declared.entry.Event.TheVariants as event
use Rattle.hr_sane.proofs.MoveLaws.{moves}
use Rattle.hr_progress.proofs.Sanes.{sane_after}
use Rattle.hr_progress.specs.Plain.{plain, plain_replica_in, with_preempted}
use Rattle.hr_progress.specs.Seen.{seen, seen_plain}
use Rattle.hr_progress.specs.Kept.{IsKept, ArePlaces, runs_out}
use Rattle.hr_moves.specs.Changes.{with_attempt}
use Rattle.hr_history.specs.View.{Attempt}
use Rattle.hr_progress.proofs.Replicas.{with_change, within, within_code, kept_change, places_change, seen_change}
use Rattle.hr_progress.proofs.Attempts.{keys_apart}
use Rattle.hr_progress.proofs.Preempts.{seen_preempted, counted_preempted, told_preempted}
use Rattle.hr_progress.proofs.Ready.{runs_no_more}
use Rattle.hr_progress.proofs.view.View.preempt.Goals as goal

pub preempt_at-requires : goal.preempt_at-requires
preempt_at-requires c = within_code c.self.inside.replicas.items c.args.replica (within (plain c.self.inside) c.args.replica c.self.invariant.sane (subst (λ (v : View). IsReplica v c.args.replica) (sym c.self.view_is) c.requires.known))

moved : (c : goal.After-preempt_at) → plain record c.self.inside { replicas = c.preempt_at.new.replicas } ≡ with_change (plain c.self.inside) c.args.replica (with_preempted c.args.txn)
moved c = λ i. record (plain c.self.inside) { replicas = c.preempt_at.ensures.value i }

after : (c : goal.After-preempt_at) → seen (record c.self.inside { replicas = c.preempt_at.new.replicas }) ≡ after_preempt c.args.self.now c.args.replica c.args.txn
after c =
    let p = plain c.self.inside in
    let r = c.args.replica in
    ap seen_plain (moved c)
    ∙ seen_change p r (with_preempted c.args.txn) (with_attempt c.args.txn (λ (a : Attempt). record a { preempted = true }))
    (seen_preempted c.args.txn p.replies p.fresh r (plain_replica_in p.replicas r) (keys_apart p r c.self.invariant.sane))
    ∙ ap (λ v. after_preempt v r c.args.txn) c.self.view_is

pub returns : goal.returns
returns c = λ place asks. after c ∙ sym (moves c.args.self.now place asks (subst IsSane c.self.view_is c.self.invariant.sane) (event.Preempt c.args.replica c.args.txn) (c.requires.known, c.requires.touched))

pub invariant_of-self : goal.invariant_of-self
invariant_of-self c =
    let p = plain c.self.inside in
    let q = plain_replica_in p.replicas c.args.replica in
    record {
      few = c.self.invariant.few;
      sane = subst IsSane (sym (after c)) (sane_after c.args.self.now 0 0 (event.Preempt c.args.replica c.args.txn) (subst IsSane c.self.view_is c.self.invariant.sane) (c.requires.known, c.requires.touched));
      kept = subst IsKept (sym (moved c)) (kept_change p c.args.replica (with_preempted c.args.txn) c.self.invariant.kept (counted_preempted c.args.txn p.txns p.log q));
      places = subst ArePlaces (sym (moved c)) (places_change p c.args.replica (with_preempted c.args.txn) c.self.invariant.places (told_preempted c.args.txn p.replies q));
      room = record {
        log = c.self.invariant.room.log;
        given = c.self.invariant.room.given;
        replies = omega (arith, c.self.invariant.room.replies, ap runs_out c.preempt_at.ensures.value, runs_no_more c.args.replica 0 (with_preempted c.args.txn) (plain c.self.inside).replicas (λ q run. run));
        ready = c.preempt_at.ensures.room c.self.invariant.room.ready;
      };
    }
