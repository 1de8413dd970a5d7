use Rattle.std.proofs.Common.{◌≡◌, true, false, None, Some, map, sym, ◌∙◌, ap, subst, refl, arith}
use Rattle.hr_engine.specs.declared.reply.EndReply.TheVariants as end
use Rattle.hr_history.specs.declared.job.Job.TheVariants as job
use Rattle.hr_history.specs.declared.job.JobReply.TheVariants as reply
use Rattle.hr_history.specs.View.{View, Progress}
use Rattle.hr_history.specs.Processed.{runs_in}
use Rattle.hr_moves.specs.Changes.{map_from, change_at, with_replica, with_attempts}
use Rattle.hr_moves.specs.Sane.{IsSane, IsReplica}
use Rattle.hr_moves.specs.Moves.{free, ended_among, after_rollback}
use Rattle.hr_progress.specs.Plain.{PlainView, PlainProgress, plain, plain_txn, plain_replica_in, to_idle, with_ended}
use Rattle.hr_progress.specs.Seen.{seen, seen_plain}
use Rattle.hr_progress.specs.Kept.{IsKept, ArePlaces, IsLeast, runs_out, recounted, back_to_before}
use Rattle.hr_progress.proofs.Attempts.{keys_apart}
use Rattle.hr_progress.proofs.Attempted.{seen_ended, told_ended}
use Rattle.hr_progress.proofs.Gives.{gives_sane, counted_ended, since_runs}
use Rattle.hr_progress.proofs.Least.{least_but_one}
use Rattle.hr_progress.proofs.Ready.{runs_no_more}
use Rattle.hr_progress.proofs.Replicas.{with_change, within, within_code, kept_change, places_change, seen_change}
use Rattle.hr_progress.proofs.Rests.{seen_rest}
use Rattle.hr_progress.proofs.view.View.rolled_back.Goals as goal

pub roll_back_at-requires-clause-known : goal.roll_back_at-requires-clause-known
roll_back_at-requires-clause-known c = within_code c.self.inside.replicas.items c.args.replica (within (plain c.self.inside) c.args.replica c.self.invariant.sane (subst (λ (v : View). IsReplica v c.args.replica) (sym c.self.view_is) c.requires.known))

pub roll_back_at-requires-clause-least : goal.roll_back_at-requires-clause-least
roll_back_at-requires-clause-least c =
    let p = plain c.self.inside in
    let r = c.args.replica in
    let q = plain_replica_in p.replicas r in
    subst (λ ts. IsLeast (map plain_txn ts) c.deref-2.result.now (back_to_before (map plain_txn ts) c.args.txn (with_ended c.args.txn q))) (sym c.deref.ensures.value)
    (subst (λ ns. IsLeast p.txns ns (back_to_before p.txns c.args.txn (with_ended c.args.txn q))) (sym c.deref-2.ensures.value) (least_but_one p c.self.invariant.sane c.args.txn to_idle q (c.self.invariant.kept.counted r (within (plain c.self.inside) c.args.replica c.self.invariant.sane (subst (λ (v : View). IsReplica v c.args.replica) (sym c.self.view_is) c.requires.known)))))

moved : (c : goal.After-roll_back_at) → plain record c.self.inside { replicas = c.roll_back_at.new.replicas; fresh = None } ≡ with_change record (plain c.self.inside) { fresh = None } c.args.replica (λ (q : PlainProgress). recounted (plain c.self.inside).txns (plain c.self.inside).log (with_ended c.args.txn q))
moved c = λ i. record (plain c.self.inside) { replicas = (c.roll_back_at.ensures.value ∙ (λ j. map_from (change_at c.args.replica (λ (q : PlainProgress). recounted (map plain_txn (c.deref.ensures.value j)) (c.deref-2.ensures.value j) (with_ended c.args.txn q))) 0 (plain c.self.inside).replicas)) i; fresh = None }

after : (c : goal.After-roll_back_at) → seen record c.self.inside { replicas = c.roll_back_at.new.replicas; fresh = None } ≡ after_rollback c.args.self.now c.args.replica c.args.txn
after c =
    let p : PlainView = record (plain c.self.inside) { fresh = None } in
    let r = c.args.replica in
    let t = c.args.txn in
    let q = plain_replica_in p.replicas r in
    let now = runs_in (seen_plain (plain c.self.inside)) r in
    let k = λ (x : Progress). with_attempts (ended_among t now) (free x) in
    ap seen_plain (moved c) ∙ seen_change p r (λ (q : PlainProgress). recounted (plain c.self.inside).txns (plain c.self.inside).log (with_ended c.args.txn q)) k (seen_ended t r p.replies q (keys_apart (plain c.self.inside) r c.self.invariant.sane) now (since_runs (plain c.self.inside) c.self.invariant.places r))
    ∙ ap (with_replica r k) (seen_rest (plain c.self.inside) c.self.invariant.places) ∙ ap (λ v. after_rollback v r t) c.self.view_is

pub returns : goal.returns
returns c = after c

pub invariant_of-self : goal.invariant_of-self
invariant_of-self c =
    let p : PlainView = record (plain c.self.inside) { fresh = None } in
    let r = c.args.replica in
    let t = c.args.txn in
    let g = (λ (q : PlainProgress). recounted (plain c.self.inside).txns (plain c.self.inside).log (with_ended c.args.txn q)) in
    let q = plain_replica_in p.replicas r in
    record {
      few = c.self.invariant.few;
      sane = subst IsSane (sym (after c)) (gives_sane c.args.self.now 0 r (Some (job.Rollback t)) (reply.Ended end.Done) (subst IsSane c.self.view_is c.self.invariant.sane) c.requires.known c.requires.out refl);
      kept = subst IsKept (sym (moved c)) (kept_change p r g record { opened = c.self.invariant.kept.opened; counted = c.self.invariant.kept.counted } (counted_ended p.txns p.log t q));
      places = subst ArePlaces (sym (moved c)) (places_change p r g record { told = c.self.invariant.places.told; given = c.self.invariant.places.given } (told_ended t p.replies q.attempts));
      room = record {
        log = c.self.invariant.room.log;
        given = c.self.invariant.room.given;
        replies = omega (arith, c.self.invariant.room.replies, ap runs_out c.roll_back_at.ensures.value, runs_no_more r 0 (λ (x : PlainProgress). recounted (map plain_txn c.deref.result.now) c.deref-2.result.now (with_ended c.args.txn x)) p.replicas (λ x run. absurd (wrong run)));
        ready = c.roll_back_at.ensures.room;
      };
    }
  where
    wrong : false ≡ true → ⊥
    wrong e = cc
