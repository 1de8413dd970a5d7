use Rattle.std.proofs.Common.{◌≡◌, Some, length, sym, ◌∙◌, ap, subst, refl, arith}
use Rattle.hr_history.specs.declared.job.Job.TheVariants as job
use Rattle.hr_history.specs.declared.job.JobReply.TheVariants as reply
use Rattle.hr_history.specs.View.{View, Progress}
use Rattle.hr_history.specs.Processed.{replica_in}
use Rattle.hr_moves.specs.Changes.{map_from, change_at, with_replica, with_attempt}
use Rattle.hr_moves.specs.Sane.{IsSane, IsReplica}
use Rattle.hr_moves.specs.Moves.{free, with_waits, with_reply, after_waits}
use Rattle.hr_progress.specs.Plain.{plain, plain_replica_in, with_waiting}
use Rattle.hr_progress.specs.Seen.{seen, seen_plain, waits_in}
use Rattle.hr_progress.specs.Kept.{IsKept, ArePlaces, is_run_of, runs_out}
use Rattle.hr_progress.proofs.Attempts.{keys_apart}
use Rattle.hr_progress.proofs.Attempted.{seen_waiting, told_waiting}
use Rattle.hr_progress.proofs.Gives.{gives_sane, run_is, runs, waits_are, waits_fit, out_seen, counted_waiting}
use Rattle.hr_progress.proofs.Ready.{runs_less}
use Rattle.hr_progress.proofs.Replicas.{with_change, within, within_code, kept_change, places_change, seen_change}
use Rattle.hr_progress.proofs.Replied.{with_told, seen_told, kept_told, places_told}
use Rattle.hr_progress.proofs.Rests.{seen_rest}
use Rattle.hr_progress.proofs.view.View.told_waits.Goals as goal

pub wait_at-requires-clause-known : goal.wait_at-requires-clause-known
wait_at-requires-clause-known c = within_code c.self.inside.replicas.items c.args.replica (within (plain c.self.inside) c.args.replica c.self.invariant.sane (subst (λ (v : View). IsReplica v c.args.replica) (sym c.self.view_is) c.requires.known))

pub wait_at-requires-clause-out : goal.wait_at-requires-clause-out
wait_at-requires-clause-out c = (sym (ap (is_run_of c.args.txn) (out_seen (plain c.self.inside) c.self.invariant.sane c.args.replica)) ∙ ap (λ (v : View). is_run_of c.args.txn (replica_in v c.args.replica).out) c.self.view_is ∙ c.requires.out)

pub push_reserved-requires : goal.push_reserved-requires
push_reserved-requires c = omega (arith, c.self.invariant.room.replies, runs_less c.args.replica 0 c.args.replica (with_waiting c.args.txn c.len.result) (plain c.self.inside).replicas (omega arith) (within (plain c.self.inside) c.args.replica c.self.invariant.sane (subst (λ (v : View). IsReplica v c.args.replica) (sym c.self.view_is) c.requires.known)) (λ q. refl) (runs c.args.txn _ (sym (ap (is_run_of c.args.txn) (out_seen (plain c.self.inside) c.self.invariant.sane c.args.replica)) ∙ ap (λ (v : View). is_run_of c.args.txn (replica_in v c.args.replica).out) c.self.view_is ∙ c.requires.out)))

moved : (c : goal.After-push_reserved) → plain record c.self.inside { replicas = c.wait_at.new.replicas; replies = c.push_reserved.new.self; fresh = Some record { replica = c.args.replica; txn = c.args.txn } } ≡ with_change (with_told (plain c.self.inside) c.args.replica c.args.txn c.args.reply c.self.invariant.places) c.args.replica (with_waiting c.args.txn (length (plain c.self.inside).replies))
moved c =
    let place = c.len.ensures ∙ c.self.inside.replies.ok.0 in
    λ i. record (plain c.self.inside) { replicas = (c.wait_at.ensures.value ∙ (λ j. map_from (change_at c.args.replica (with_waiting c.args.txn (place j))) 0 (plain c.self.inside).replicas)) i; replies = c.push_reserved.ensures.items i; fresh = Some record { replica = c.args.replica; txn = c.args.txn } }

after : (c : goal.After-push_reserved) → seen record c.self.inside { replicas = c.wait_at.new.replicas; replies = c.push_reserved.new.self; fresh = Some record { replica = c.args.replica; txn = c.args.txn } } ≡ after_waits c.args.self.now c.args.replica c.args.txn c.args.reply (waits_in (Some c.args.reply))
after c =
    let p = plain c.self.inside in
    let r = c.args.replica in
    let t = c.args.txn in
    let still = waits_in (Some c.args.reply) in
    let k = λ (x : Progress). with_attempt t (with_waits still) (free x) in
    ap seen_plain (moved c) ∙ seen_change (with_told p r t c.args.reply c.self.invariant.places) r (with_waiting t (length p.replies)) k (seen_waiting t r p.replies c.args.reply (plain_replica_in p.replicas r) (keys_apart p r c.self.invariant.sane))
    ∙ ap (with_replica r k) (seen_told p r t c.args.reply c.self.invariant.places ∙ ap (with_reply r t c.args.reply) (seen_rest p c.self.invariant.places)) ∙ ap (λ v. after_waits v r t c.args.reply still) c.self.view_is

pub returns : goal.returns
returns c = after c

pub invariant_of-self : goal.invariant_of-self
invariant_of-self c =
    let p = plain c.self.inside in
    let r = c.args.replica in
    let t = c.args.txn in
    let q = plain_replica_in p.replicas r in
    let n = length p.replies in
    let told = with_told p r t c.args.reply c.self.invariant.places in
    let more = places_told p r t c.args.reply c.self.invariant.places in
    let is = run_is t (replica_in c.args.self.now r).out c.requires.out in
    let its = run_is t q.out (sym (ap (is_run_of c.args.txn) (out_seen (plain c.self.inside) c.self.invariant.sane c.args.replica)) ∙ ap (λ (v : View). is_run_of c.args.txn (replica_in v c.args.replica).out) c.self.view_is ∙ c.requires.out) in
    record {
      few = c.self.invariant.few;
      sane = subst IsSane (sym (after c)) (subst IsSane (waits_are c.args.self.now 0 r t is.0 c.args.reply c.requires.waits) (gives_sane c.args.self.now 0 r (Some (job.Run t is.0)) (reply.Ran c.args.reply) (subst IsSane c.self.view_is c.self.invariant.sane) c.requires.known is.1 (waits_fit t is.0 c.args.reply c.requires.waits)));
      kept = subst IsKept (sym (moved c)) (kept_change told r (with_waiting t n) (kept_told p r t c.args.reply c.self.invariant.places c.self.invariant.kept) (counted_waiting p c.self.invariant.sane r t its.0 its.1 n));
      places = subst ArePlaces (sym (moved c)) (places_change told r (with_waiting t n) more (λ are. told_waiting t r p.replies c.args.reply q (keys_apart p r c.self.invariant.sane) are c.requires.waits));
      room = record {
        log = c.self.invariant.room.log;
        given = c.self.invariant.room.given;
        replies = omega (arith, c.self.invariant.room.replies, ap runs_out c.wait_at.ensures.value, c.push_reserved.ensures.len, c.push_reserved.ensures.capacity, runs_less c.args.replica 0 c.args.replica (with_waiting c.args.txn c.len.result) (plain c.self.inside).replicas (omega arith) (within (plain c.self.inside) c.args.replica c.self.invariant.sane (subst (λ (v : View). IsReplica v c.args.replica) (sym c.self.view_is) c.requires.known)) (λ q. refl) (runs c.args.txn _ (sym (ap (is_run_of c.args.txn) (out_seen (plain c.self.inside) c.self.invariant.sane c.args.replica)) ∙ ap (λ (v : View). is_run_of c.args.txn (replica_in v c.args.replica).out) c.self.view_is ∙ c.requires.out)));
        ready = c.wait_at.ensures.room;
      };
    }
