use Rattle.std.proofs.Common.{◌≡◌, Some, sym, ◌∙◌, ap, subst, refl, arith}
use Rattle.hr_engine.specs.declared.reply.RunReply.TheVariants as run
use Rattle.hr_history.specs.declared.job.Job.TheVariants as job
use Rattle.hr_history.specs.declared.job.JobReply.TheVariants as reply
use Rattle.hr_history.specs.View.{View}
use Rattle.hr_history.specs.Processed.{replica_in}
use Rattle.hr_moves.specs.Changes.{with_replica}
use Rattle.hr_moves.specs.Sane.{IsSane, IsReplica}
use Rattle.hr_moves.specs.Moves.{free, with_reply, after_no_memory}
use Rattle.hr_progress.specs.Plain.{plain, to_free}
use Rattle.hr_progress.specs.Seen.{seen, seen_plain}
use Rattle.hr_progress.specs.Kept.{IsKept, ArePlaces, is_run_of, runs_out}
use Rattle.hr_progress.proofs.Gives.{gives_sane, run_is, runs, out_seen}
use Rattle.hr_progress.proofs.Ready.{runs_less}
use Rattle.hr_progress.proofs.Replicas.{with_change, within, within_code, kept_change, places_change, seen_change}
use Rattle.hr_progress.proofs.Replied.{with_told, seen_told, kept_told, places_told}
use Rattle.hr_progress.proofs.Rests.{seen_rest}
use Rattle.hr_progress.proofs.view.View.no_memory.Goals as goal

pub free_at-requires-clause-known : goal.free_at-requires-clause-known
free_at-requires-clause-known c = within_code c.self.inside.replicas.items c.args.replica (within (plain c.self.inside) c.args.replica c.self.invariant.sane (subst (λ (v : View). IsReplica v c.args.replica) (sym c.self.view_is) c.requires.known))

pub push_reserved-requires : goal.push_reserved-requires
push_reserved-requires c = omega (arith, c.self.invariant.room.replies, runs_less c.args.replica 0 c.args.replica to_free (plain c.self.inside).replicas (omega arith) (within (plain c.self.inside) c.args.replica c.self.invariant.sane (subst (λ (v : View). IsReplica v c.args.replica) (sym c.self.view_is) c.requires.known)) (λ q. refl) (runs c.args.txn _ (sym (ap (is_run_of c.args.txn) (out_seen (plain c.self.inside) c.self.invariant.sane c.args.replica)) ∙ ap (λ (v : View). is_run_of c.args.txn (replica_in v c.args.replica).out) c.self.view_is ∙ c.requires.out)))

moved : (c : goal.After-push_reserved) → plain record c.self.inside { replicas = c.free_at.new.replicas; replies = c.push_reserved.new.self; fresh = Some record { replica = c.args.replica; txn = c.args.txn } } ≡ with_change (with_told (plain c.self.inside) c.args.replica c.args.txn run.NoMemory c.self.invariant.places) c.args.replica to_free
moved c = λ i. record (plain c.self.inside) { replicas = c.free_at.ensures.value i; replies = c.push_reserved.ensures.items i; fresh = Some record { replica = c.args.replica; txn = c.args.txn } }

after : (c : goal.After-push_reserved) → seen record c.self.inside { replicas = c.free_at.new.replicas; replies = c.push_reserved.new.self; fresh = Some record { replica = c.args.replica; txn = c.args.txn } } ≡ after_no_memory c.args.self.now c.args.replica c.args.txn
after c =
    let p = plain c.self.inside in
    let r = c.args.replica in
    let t = c.args.txn in
    ap seen_plain (moved c) ∙ seen_change (with_told p r t run.NoMemory c.self.invariant.places) r to_free free refl
    ∙ ap (with_replica r free) (seen_told p r t run.NoMemory c.self.invariant.places ∙ ap (with_reply r t run.NoMemory) (seen_rest p c.self.invariant.places)) ∙ ap (λ v. after_no_memory v r t) c.self.view_is

pub returns : goal.returns
returns c = after c

pub invariant_of-self : goal.invariant_of-self
invariant_of-self c =
    let p = plain c.self.inside in
    let r = c.args.replica in
    let t = c.args.txn in
    let told = with_told p r t run.NoMemory c.self.invariant.places in
    let is = run_is t (replica_in c.args.self.now r).out c.requires.out in
    record {
      few = c.self.invariant.few;
      sane = subst IsSane (sym (after c)) (gives_sane c.args.self.now 0 r (Some (job.Run t is.0)) (reply.Ran run.NoMemory) (subst IsSane c.self.view_is c.self.invariant.sane) c.requires.known is.1 refl);
      kept = subst IsKept (sym (moved c)) (kept_change told r to_free (kept_told p r t run.NoMemory c.self.invariant.places c.self.invariant.kept) (λ counted. record { touched = counted.touched; processed = counted.processed }));
      places = subst ArePlaces (sym (moved c)) (places_change told r to_free (places_told p r t run.NoMemory c.self.invariant.places) (λ told. told));
      room = record {
        log = c.self.invariant.room.log;
        given = c.self.invariant.room.given;
        replies = omega (arith, c.self.invariant.room.replies, ap runs_out c.free_at.ensures.value, c.push_reserved.ensures.len, c.push_reserved.ensures.capacity, runs_less c.args.replica 0 c.args.replica to_free (plain c.self.inside).replicas (omega arith) (within (plain c.self.inside) c.args.replica c.self.invariant.sane (subst (λ (v : View). IsReplica v c.args.replica) (sym c.self.view_is) c.requires.known)) (λ q. refl) (runs c.args.txn _ (sym (ap (is_run_of c.args.txn) (out_seen (plain c.self.inside) c.self.invariant.sane c.args.replica)) ∙ ap (λ (v : View). is_run_of c.args.txn (replica_in v c.args.replica).out) c.self.view_is ∙ c.requires.out)));
        ready = c.free_at.ensures.room;
      };
    }
