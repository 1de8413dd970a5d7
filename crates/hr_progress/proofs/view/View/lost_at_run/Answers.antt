use Rattle.std.proofs.Common.{◌≡◌, false, Some, [], ◌∷◌, ◌++◌, map, sym, ◌∙◌, ap, subst, refl, arith}
use Rattle.hr_engine.specs.declared.reply.RunReply.TheVariants as run
use Rattle.hr_history.specs.declared.job.Job.TheVariants as job
use Rattle.hr_history.specs.declared.job.JobReply.TheVariants as reply
use Rattle.hr_history.specs.Primary.{other_than}
use Rattle.hr_history.specs.View.{View, Progress}
use Rattle.hr_history.specs.Processed.{replica_in}
use Rattle.hr_moves.specs.Changes.{map_from, change_at, with_replica}
use Rattle.hr_moves.specs.Sane.{IsSane, IsReplica}
use Rattle.hr_moves.specs.Moves.{lose, with_reply, after_loss}
use Rattle.hr_progress.specs.Plain.{PlainProgress, plain, plain_txn, plain_replica_in, to_idle_entry, with_loss}
use Rattle.hr_progress.specs.Seen.{seen, seen_plain}
use Rattle.hr_progress.specs.Kept.{IsKept, ArePlaces, IsLeast, is_run_of, runs_out, recounted, back_to_position}
use Rattle.hr_progress.proofs.Attempted.{seen_loss, told_lost}
use Rattle.hr_progress.proofs.Gives.{gives_sane, run_is, runs, out_seen, counted_loss}
use Rattle.hr_progress.proofs.Least.{least_committed}
use Rattle.hr_progress.proofs.Parts.{replica_seen}
use Rattle.hr_progress.proofs.Ready.{runs_less}
use Rattle.hr_progress.proofs.Replicas.{with_change, within, within_code, kept_change, places_change, seen_change}
use Rattle.hr_progress.proofs.Replied.{with_told, seen_told, kept_told, places_told}
use Rattle.hr_progress.proofs.Rests.{seen_rest}
use Rattle.hr_progress.proofs.view.View.lost_at_run.Goals as goal

pub lose_at-requires-clause-known : goal.lose_at-requires-clause-known
lose_at-requires-clause-known c = within_code c.self.inside.replicas.items c.args.replica (within (plain c.self.inside) c.args.replica c.self.invariant.sane (subst (λ (v : View). IsReplica v c.args.replica) (sym c.self.view_is) c.requires.known))

pub lose_at-requires-clause-least : goal.lose_at-requires-clause-least
lose_at-requires-clause-least c =
    let p = plain c.self.inside in
    let r = c.args.replica in
    let q = plain_replica_in p.replicas r in
    subst (λ ts. IsLeast (map plain_txn ts) c.deref-2.result.now (back_to_position (with_loss false q))) (sym c.deref.ensures.value)
    (subst (λ ns. IsLeast p.txns ns (back_to_position (with_loss false q))) (sym c.deref-2.ensures.value) (least_committed p c.self.invariant.sane q.position (map to_idle_entry q.attempts) (omega (arith, c.self.invariant.sane.position r, ap (λ (x : Progress). x.position) (replica_seen p r)))))

pub push_reserved-requires : goal.push_reserved-requires
push_reserved-requires c = omega (arith, c.self.invariant.room.replies, runs_less c.args.replica 0 c.args.replica (λ (q : PlainProgress). with_loss false q) (plain c.self.inside).replicas (omega arith) (within (plain c.self.inside) c.args.replica c.self.invariant.sane (subst (λ (v : View). IsReplica v c.args.replica) (sym c.self.view_is) c.requires.known)) (λ q. refl) (runs c.args.txn _ (sym (ap (is_run_of c.args.txn) (out_seen (plain c.self.inside) c.self.invariant.sane c.args.replica)) ∙ ap (λ (v : View). is_run_of c.args.txn (replica_in v c.args.replica).out) c.self.view_is ∙ c.requires.out)))

moved : (c : goal.After-push_reserved) → plain record c.self.inside { replicas = c.lose_at.new.replicas; primary = c.other_than.result; replies = c.push_reserved.new.self; fresh = Some record { replica = c.args.replica; txn = c.args.txn } } ≡ record (with_change (with_told (plain c.self.inside) c.args.replica c.args.txn run.Lost c.self.invariant.places) c.args.replica (λ (q : PlainProgress). recounted (plain c.self.inside).txns (plain c.self.inside).log (with_loss false q))) { primary = other_than c.args.replica (plain c.self.inside).primary }
moved c = λ i. record (plain c.self.inside) { replicas = (c.lose_at.ensures.value ∙ (λ j. map_from (change_at c.args.replica (λ (q : PlainProgress). recounted (map plain_txn (c.deref.ensures.value j)) (c.deref-2.ensures.value j) (with_loss false q))) 0 (plain c.self.inside).replicas)) i; primary = c.other_than.ensures i; replies = c.push_reserved.ensures.items i; fresh = Some record { replica = c.args.replica; txn = c.args.txn } }

after : (c : goal.After-push_reserved) → seen record c.self.inside { replicas = c.lose_at.new.replicas; primary = c.other_than.result; replies = c.push_reserved.new.self; fresh = Some record { replica = c.args.replica; txn = c.args.txn } } ≡ with_reply c.args.replica c.args.txn run.Lost (after_loss c.args.self.now c.args.replica false)
after c =
    let p = plain c.self.inside in
    let r = c.args.replica in
    let t = c.args.txn in
    let gone = other_than r p.primary in
    ap seen_plain (moved c) ∙ ap (λ (v : View). record v { primary = gone }) (seen_change (with_told p r t run.Lost c.self.invariant.places) r (λ (q : PlainProgress). recounted (plain c.self.inside).txns (plain c.self.inside).log (with_loss false q)) (lose false) (seen_loss (p.replies ++ run.Lost ∷ []) (Some record { replica = c.args.replica; txn = c.args.txn }) r false (plain_replica_in p.replicas r)))
    ∙ ap (λ (v : View). record (with_replica r (lose false) v) { primary = gone }) (seen_told p r t run.Lost c.self.invariant.places ∙ ap (with_reply r t run.Lost) (seen_rest p c.self.invariant.places)) ∙ ap (λ v. with_reply r t run.Lost (after_loss v r false)) c.self.view_is

pub returns : goal.returns
returns c = after c

pub invariant_of-self : goal.invariant_of-self
invariant_of-self c =
    let p = plain c.self.inside in
    let r = c.args.replica in
    let t = c.args.txn in
    let g = (λ (q : PlainProgress). recounted (plain c.self.inside).txns (plain c.self.inside).log (with_loss false q)) in
    let q = plain_replica_in p.replicas r in
    let told = with_told p r t run.Lost c.self.invariant.places in
    let is = run_is t (replica_in c.args.self.now r).out c.requires.out in
    let kept = kept_change told r g (kept_told p r t run.Lost c.self.invariant.places c.self.invariant.kept) (λ counted. counted_loss p.txns p.log false q) in
    let places = places_change told r g (places_told p r t run.Lost c.self.invariant.places) (λ are. told_lost told.replies q.attempts) in
    record {
      few = c.self.invariant.few;
      sane = subst IsSane (sym (after c)) (gives_sane c.args.self.now 0 r (Some (job.Run t is.0)) (reply.Ran run.Lost) (subst IsSane c.self.view_is c.self.invariant.sane) c.requires.known is.1 refl);
      kept = subst IsKept (sym (moved c)) record { opened = kept.opened; counted = kept.counted };
      places = subst ArePlaces (sym (moved c)) record { told = places.told; given = places.given };
      room = record {
        log = c.self.invariant.room.log;
        given = c.self.invariant.room.given;
        replies = omega (arith, c.self.invariant.room.replies, ap runs_out c.lose_at.ensures.value, c.push_reserved.ensures.len, c.push_reserved.ensures.capacity, runs_less c.args.replica 0 c.args.replica (λ (q : PlainProgress). recounted (map plain_txn c.deref.result.now) c.deref-2.result.now (with_loss false q)) (plain c.self.inside).replicas (omega arith) (within (plain c.self.inside) c.args.replica c.self.invariant.sane (subst (λ (v : View). IsReplica v c.args.replica) (sym c.self.view_is) c.requires.known)) (λ q. refl) (runs c.args.txn _ (sym (ap (is_run_of c.args.txn) (out_seen (plain c.self.inside) c.self.invariant.sane c.args.replica)) ∙ ap (λ (v : View). is_run_of c.args.txn (replica_in v c.args.replica).out) c.self.view_is ∙ c.requires.out)));
        ready = c.lose_at.ensures.room;
      };
    }
