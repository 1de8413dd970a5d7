use Rattle.std.proofs.Common.{◌≡◌, ◌≤◌, None, length, sym, ◌∙◌, ap, subst, arith}
use Rattle.std.proofs.lemmas.List.{length-map}
use Rattle.hr_base.specs.declared.limits.TheConstants.{MAX_SUBMITS}
use Rattle.hr_history.specs.declared.entry.Event.TheVariants as event
use Rattle.hr_history.specs.declared.job.Job.TheVariants as job
use Rattle.hr_history.specs.Attempts.{and_dispatched}
use Rattle.hr_history.specs.View.{View, Progress}
use Rattle.hr_history.specs.Jobs.{job_in}
use Rattle.hr_moves.specs.Changes.{with_replica, change_at}
use Rattle.hr_moves.specs.Kept.{entries_in}
use Rattle.hr_moves.specs.Sane.{IsSane, IsReplica}
use Rattle.hr_moves.specs.Fits.{HasRoom}
use Rattle.hr_moves.specs.Moves.{with_job, after_take}
use Rattle.hr_sane.proofs.MoveLaws.{moves}
use Rattle.hr_progress.specs.Plain.{PlainView, plain, plain_progress, plain_replica_in, with_run}
use Rattle.hr_progress.specs.Seen.{seen, seen_plain, seen_entry}
use Rattle.hr_progress.specs.Kept.{IsKept, ArePlaces, runs_out}
use Rattle.hr_progress.proofs.Parts.{replica_seen}
use Rattle.hr_progress.proofs.Changed.{length_from}
use Rattle.hr_progress.proofs.Ready.{runs_few}
use Rattle.hr_progress.proofs.Replicas.{with_change, within, within_code, kept_change, places_change, seen_change}
use Rattle.hr_progress.proofs.Rests.{seen_rest}
use Rattle.hr_progress.proofs.Sanes.{sane_after}
use Rattle.hr_progress.proofs.Takes.{seen_run, counted_run, told_run, long_run, free_before}
use Rattle.hr_progress.proofs.Words.{entries_seen}
use Rattle.hr_progress.proofs.view.View.take_run.Goals as goal

pub send_run-requires-clause-known : goal.send_run-requires-clause-known
send_run-requires-clause-known c = within_code c.self.inside.replicas.items c.args.replica (within (plain c.self.inside) c.args.replica c.self.invariant.sane (subst (λ (v : View). IsReplica v c.args.replica) (sym c.self.view_is) c.requires.known))

pub send_run-requires-clause-free : goal.send_run-requires-clause-free
send_run-requires-clause-free c =
    let p = plain c.self.inside in
    let r = c.args.replica in
    sym (ap (λ (x : Progress). x.out) (replica_seen p r)) ∙ free_before (seen_plain p) r (job.Run c.args.txn c.args.index) (ap (λ (v : View). job_in v r) c.self.view_is ∙ c.requires.job)

pub send_run-requires-clause-few : goal.send_run-requires-clause-few
send_run-requires-clause-few c =
    let p = plain c.self.inside in
    let r = c.args.replica in
    omega (arith, c.self.invariant.sane.few r, ap (λ (x : Progress). length x.attempts) (replica_seen p r), length-map (plain_replica_in p.replicas r).attempts (seen_entry p.replies p.fresh r (plain_replica_in p.replicas r).attempts))

moved : (c : goal.In_ok-send_run) → plain record c.self.inside { replicas = c.send_run.new.replicas; replies = c.reserve.new.self; fresh = None } ≡ with_change record (plain c.self.inside) { fresh = None } c.args.replica (with_run c.args.txn c.args.index)
moved c = λ i. record (plain c.self.inside) { replicas = c.in_ok-send_run.ensures.ok i; replies = c.reserve.ensures.items i; fresh = None }

after : (c : goal.In_ok-send_run) → seen (record c.self.inside { replicas = c.send_run.new.replicas; replies = c.reserve.new.self; fresh = None }) ≡ after_take c.args.self.now c.args.replica (job.Run c.args.txn c.args.index)
after c =
    let p : PlainView = record (plain c.self.inside) { fresh = None } in
    let r = c.args.replica in
    let j = job.Run c.args.txn c.args.index in
    ap seen_plain (moved c) ∙ seen_change p r (with_run c.args.txn c.args.index) (with_job j) (seen_run p.replies r c.args.txn c.args.index (plain_replica_in p.replicas r))
    ∙ ap (with_replica r (with_job j)) (seen_rest (plain c.self.inside) c.self.invariant.places) ∙ ap (λ v. after_take v r j) c.self.view_is

fits : (c : goal.In_ok-send_run) → HasRoom c.args.self.now c.args.replica (job.Run c.args.txn c.args.index)
fits c =
    let p = plain c.self.inside in
    let r = c.args.replica in
    subst (λ (v : View). length (and_dispatched c.args.txn (entries_in v r)) ≤ MAX_SUBMITS) c.self.view_is
    (subst (λ ks. length (and_dispatched c.args.txn ks) ≤ MAX_SUBMITS) (sym (entries_seen p r))
    (subst (λ n. n ≤ MAX_SUBMITS) (long_run c.args.txn (plain_replica_in p.replicas r).attempts) c.in_ok-send_run.ensures.few))

pub returns-clause-ok : goal.returns-clause-ok
returns-clause-ok c = λ place asks. after c ∙ sym (moves c.args.self.now place asks (subst IsSane c.self.view_is c.self.invariant.sane) (event.Take c.args.replica (job.Run c.args.txn c.args.index)) (c.requires.known, c.requires.job, fits c))

pub invariant_of-self-2 : goal.invariant_of-self-2
invariant_of-self-2 c =
    let p : PlainView = record (plain c.self.inside) { fresh = None } in
    let r = c.args.replica in
    let g = with_run c.args.txn c.args.index in
    let q = plain_replica_in p.replicas r in
    record {
      few = c.self.invariant.few;
      sane = subst IsSane (sym (after c)) (sane_after c.args.self.now 0 0 (event.Take r (job.Run c.args.txn c.args.index)) (subst IsSane c.self.view_is c.self.invariant.sane) (c.requires.known, c.requires.job, fits c));
      kept = subst IsKept (sym (moved c)) (kept_change p r g record { opened = c.self.invariant.kept.opened; counted = c.self.invariant.kept.counted } (counted_run p.txns p.log c.args.txn c.args.index q));
      places = subst ArePlaces (sym (moved c)) (places_change p r g record { told = c.self.invariant.places.told; given = c.self.invariant.places.given } (told_run p.replies c.args.txn q.attempts));
      room = record {
        log = c.self.invariant.room.log;
        given = c.self.invariant.room.given;
        replies = omega (arith, c.in_ok-reserve.ensures.ok, c.len.ensures, c.self.inside.replicas.ok.0, ap runs_out c.in_ok-send_run.ensures.ok, runs_few (with_change p r g).replicas, length_from (change_at r g) 0 p.replicas, length-map c.self.inside.replicas.items plain_progress);
        ready = c.send_run.ensures.room;
      };
    }
