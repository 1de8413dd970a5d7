use Rattle.std.proofs.Common.{◌≡◌, None, Some, Bool, true, false, sym, ◌∙◌, ap, subst, arith}
use Rattle.hr_history.specs.declared.entry.Event.TheVariants as event
use Rattle.hr_history.specs.declared.job.Job.{Job}
use Rattle.hr_history.specs.declared.job.Job.TheVariants as job
use Rattle.hr_history.specs.View.{View}
use Rattle.hr_moves.specs.Changes.{with_replica}
use Rattle.hr_moves.specs.Sane.{IsSane, IsReplica}
use Rattle.hr_moves.specs.Fits.{HasRoom}
use Rattle.hr_moves.specs.Moves.{with_job, after_take}
use Rattle.hr_sane.proofs.MoveLaws.{moves}
use Rattle.hr_progress.specs.Plain.{PlainView, plain, with_out}
use Rattle.hr_progress.specs.Seen.{seen, seen_plain}
use Rattle.hr_progress.specs.Kept.{IsKept, ArePlaces, is_run, runs_out}
use Rattle.hr_progress.proofs.Ready.{runs_no_more}
use Rattle.hr_progress.proofs.Replicas.{with_change, within, within_code, kept_change, places_change, seen_change}
use Rattle.hr_progress.proofs.Rests.{seen_rest}
use Rattle.hr_progress.proofs.Sanes.{sane_after}
use Rattle.hr_progress.proofs.Takes.{other_job}
use Rattle.hr_progress.proofs.view.View.take_other.Goals as goal

pub send-requires-clause-known : goal.send-requires-clause-known
send-requires-clause-known c = within_code c.self.inside.replicas.items c.args.replica (within (plain c.self.inside) c.args.replica c.self.invariant.sane (subst (λ (v : View). IsReplica v c.args.replica) (sym c.self.view_is) c.requires.known))

moved : (c : goal.After-send) → plain record c.self.inside { replicas = c.send.new.replicas; fresh = None } ≡ with_change record (plain c.self.inside) { fresh = None } c.args.replica (with_out c.args.job)
moved c = λ i. record (plain c.self.inside) { replicas = c.send.ensures.value i; fresh = None }

after : (c : goal.After-send) → seen (record c.self.inside { replicas = c.send.new.replicas; fresh = None }) ≡ after_take c.args.self.now c.args.replica c.args.job
after c =
    let p : PlainView = record (plain c.self.inside) { fresh = None } in
    ap seen_plain (moved c) ∙ seen_change p c.args.replica (with_out c.args.job) (with_job c.args.job) (other_job c.args.job c.requires.other _)
    ∙ ap (with_replica c.args.replica (with_job c.args.job)) (seen_rest (plain c.self.inside) c.self.invariant.places) ∙ ap (λ v. after_take v c.args.replica c.args.job) c.self.view_is

fits : (c : goal.After-send) → HasRoom c.args.self.now c.args.replica c.args.job
fits c = by c.args.job c.requires.other
  where
    by : (j : Job) → is_run (Some j) ≡ false → HasRoom c.args.self.now c.args.replica j
    by (job.Run t i) e = cc
    by (job.Commit t) e = tt
    by (job.Rollback t) e = tt
    by job.Restart e = tt

pub returns : goal.returns
returns c = λ place asks. after c ∙ sym (moves c.args.self.now place asks (subst IsSane c.self.view_is c.self.invariant.sane) (event.Take c.args.replica c.args.job) (c.requires.known, c.requires.job, fits c))

pub invariant_of-self : goal.invariant_of-self
invariant_of-self c =
    let p : PlainView = record (plain c.self.inside) { fresh = None } in
    record {
      few = c.self.invariant.few;
      sane = subst IsSane (sym (after c)) (sane_after c.args.self.now 0 0 (event.Take c.args.replica c.args.job) (subst IsSane c.self.view_is c.self.invariant.sane) (c.requires.known, c.requires.job, fits c));
      kept = subst IsKept (sym (moved c)) (kept_change p c.args.replica (with_out c.args.job) record { opened = c.self.invariant.kept.opened; counted = c.self.invariant.kept.counted } (λ counted. record { touched = counted.touched; processed = counted.processed }));
      places = subst ArePlaces (sym (moved c)) (places_change p c.args.replica (with_out c.args.job) record { told = c.self.invariant.places.told; given = c.self.invariant.places.given } (λ told. told));
      room = record {
        log = c.self.invariant.room.log;
        given = c.self.invariant.room.given;
        replies = omega (arith, c.self.invariant.room.replies, ap runs_out c.send.ensures.value, runs_no_more c.args.replica 0 (with_out c.args.job) p.replicas (λ q run. absurd (wrong run c.requires.other)));
        ready = c.send.ensures.room;
      };
    }
  where
    wrong : {b : Bool} → b ≡ true → b ≡ false → ⊥
    wrong x y = cc
