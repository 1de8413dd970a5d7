use Rattle.std.proofs.Common.{◌≡◌, true, false, None, Some, sym, ◌∙◌, ap, subst, refl, arith}
use Rattle.hr_history.specs.declared.job.Job.TheVariants as job
use Rattle.hr_history.specs.declared.job.JobReply.TheVariants as reply
use Rattle.hr_history.specs.View.{View}
use Rattle.hr_moves.specs.Changes.{with_replica}
use Rattle.hr_moves.specs.Sane.{IsSane, IsReplica}
use Rattle.hr_moves.specs.Moves.{free, after_still_lost}
use Rattle.hr_progress.specs.Plain.{PlainView, plain, to_free}
use Rattle.hr_progress.specs.Seen.{seen_plain}
use Rattle.hr_progress.specs.Kept.{IsKept, ArePlaces, runs_out}
use Rattle.hr_progress.proofs.Gives.{gives_sane}
use Rattle.hr_progress.proofs.Ready.{runs_no_more}
use Rattle.hr_progress.proofs.Replicas.{with_change, within, within_code, kept_change, places_change, seen_change}
use Rattle.hr_progress.proofs.Rests.{seen_rest}
use Rattle.hr_progress.proofs.view.View.still_lost.Goals as goal

pub free_at-requires-clause-known : goal.free_at-requires-clause-known
free_at-requires-clause-known c = within_code c.self.inside.replicas.items c.args.replica (within (plain c.self.inside) c.args.replica c.self.invariant.sane (subst (λ (v : View). IsReplica v c.args.replica) (sym c.self.view_is) c.requires.known))

moved : (c : goal.After-free_at) → plain record c.self.inside { replicas = c.free_at.new.replicas; fresh = None } ≡ with_change record (plain c.self.inside) { fresh = None } c.args.replica to_free
moved c = λ i. record (plain c.self.inside) { replicas = c.free_at.ensures.value i; fresh = None }

pub returns : goal.returns
returns c =
    let p : PlainView = record (plain c.self.inside) { fresh = None } in
    let r = c.args.replica in
    ap seen_plain (moved c) ∙ seen_change p r to_free free refl ∙ ap (with_replica r free) (seen_rest (plain c.self.inside) c.self.invariant.places) ∙ ap (λ v. after_still_lost v r) c.self.view_is

pub invariant_of-self : goal.invariant_of-self
invariant_of-self c =
    let p : PlainView = record (plain c.self.inside) { fresh = None } in
    let r = c.args.replica in
    let after = ap seen_plain (moved c) ∙ seen_change p r to_free free refl ∙ ap (with_replica r free) (seen_rest (plain c.self.inside) c.self.invariant.places) ∙ ap (λ v. after_still_lost v r) c.self.view_is in
    record {
      few = c.self.invariant.few;
      sane = subst IsSane (sym after) (gives_sane c.args.self.now 0 r (Some job.Restart) reply.StillLost (subst IsSane c.self.view_is c.self.invariant.sane) c.requires.known c.requires.out refl);
      kept = subst IsKept (sym (moved c)) (kept_change p r to_free record { opened = c.self.invariant.kept.opened; counted = c.self.invariant.kept.counted } (λ counted. record { touched = counted.touched; processed = counted.processed }));
      places = subst ArePlaces (sym (moved c)) (places_change p r to_free record { told = c.self.invariant.places.told; given = c.self.invariant.places.given } (λ told. told));
      room = record {
        log = c.self.invariant.room.log;
        given = c.self.invariant.room.given;
        replies = omega (arith, c.self.invariant.room.replies, ap runs_out c.free_at.ensures.value, runs_no_more r 0 to_free p.replicas (λ q run. absurd (wrong run)));
        ready = c.free_at.ensures.room;
      };
    }
  where
    wrong : false ≡ true → ⊥
    wrong e = cc
