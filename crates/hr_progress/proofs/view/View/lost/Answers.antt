use Rattle.std.proofs.Common.{◌≡◌, ℕ, Bool, true, false, Option, None, Some, unwrap_or, map, sym, ◌∙◌, ap, subst, refl, arith}
use Rattle.hr_engine.specs.declared.reply.EndReply.TheVariants as end
use Rattle.hr_history.specs.declared.job.Job.{Job}
use Rattle.hr_history.specs.declared.job.Job.TheVariants as job
use Rattle.hr_history.specs.declared.job.JobReply.TheVariants as reply
use Rattle.hr_history.specs.Primary.{other_than}
use Rattle.hr_history.specs.View.{View, Progress}
use Rattle.hr_history.specs.Processed.{replica_in}
use Rattle.hr_moves.specs.Changes.{map_from, change_at, with_replica}
use Rattle.hr_moves.specs.Sane.{IsSane, IsReplica}
use Rattle.hr_moves.specs.Moves.{lose, after_loss}
use Rattle.hr_progress.specs.Plain.{PlainView, PlainProgress, plain, plain_txn, plain_replica_in, to_idle_entry, with_loss}
use Rattle.hr_progress.specs.Seen.{seen, seen_plain}
use Rattle.hr_progress.specs.Kept.{IsKept, ArePlaces, IsLeast, loses, runs_out, recounted, back_to_position}
use Rattle.hr_progress.proofs.Attempted.{seen_loss, told_lost}
use Rattle.hr_progress.proofs.Gives.{gives_sane, counted_loss}
use Rattle.hr_progress.proofs.Least.{least_committed}
use Rattle.hr_progress.proofs.Parts.{replica_seen}
use Rattle.hr_progress.proofs.Ready.{runs_no_more}
use Rattle.hr_progress.proofs.Replicas.{with_change, within, within_code, kept_change, places_change, seen_change}
use Rattle.hr_progress.proofs.Rests.{seen_rest}
use Rattle.hr_progress.proofs.view.View.lost.Goals as goal

pub lose_at-requires-clause-known : goal.lose_at-requires-clause-known
lose_at-requires-clause-known c = within_code c.self.inside.replicas.items c.args.replica (within (plain c.self.inside) c.args.replica c.self.invariant.sane (subst (λ (v : View). IsReplica v c.args.replica) (sym c.self.view_is) c.requires.known))

pub lose_at-requires-clause-least : goal.lose_at-requires-clause-least
lose_at-requires-clause-least c =
    let p = plain c.self.inside in
    let r = c.args.replica in
    let q = plain_replica_in p.replicas r in
    subst (λ ts. IsLeast (map plain_txn ts) c.deref-2.result.now (back_to_position (with_loss c.args.in_doubt q))) (sym c.deref.ensures.value)
    (subst (λ ns. IsLeast p.txns ns (back_to_position (with_loss c.args.in_doubt q))) (sym c.deref-2.ensures.value) (least_committed p c.self.invariant.sane q.position (map to_idle_entry q.attempts) (omega (arith, c.self.invariant.sane.position r, ap (λ (x : Progress). x.position) (replica_seen p r)))))

moved : (c : goal.After-other_than) → plain record c.self.inside { replicas = c.lose_at.new.replicas; primary = c.other_than.result; fresh = None } ≡ record (with_change record (plain c.self.inside) { fresh = None } c.args.replica (λ (q : PlainProgress). recounted (plain c.self.inside).txns (plain c.self.inside).log (with_loss c.args.in_doubt q))) { primary = other_than c.args.replica (plain c.self.inside).primary }
moved c = λ i. record (plain c.self.inside) { replicas = (c.lose_at.ensures.value ∙ (λ j. map_from (change_at c.args.replica (λ (q : PlainProgress). recounted (map plain_txn (c.deref.ensures.value j)) (c.deref-2.ensures.value j) (with_loss c.args.in_doubt q))) 0 (plain c.self.inside).replicas)) i; primary = c.other_than.ensures i; fresh = None }

after : (c : goal.After-other_than) → seen record c.self.inside { replicas = c.lose_at.new.replicas; primary = c.other_than.result; fresh = None } ≡ after_loss c.args.self.now c.args.replica c.args.in_doubt
after c =
    let p : PlainView = record (plain c.self.inside) { fresh = None } in
    let r = c.args.replica in
    let gone = other_than r p.primary in
    ap seen_plain (moved c) ∙ ap (λ (v : View). record v { primary = gone }) (seen_change p r (λ (q : PlainProgress). recounted (plain c.self.inside).txns (plain c.self.inside).log (with_loss c.args.in_doubt q)) (lose c.args.in_doubt) (seen_loss p.replies None r c.args.in_doubt (plain_replica_in p.replicas r)))
    ∙ ap (λ (v : View). record (with_replica r (lose c.args.in_doubt) v) { primary = gone }) (seen_rest (plain c.self.inside) c.self.invariant.places) ∙ ap (λ v. after_loss v r c.args.in_doubt) c.self.view_is

pub returns : goal.returns
returns c = after c

lost_sane : (v : View) (r : ℕ) (o : Option Job) (d : Bool) → IsSane v → IsReplica v r → (replica_in v r).out ≡ o → loses o ≡ Some d → IsSane (after_loss v r d)
lost_sane v r (Some (job.Commit t)) d sane known out e = subst (λ b. IsSane (after_loss v r b)) (inner e) (gives_sane v 0 r (Some (job.Commit t)) (reply.Ended end.Lost) sane known out refl)
  where
    inner : {a b : Bool} → Some a ≡ Some b → a ≡ b
    inner {a} x = ap (λ o. unwrap_or o a) x
lost_sane v r (Some (job.Rollback t)) d sane known out e = subst (λ b. IsSane (after_loss v r b)) (inner e) (gives_sane v 0 r (Some (job.Rollback t)) (reply.Ended end.Lost) sane known out refl)
  where
    inner : {a b : Bool} → Some a ≡ Some b → a ≡ b
    inner {a} x = ap (λ o. unwrap_or o a) x
lost_sane v r None d sane known out e = cc
lost_sane v r (Some (job.Run t i)) d sane known out e = cc
lost_sane v r (Some job.Restart) d sane known out e = cc

pub invariant_of-self : goal.invariant_of-self
invariant_of-self c =
    let p : PlainView = record (plain c.self.inside) { fresh = None } in
    let r = c.args.replica in
    let g = (λ (q : PlainProgress). recounted (plain c.self.inside).txns (plain c.self.inside).log (with_loss c.args.in_doubt q)) in
    let q = plain_replica_in p.replicas r in
    let kept = kept_change p r g record { opened = c.self.invariant.kept.opened; counted = c.self.invariant.kept.counted } (λ counted. counted_loss p.txns p.log c.args.in_doubt q) in
    let places = places_change p r g record { told = c.self.invariant.places.told; given = c.self.invariant.places.given } (λ told. told_lost p.replies q.attempts) in
    record {
      few = c.self.invariant.few;
      sane = subst IsSane (sym (after c)) (lost_sane c.args.self.now r (replica_in c.args.self.now r).out c.args.in_doubt (subst IsSane c.self.view_is c.self.invariant.sane) c.requires.known refl c.requires.out);
      kept = subst IsKept (sym (moved c)) record { opened = kept.opened; counted = kept.counted };
      places = subst ArePlaces (sym (moved c)) record { told = places.told; given = places.given };
      room = record {
        log = c.self.invariant.room.log;
        given = c.self.invariant.room.given;
        replies = omega (arith, c.self.invariant.room.replies, ap runs_out c.lose_at.ensures.value, runs_no_more r 0 (λ (x : PlainProgress). recounted (map plain_txn c.deref.result.now) c.deref-2.result.now (with_loss c.args.in_doubt x)) p.replicas (λ x run. absurd (wrong run)));
        ready = c.lose_at.ensures.room;
      };
    }
  where
    wrong : false ≡ true → ⊥
    wrong e = cc
