use Rattle.std.proofs.Common.{◌≡◌, true, sym, ◌∙◌, ap, subst, refl, arith}
use Rattle.hr_history.specs.View.{View, Progress}
use Rattle.hr_moves.specs.Sane.{IsSane, IsReplica}
use Rattle.hr_moves.specs.Moves.{after_convict}
use Rattle.hr_history.specs.declared.entry.Event.TheVariants as event
use Rattle.hr_history.specs.declared.evidence.Evidence.{Evidence}
use Rattle.hr_history.specs.declared.evidence.Evidence.TheVariants as evidence
use Rattle.hr_sane.proofs.MoveLaws.{moves}
use Rattle.hr_progress.proofs.Sanes.{sane_after}
use Rattle.hr_progress.specs.Plain.{plain, to_convicted}
use Rattle.hr_progress.specs.Seen.{seen, seen_plain}
use Rattle.hr_progress.specs.Kept.{IsKept, ArePlaces, runs_out}
use Rattle.hr_history.specs.Primary.{other_than}
use Rattle.hr_progress.proofs.Replicas.{with_change, within, within_code, kept_change, places_change, seen_change}
use Rattle.hr_progress.proofs.Ready.{runs_no_more}
use Rattle.hr_progress.proofs.view.View.convict.Goals as goal

pub convict-requires : goal.convict-requires
convict-requires c = within_code c.self.inside.replicas.items c.args.replica (within (plain c.self.inside) c.args.replica c.self.invariant.sane (subst (λ (v : View). IsReplica v c.args.replica) (sym c.self.view_is) c.requires))

moved : (c : goal.After-other_than) → plain record c.self.inside { replicas = c.convict.new.replicas; primary = c.other_than.result } ≡ record (with_change (plain c.self.inside) c.args.replica to_convicted) { primary = other_than c.args.replica c.self.inside.primary }
moved c = λ i. record (plain c.self.inside) { replicas = c.convict.ensures.value i; primary = c.other_than.ensures i }

after : (c : goal.After-other_than) → seen (record c.self.inside { replicas = c.convict.new.replicas; primary = c.other_than.result }) ≡ after_convict c.args.self.now c.args.replica
after c =
    let r = c.args.replica in
    ap seen_plain (moved c)
    ∙ ap (λ (v : View). record v { primary = other_than r c.self.inside.primary }) (seen_change (plain c.self.inside) r to_convicted (λ (x : Progress). record x { convicted = true }) refl)
    ∙ ap (λ v. after_convict v r) c.self.view_is

pub returns : goal.returns
returns c = λ place asks (shown : Evidence). after c ∙ sym (moves c.args.self.now place asks (subst IsSane c.self.view_is c.self.invariant.sane) (event.Convict c.args.replica shown) c.requires)

pub invariant_of-self : goal.invariant_of-self
invariant_of-self c =
    let p = plain c.self.inside in
    let kept = kept_change p c.args.replica to_convicted c.self.invariant.kept (λ counted. record { touched = counted.touched; processed = counted.processed }) in
    let places = places_change p c.args.replica to_convicted c.self.invariant.places (λ told. told) in
    record {
      few = c.self.invariant.few;
      sane = subst IsSane (sym (after c)) (sane_after c.args.self.now 0 0 (event.Convict c.args.replica (evidence.BadDeadlock 0)) (subst IsSane c.self.view_is c.self.invariant.sane) c.requires);
      kept = subst IsKept (sym (moved c)) record { opened = kept.opened; counted = kept.counted };
      places = subst ArePlaces (sym (moved c)) record { told = places.told; given = places.given };
      room = record {
        log = c.self.invariant.room.log;
        given = c.self.invariant.room.given;
        replies = omega (arith, c.self.invariant.room.replies, ap runs_out c.convict.ensures.value, runs_no_more c.args.replica 0 to_convicted (plain c.self.inside).replicas (λ q run. run));
        ready = c.convict.ensures.room c.self.invariant.room.ready;
      };
    }
