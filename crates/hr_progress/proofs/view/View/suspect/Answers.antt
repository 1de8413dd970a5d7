use Rattle.std.proofs.Common.{◌≡◌, None, List, map, sym, ap, subst, ◌∙◌}
use Rattle.hr_history.specs.declared.entry.Event.TheVariants as event
use Rattle.hr_history.specs.Primary.{candidate_after, start_at_suspect}
use Rattle.hr_history.specs.View.{View}
use Rattle.hr_moves.specs.Sane.{IsSane}
use Rattle.hr_moves.specs.Moves.{rested, after_suspect}
use Rattle.hr_sane.proofs.MoveLaws.{moves}
use Rattle.hr_progress.specs.declared.progress.Progress as code
use Rattle.hr_progress.specs.Plain.{plain, plain_progress, live_of}
use Rattle.hr_progress.specs.Seen.{seen, seen_plain}
use Rattle.hr_progress.proofs.Rests.{seen_rest}
use Rattle.hr_progress.proofs.Sanes.{sane_after}
use Rattle.hr_progress.proofs.Words.{candidate_seen}
use Rattle.hr_progress.proofs.view.View.suspect.Goals as goal

after : (c : goal.After-start_at_suspect) → seen record c.self.inside { primary = None; search_after = c.start_at_suspect.result; fresh = None } ≡ after_suspect c.args.self.now
after c =
    let p = plain c.self.inside in
    let start = c.start_at_suspect.ensures
    ∙ ap (λ (qs : List code.Progress). start_at_suspect p.primary (candidate_after p.f (live_of (map plain_progress qs)) p.search_after) p.search_after) c.deref.ensures.value
    ∙ ap (λ o. start_at_suspect p.primary o p.search_after) (sym (candidate_seen p)) in
    ap (λ (v : View). record v { primary = None; search_after = c.start_at_suspect.result }) (seen_rest p c.self.invariant.places)
    ∙ ap (λ n. record (rested (seen_plain p)) { primary = None; search_after = n }) start ∙ ap after_suspect c.self.view_is

pub returns : goal.returns
returns c = λ place asks. after c ∙ sym (moves c.args.self.now place asks (subst IsSane c.self.view_is c.self.invariant.sane) event.Suspect tt)

pub invariant_of-self : goal.invariant_of-self
invariant_of-self c = record {
  few = c.self.invariant.few;
  sane = subst IsSane (sym (after c)) (sane_after c.args.self.now 0 0 event.Suspect (subst IsSane c.self.view_is c.self.invariant.sane) tt);
  kept = record { opened = c.self.invariant.kept.opened; counted = c.self.invariant.kept.counted };
  places = record { told = c.self.invariant.places.told; given = c.self.invariant.places.given };
  room = record { log = c.self.invariant.room.log; given = c.self.invariant.room.given; replies = c.self.invariant.room.replies; ready = c.self.invariant.room.ready };
}
