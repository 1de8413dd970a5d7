use Rattle.std.proofs.Common.{◌≡◌, ◌+◌, ◌*◌, None, Some, map, sym, ◌∙◌, ap, subst, arith}
use Rattle.hr_progress.specs.Plain.{PlainView, plain, plain_txn}
use Rattle.hr_progress.specs.Seen.{seen_plain}
use Rattle.hr_progress.specs.Kept.{IsKept, ArePlaces, HaveGivenRoom, runs_out}
use Rattle.hr_moves.specs.Sane.{IsSane}
use Rattle.hr_sane.proofs.First.{first_sane}
use Rattle.hr_progress.proofs.Starts.{at_first, seen_first, kept_first, places_first}
use Rattle.hr_progress.proofs.Ready.{runs_idle, ready_idle}
use Rattle.hr_progress.proofs.view.View.new.Goals as goal

made : (c : goal.After-new-4) → plain record { f = c.args.f; log = c.new.result; txns = c.new-2.result; replicas = c.in_ok-idle_replicas.field-0; primary = Some 0; search_after = 0; replies = c.new-3.result; fresh = None; opened = c.new-4.result } ≡ at_first c.args.f
made c = λ i. record { f = c.args.f; log = c.new.ensures.items i; txns = map plain_txn (c.new-2.ensures.items i); replicas = c.in_ok-idle_replicas.ensures i; primary = Some 0; search_after = 0; replies = c.new-3.ensures.items i; fresh = None; opened = c.new-4.ensures.items i }

pub returns : goal.returns
returns c = ap seen_plain (made c) ∙ seen_first c.args.f

pub invariant_of-result : goal.invariant_of-result
invariant_of-result c = record {
  few = c.requires.few;
  sane = subst (λ (p : PlainView). IsSane (seen_plain p)) (sym (made c)) (subst IsSane (sym (seen_first c.args.f)) (first_sane c.args.f));
  kept = subst IsKept (sym (made c)) (kept_first c.args.f);
  places = subst ArePlaces (sym (made c)) (places_first c.args.f);
  room = record { log = omega (arith, c.new.ensures.len, c.new-4.ensures.len); given = subst HaveGivenRoom (sym c.new-2.ensures.items) tt; replies = omega (arith, c.new-3.ensures.len, ap runs_out c.in_ok-idle_replicas.ensures, runs_idle (2 * c.args.f + 1)); ready = ready_idle c.in_ok-idle_replicas.field-0.items (2 * c.args.f + 1) c.in_ok-idle_replicas.ensures };
}
