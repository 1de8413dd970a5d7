use Rattle.std.proofs.Common.{◌≡◌, ◌+◌, List, [], map, refl, ap, sym, ◌∙◌, subst, arith}
use Rattle.hr_due.specs.Turns.{turn_in}
use Rattle.hr_ledger.specs.Kept.{PlainLedger, AreKept, plain, plain_script, seen_plain}
use Rattle.hr_ledger.specs.Chronicle.{Chronicle}
use Rattle.hr_ledger.proofs.First.{first, kept_first}
use Rattle.hr_ledger.proofs.ledger.Ledger.new.Goals as goal

made : (c : goal.After-of_call) → plain record { sessions = c.args.sessions; stored = c.reserve.new.stored; statements = c.new-2.result; scripts = c.new-3.result; asks = 0; turn = c.of_call.result; view = c.in_ok-view.view } ≡ first c.args.f c.args.sessions
made c = λ i. record {
  sessions = c.args.sessions;
  stored = (c.reserve.ensures.same ∙ c.new-stored.ensures.items) i;
  statements = c.new-2.ensures.items i;
  scripts = map plain_script (c.new-3.ensures.items i);
  asks = 0;
  turn = c.of_call.ensures i;
  view = c.in_ok-view.ensures i;
}

pub returns : goal.returns
returns c = ap seen_plain (made c)

pub invariant_of-result : goal.invariant_of-result
invariant_of-result c = record {
  kept = subst AreKept (sym (made c)) (kept_first c.args.f c.args.sessions);
  room = omega (arith, c.in_ok-reserve.ensures.ok);
}
