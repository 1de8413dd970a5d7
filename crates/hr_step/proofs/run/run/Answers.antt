use Rattle.std.proofs.Common.{ℕ, List, length, slice_get, subst}
use Rattle.std.specs.Prelude.{IfSome}
use Rattle.hr_schedule.specs.Claims.{rows_at}
use Rattle.hr_step.specs.Within.{Shows}
use Rattle.hr_history.specs.Faithful.{Faithful}
use Rattle.hr_ledger.specs.Chronicle.{history_in}
use Rattle.hr_step.proofs.RunLemmas.{each_told}
use Rattle.hr_step.proofs.run.run.Goals as goal

pub returns-clause-run : goal.returns-clause-run
returns-clause-run g c = record {
  faithful = subst (λ (f : ℕ). Faithful f (length c.args.scenario.now.scripts) (history_in c.in_ok-driver.driver.shepherd)) c.in_ok-driver.ensures.ready.under.f
      (subst (λ (n : ℕ). Faithful c.in_ok-driver.driver.shepherd.f n (history_in c.in_ok-driver.driver.shepherd)) c.in_ok-driver.ensures.ready.under.sessions c.history-history.ensures.faithful);
  chosen = c.in_ok-driver.ensures.chosen;
  told = each_told g.B.Backend.make g.B.Backend.stands c.in_ok-backends.backends.items c.in_ok-driver.driver.backends.items c.in_ok-dumps.dumps.items c.args.scenario.now c.in_ok-driver.driver.shepherd
      c.in_ok-driver.ensures.ready.all c.in_ok-driver.ensures.make c.in_ok-backends.ensures.stand c.in_ok-backends.ensures.behind c.in_ok-driver.ensures.stands
      (subst (λ (bs : List _). (r : ℕ) → IfSome (slice_get bs r) (λ b. Shows g.B.Backend.make g.B.Backend.stands b (rows_at c.in_ok-dumps.dumps.items r))) c.as_slice.ensures.value c.in_ok-dumps.ensures.shown);
}
