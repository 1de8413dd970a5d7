use Rattle.std.specs.Prelude.{string_bytes}
use Rattle.hr_step.proofs.ReportLemmas.{summed_up}
use Rattle.hr_step.proofs.step.summary.Goals as goal

pub returns : goal.returns
returns c =
    summed_up string_bytes c.args.order.now c.args.scenario.now c.in_ok-ran.ran.driver.shepherd c.in_ok-ran.ran.dumps.items _ c.summary_text.result
    c.in_ok-ran.ensures c.as_slice.ensures.value c.summary_text.ensures
