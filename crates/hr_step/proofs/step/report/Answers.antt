use Rattle.std.proofs.Common.{◌∙◌}
use Rattle.std.specs.Prelude.{string_bytes}
use Rattle.hr_step.proofs.ReportLemmas.{reported}
use Rattle.hr_step.proofs.step.report.Goals as goal

pub returns : goal.returns
returns c =
    reported string_bytes c.args.scenario.now c.in_ok-ran.ran.driver.shepherd _ _ c.in_ok-ran.ran.dumps.items _ c.report_text.result
    c.in_ok-ran.ensures c.as_slice.ensures (c.as_slice-2.ensures ∙ c.in_ok-tries.ensures) c.as_slice-3.ensures.value c.report_text.ensures
