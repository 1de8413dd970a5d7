use Rattle.std.proofs.Common.{rules, ap, sym, ◌∙◌, ◌+◌, ℕ, take}
use Rattle.hr_run_report.specs.Convictions as convictions
use Rattle.hr_run_report.proofs.Steps.{preempted_more}
use Rattle.hr_run_report.proofs.convictions.preempted_in.Goals as goal

pub entries-preserved : goal.entries-preserved
entries-preserved c = (
  ap (λ (n : ℕ). n + c.preempts_in-count.result) c.entries.invariant.0
      ∙ ap (λ (n : ℕ). convictions.preempted c.args.replica (take c.entries.place c.args.history.now) + n) c.preempts_in-count.ensures.value
      ∙ sym (preempted_more c.args.replica c.args.history.now c.entries.place _ (sym c.get.ensures) (search rules)),
  search rules,
)
