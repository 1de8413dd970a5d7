use Rattle.std.proofs.Common.{rules, ap, sym, ◌∙◌, ◌+◌, ℕ, take}
use Rattle.hr_summary.specs.Summary.{is_refuse, is_preempt, refused, preempted}
use Rattle.hr_summary.proofs.Steps.{one_entry_more}
use Rattle.hr_summary.proofs.counts.counted.Goals as goal

pub entries-preserved : goal.entries-preserved
entries-preserved c = (
  ap (λ (n : ℕ). n + c.refuses_in-refused.result) c.entries.invariant.0
      ∙ ap (λ (n : ℕ). refused (take c.entries.place c.args.history.now) + n) c.refuses_in-refused.ensures.value
      ∙ sym (one_entry_more is_refuse c.args.history.now c.entries.place _ (sym c.get-entry.ensures) (search rules)),
  ap (λ (n : ℕ). n + c.preempts_in-preempted.result) c.entries.invariant.1
      ∙ ap (λ (n : ℕ). preempted (take c.entries.place c.args.history.now) + n) c.preempts_in-preempted.ensures.value
      ∙ sym (one_entry_more is_preempt c.args.history.now c.entries.place _ (sym c.get-entry.ensures) (search rules)),
  search rules,
  search rules,
)
