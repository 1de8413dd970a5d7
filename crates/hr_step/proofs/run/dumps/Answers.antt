use Rattle.std.proofs.Common.{ℕ, ◌+◌, ◌∙◌, ap, sym, subst, length, take, slice_get}
use Rattle.std.specs.Prelude.{IfSome}
use Rattle.hr_schedule.specs.Claims.{TableRows, rows_at}
use Rattle.hr_step.specs.Within.{Shows}
use Rattle.std.proofs.Common.{List, Some}
use Rattle.std.proofs.lemmas.Option.{slice_get-get_or}
use Rattle.hr_step.proofs.RunLemmas.{shown_more, length_more}
use Rattle.hr_step.proofs.run.dumps.Goals as goal

pub replicas-preserved : goal.replicas-preserved
replicas-preserved g c = record {
  many = ap (λ (ds : List TableRows). length ds) c.in_ok-push.ensures.items ∙ length_more c.replicas.dumps.items c.in_ok-rows.field-0 c.replicas.backend-index c.replicas.invariant.many;
  shown = subst (λ (ds : List TableRows). (r : ℕ) → IfSome (slice_get (take (c.replicas.backend-index + 1) c.args.backends.now) r) (λ b. Shows g.B.Backend.make g.B.Backend.stands b (rows_at ds r)))
      (sym c.in_ok-push.ensures.items)
      (shown_more (λ b rows. Shows g.B.Backend.make g.B.Backend.stands b rows) c.args.backends.now c.replicas.backend-index c.backend-item.result c.replicas.dumps.items c.in_ok-rows.field-0
      (slice_get-get_or c.args.backends.now c.replicas.backend-index c.backend-item.result c.replicas-test.true ∙ ap (λ b. Some b) (sym c.backend-item.is)) c.replicas.invariant.many c.replicas.invariant.shown c.in_ok-rows.ensures);
}
