use Rattle.std.proofs.Common.{[], ◌∷◌, w64, inl, refl, ◌∙◌, ap}
use Rattle.std.proofs.Math.Facts.{to_z-of_z}
use Rattle.hr_engine.specs.Journal.{Ran}
use Rattle.hr_faulty.specs.Told.{with_answer, one_value}
use Rattle.hr_faulty.proofs.faulty.run_wrong.Goals as goal

pub returns-in-Ok-clause-told : goal.returns-in-Ok-clause-told
returns-in-Ok-clause-told g c =
    let lie = c.in-Ok.ensures ∙ ap one_value (to_z-of_z {w = w64} {z = c.args.number} c.ranges.number) in (
      Ran c.args.txn c.args.stmt.now c.run.result ∷ [],
      c.run.ensures.journal,
      inl (c.run.result, refl, c.with_answer.ensures ∙ ap (λ a. with_answer a c.run.result) lie),
    )
