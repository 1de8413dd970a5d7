use Rattle.std.proofs.Common.{[], ◌∷◌}
use Rattle.hr_engine.specs.Journal.{Ran, Committed}
use Rattle.hr_faulty.proofs.Answered.{early_done, early_else}
use Rattle.hr_faulty.proofs.faulty.run_early.Goals as goal

pub returns-in-Done-clause-told : goal.returns-in-Done-clause-told
returns-in-Done-clause-told g c = (
  Committed c.args.txn c.commit-end.result ∷ Ran c.args.txn c.args.stmt.now c.run-reply.result ∷ [],
  (λ start journal stood. c.commit-end.ensures.journal start _ (c.run-reply.ensures.journal start journal stood)),
  early_done _ _ _ _ _ c.in-Done.is,
)

pub returns-in_default : goal.returns-in_default
returns-in_default g c = record {
  told = (Ran c.args.txn c.args.stmt.now c.run-reply.result ∷ [], c.run-reply.ensures.journal, early_else _ _ _ c.in_default.not-Done);
  make = c.run-reply.ensures.make;
  canonical = c.run-reply.ensures.canonical;
  base_at_no_memory = c.run-reply.ensures.base_at_no_memory;
}
