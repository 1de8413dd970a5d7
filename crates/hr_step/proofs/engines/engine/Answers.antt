use Rattle.hr_forms.specs.declared.line.EngineKind.TheVariants as kind
use Rattle.hr_step.proofs.KeptLemmas.{of_kind}
use Rattle.hr_step.proofs.engines.engine.Goals as goal

pub returns-in_ok-table_engine-in-ByTable-clause-kind : goal.returns-in_ok-table_engine-in-ByTable-clause-kind
returns-in_ok-table_engine-in-ByTable-clause-kind c = of_kind kind.ByTable _ _ c.in-ByTable.is

pub returns-in_ok-range_engine-in-ByRange-clause-kind : goal.returns-in_ok-range_engine-in-ByRange-clause-kind
returns-in_ok-range_engine-in-ByRange-clause-kind c = of_kind kind.ByRange _ _ c.in-ByRange.is
