use Rattle.std.proofs.Common.{◌∙◌, arith}
use Rattle.hr_forms.specs.declared.line.EngineKind.TheVariants as kind
use Rattle.hr_step.proofs.KeptLemmas.{is_behind}
use Rattle.hr_step.proofs.RunLemmas.{get_is, get_there}
use Rattle.hr_step.proofs.engines.FaultyEngineLockEngineTableNameTableStoreLockEngineSpanRangeStoreReplica.begin.Goals as goal

pub returns-clause-stands : goal.returns-clause-stands
returns-clause-stands c = c.new.ensures.stands _ c.in_ok-engine.ensures.stands

pub returns-clause-behind : goal.returns-clause-behind
returns-clause-behind c =
    is_behind _ _ _ _ _ _ c.in_ok-engine.ensures.kind c.new.ensures.make
    (get_is c.as_slice-3.result.now c.args.scenario.now.kinds c.args.replica kind.ByTable c.as_slice-3.ensures)
    (c.in_ok-script.ensures ∙ c.as_slice-2.ensures ∙ c.index-as_slice-replica.is
    ∙ get_there c.as_slice.result.now c.args.scenario.now.faults c.args.replica _ _ c.as_slice.ensures (omega (arith, c.requires.known, c.requires.runnable.kinds, c.requires.runnable.faults)))
