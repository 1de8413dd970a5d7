use Rattle.std.proofs.Common.{refl, sym, ◌∙◌}
use Rattle.hr_history.specs.declared.phase.Phase.TheVariants as phase
use Rattle.hr_driver.proofs.CallLemmas.{last_its, begins_first, begins_next, none_asked, idle_choice}
use Rattle.hr_driver.proofs.script.make_call.Goals as goal

pub begin-requires-clause-next : goal.begin-requires-clause-next
begin-requires-clause-next c = begins_first c.args.scenario.now c.args.session c.args.shepherd.now c.history.ensures.faithful c.args.last.now c.requires.last c.in-None.is

pub phase_of-requires : goal.phase_of-requires
phase_of-requires c = last_its c.args.shepherd.now c.history.ensures.faithful c.args.scenario.now.retries c.args.session c.in-Some.open (sym c.in-Some.is ∙ c.requires.last)

pub returns-in-Asked-clause-ok : goal.returns-in-Asked-clause-ok
returns-in-Asked-clause-ok c =
    idle_choice c.args.scenario.now c.args.session c.args.shepherd.now c.args.shepherd.now c.requires.known
    (none_asked c.args.scenario.now c.args.session c.args.shepherd.now c.history.ensures.faithful c.args.last.now c.in-Some.open _ c.requires.last c.in-Some.is (sym c.in-Asked.is ∙ c.phase_of.ensures))

pub begin-requires-in-Logged-clause-next : goal.begin-requires-in-Logged-clause-next
begin-requires-in-Logged-clause-next c =
    begins_next c.args.scenario.now c.args.session c.args.shepherd.now c.history.ensures.faithful c.args.last.now c.in-Some.open (phase.Logged _) c.requires.last c.in-Some.is (sym c.in-Logged.is ∙ c.phase_of.ensures) refl refl

pub begin-requires-in-RolledBack-clause-next : goal.begin-requires-in-RolledBack-clause-next
begin-requires-in-RolledBack-clause-next c =
    begins_next c.args.scenario.now c.args.session c.args.shepherd.now c.history.ensures.faithful c.args.last.now c.in-Some.open phase.RolledBack c.requires.last c.in-Some.is (sym c.in-RolledBack.is ∙ c.phase_of.ensures) refl refl

pub begin-requires-in-Refused-clause-next : goal.begin-requires-in-Refused-clause-next
begin-requires-in-Refused-clause-next c =
    begins_next c.args.scenario.now c.args.session c.args.shepherd.now c.history.ensures.faithful c.args.last.now c.in-Some.open phase.Refused c.requires.last c.in-Some.is (sym c.in-Refused.is ∙ c.phase_of.ensures) refl refl
