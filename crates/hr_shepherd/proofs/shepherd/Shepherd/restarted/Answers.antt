use Rattle.std.proofs.Common.{sym, ◌∙◌, subst}
use Rattle.hr_history.specs.declared.entry.Event.TheVariants as event
use Rattle.hr_ledger.specs.Chronicle.{Chronicle, history_in, HasBegun, IsQuiet, IsAllowed}
use Rattle.hr_core.specs.Turns.{HasTurn}
use Rattle.hr_shepherd.proofs.Allowed.{restart_allowed}
use Rattle.hr_shepherd.proofs.Growing.{by_turn}
use Rattle.hr_shepherd.proofs.Promised.{keeps_barrier, convicts_liars}
use Rattle.hr_shepherd.proofs.shepherd.Shepherd.restarted.Goals as goal

pub restarted-requires-clause-quiet : goal.restarted-requires-clause-quiet
restarted-requires-clause-quiet c = subst IsQuiet (sym c.deref_mut.ensures.value) c.self.invariant

pub restarted-requires-clause-allowed : goal.restarted-requires-clause-allowed
restarted-requires-clause-allowed c = subst (IsAllowed c.args.caller (event.Restarted c.args.replica c.args.count)) (sym (c.deref_mut.ensures.value ∙ c.self.view_is)) (restart_allowed c.args.self.now c.args.caller c.args.replica c.requires.known c.requires.caller c.args.count c.requires.out)

pub returns-clause-turn : goal.returns-clause-turn
returns-clause-turn c = subst (λ (s : Chronicle). HasTurn c.args.caller (event.Restarted c.args.replica c.args.count) s c.restarted.new.self) (c.deref_mut.ensures.value ∙ c.self.view_is) c.restarted.ensures

pub returns-clause-grows : goal.returns-clause-grows
returns-clause-grows c =
    by_turn c.args.caller (event.Restarted c.args.replica c.args.count) c.args.self.now c.restarted.new.self (subst (λ (s : Chronicle). HasTurn c.args.caller (event.Restarted c.args.replica c.args.count) s c.restarted.new.self) (c.deref_mut.ensures.value ∙ c.self.view_is) c.restarted.ensures)

pub returns-clause-barrier : goal.returns-clause-barrier
returns-clause-barrier c = λ db.
    let s = c.restarted.new.self in
    keeps_barrier s.f s.sessions (history_in s) (subst HasBegun (c.ledger.ensures ∙ c.deref.ensures) c.begun.ensures) db

pub returns-clause-not_convicted : goal.returns-clause-not_convicted
returns-clause-not_convicted c = λ db.
    let s = c.restarted.new.self in
    convicts_liars s.f s.sessions (history_in s) (subst HasBegun (c.ledger.ensures ∙ c.deref.ensures) c.begun.ensures) db
