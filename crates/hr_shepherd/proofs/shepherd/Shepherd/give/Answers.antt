use Rattle.std.proofs.Common.{sym, ◌∙◌, subst}
use Rattle.hr_history.specs.declared.entry.Event.TheVariants as event
use Rattle.hr_ledger.specs.Chronicle.{Chronicle, history_in, HasBegun, IsQuiet, IsAllowed}
use Rattle.hr_core.specs.Turns.{HasTurn}
use Rattle.hr_shepherd.proofs.Allowed.{give_allowed}
use Rattle.hr_shepherd.proofs.Growing.{by_turn}
use Rattle.hr_shepherd.proofs.Promised.{keeps_barrier, convicts_liars}
use Rattle.hr_shepherd.proofs.shepherd.Shepherd.give.Goals as goal

pub give-requires-clause-quiet : goal.give-requires-clause-quiet
give-requires-clause-quiet c = subst IsQuiet (sym c.deref_mut.ensures.value) c.self.invariant

pub give-requires-clause-allowed : goal.give-requires-clause-allowed
give-requires-clause-allowed c = subst (IsAllowed c.args.caller (event.Give c.args.replica c.args.reply)) (sym (c.deref_mut.ensures.value ∙ c.self.view_is)) (give_allowed c.args.self.now c.args.caller c.args.replica c.requires.known c.requires.caller c.args.reply c.requires.fits)

pub returns-clause-turn : goal.returns-clause-turn
returns-clause-turn c = subst (λ (s : Chronicle). HasTurn c.args.caller (event.Give c.args.replica c.args.reply) s c.give.new.self) (c.deref_mut.ensures.value ∙ c.self.view_is) c.give.ensures

pub returns-clause-grows : goal.returns-clause-grows
returns-clause-grows c =
    by_turn c.args.caller (event.Give c.args.replica c.args.reply) c.args.self.now c.give.new.self (subst (λ (s : Chronicle). HasTurn c.args.caller (event.Give c.args.replica c.args.reply) s c.give.new.self) (c.deref_mut.ensures.value ∙ c.self.view_is) c.give.ensures)

pub returns-clause-barrier : goal.returns-clause-barrier
returns-clause-barrier c = λ db.
    let s = c.give.new.self in
    keeps_barrier s.f s.sessions (history_in s) (subst HasBegun (c.ledger.ensures ∙ c.deref.ensures) c.begun.ensures) db

pub returns-clause-not_convicted : goal.returns-clause-not_convicted
returns-clause-not_convicted c = λ db.
    let s = c.give.new.self in
    convicts_liars s.f s.sessions (history_in s) (subst HasBegun (c.ledger.ensures ∙ c.deref.ensures) c.begun.ensures) db
