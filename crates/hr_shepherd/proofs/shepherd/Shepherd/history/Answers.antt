use Rattle.std.proofs.Common.{◌∙◌, ap, subst}
use Rattle.hr_ledger.specs.Chronicle.{Chronicle, history_in, view_in, HasBegun, IsFaithful}
use Rattle.hr_records.proofs.KeptLemmas.{kept}
use Rattle.hr_history.specs.Turn.{turn_of}
use Rattle.hr_decisions.proofs.DecisionLemmas.{nothing_after, none_decidable, none_contradicted}
use Rattle.hr_serial.proofs.PrefixLemmas.{at_prefix}
use Rattle.hr_serial.proofs.SerialLemmas.{serial}
use Rattle.hr_shepherd.proofs.Allowed.{quiet_faithful}
use Rattle.hr_shepherd.proofs.Promised.{keeps_barrier, convicts_liars, shows_causes, is_complete}
use Rattle.hr_shepherd.proofs.shepherd.Shepherd.history.Goals as goal

pub returns-clause-entries : goal.returns-clause-entries
returns-clause-entries c = c.entries.ensures ∙ ap (λ (s : Chronicle). s.entries) (c.ledger-2.ensures ∙ c.deref-2.ensures ∙ c.self.view_is)

pub returns-clause-faithful : goal.returns-clause-faithful
returns-clause-faithful c = subst IsFaithful c.self.view_is (quiet_faithful c.self.inside.core.value (subst HasBegun (c.ledger.ensures ∙ c.deref.ensures) c.begun.ensures) c.self.invariant)

pub returns-clause-prefix : goal.returns-clause-prefix
returns-clause-prefix c = λ r.
    let s = c.args.self.now in
    let begun = subst HasBegun (c.ledger.ensures ∙ c.deref.ensures ∙ c.self.view_is) c.begun.ensures in
    at_prefix (history_in s) (kept s.f s.sessions (history_in s) begun) r

pub returns-clause-serial : goal.returns-clause-serial
returns-clause-serial c = λ db few.
    let s = c.args.self.now in
    let begun = subst HasBegun (c.ledger.ensures ∙ c.deref.ensures ∙ c.self.view_is) c.begun.ensures in
    serial s.f s.sessions db (history_in s) begun few

pub returns-clause-decided : goal.returns-clause-decided
returns-clause-decided c = λ t is.
    let s = c.args.self.now in
    let faithful = subst IsFaithful c.self.view_is (quiet_faithful c.self.inside.core.value (subst HasBegun (c.ledger.ensures ∙ c.deref.ensures) c.begun.ensures) c.self.invariant) in
    none_decidable (view_in s) (turn_of (history_in s)) (nothing_after s.f s.sessions (history_in s) faithful) t is

pub returns-clause-contradicted : goal.returns-clause-contradicted
returns-clause-contradicted c = λ t is.
    let s = c.args.self.now in
    let faithful = subst IsFaithful c.self.view_is (quiet_faithful c.self.inside.core.value (subst HasBegun (c.ledger.ensures ∙ c.deref.ensures) c.begun.ensures) c.self.invariant) in
    none_contradicted (view_in s) (turn_of (history_in s)) (nothing_after s.f s.sessions (history_in s) faithful) t is

pub returns-clause-barrier : goal.returns-clause-barrier
returns-clause-barrier c = λ db.
    let s = c.args.self.now in
    keeps_barrier s.f s.sessions (history_in s) (subst HasBegun (c.ledger.ensures ∙ c.deref.ensures ∙ c.self.view_is) c.begun.ensures) db

pub returns-clause-not_convicted : goal.returns-clause-not_convicted
returns-clause-not_convicted c = λ db.
    let s = c.args.self.now in
    convicts_liars s.f s.sessions (history_in s) (subst HasBegun (c.ledger.ensures ∙ c.deref.ensures ∙ c.self.view_is) c.begun.ensures) db

pub returns-clause-causes : goal.returns-clause-causes
returns-clause-causes c =
    let s = c.args.self.now in
    shows_causes s.f s.sessions (history_in s) (subst HasBegun (c.ledger.ensures ∙ c.deref.ensures ∙ c.self.view_is) c.begun.ensures)

pub returns-clause-complete : goal.returns-clause-complete
returns-clause-complete c = λ db.
    let s = c.args.self.now in
    let begun = subst HasBegun (c.ledger.ensures ∙ c.deref.ensures ∙ c.self.view_is) c.begun.ensures in
    let faithful = subst IsFaithful c.self.view_is (quiet_faithful c.self.inside.core.value (subst HasBegun (c.ledger.ensures ∙ c.deref.ensures) c.begun.ensures) c.self.invariant) in
    is_complete s.f s.sessions (history_in s) begun db faithful
