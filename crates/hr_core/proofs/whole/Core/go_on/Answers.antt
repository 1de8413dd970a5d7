use Rattle.std.proofs.Common.{◌≡◌, Some, List, refl, sym, ◌∙◌, ap, subst}
use Rattle.hr_engine.specs.declared.reply.RunReply.{RunReply}
use Rattle.hr_history.specs.Rules.{due}
use Rattle.hr_history.specs.Turn.{replies_to_runs}
use Rattle.hr_due.specs.FollowUps.{event_of}
use Rattle.hr_ledger.specs.Chronicle.{Chronicle, history_in, and_entry}
use Rattle.hr_ledger.proofs.FollowUps.{no_reply}
use Rattle.hr_core.specs.Seats.{seat_in, refusal_in, state_kept, refusal_kept}
use Rattle.hr_core.specs.Told.{plain}
use Rattle.hr_core.proofs.Silent.{no_reply_told, no_refusal_told, nobody_begins, no_suspicion}
use Rattle.hr_core.proofs.Steps.{entered}
use Rattle.hr_core.proofs.whole.Core.go_on.Goals as goal

pub follow-requires-clause-due : goal.follow-requires-clause-due
follow-requires-clause-due c = subst (λ (s : Chronicle). due s.f (history_in s) ≡ Some (event_of c.args.next)) (sym c.self.view_is) c.requires.due

pub returns : goal.returns
returns c = c.follow.ensures ∙ ap (and_entry c.args.caller (event_of c.args.next)) c.self.view_is

pub invariant_of-self : goal.invariant_of-self
invariant_of-self c =
    let h = history_in c.self.inside.ledger in
    let rs = replies_to_runs h in
    let next = c.args.next in
    entered c.args.caller (event_of next) (plain c.self.inside) c.self.invariant c.follow.new.self c.self.inside.seats.items c.self.inside.causes.items c.self.inside.suspects c.follow.ensures refl
    (λ q state low high was. ap (λ (xs : List RunReply). state_kept xs (seat_in c.self.inside.seats.items q)) (no_reply next rs) ∙ was ∙ ap Some (no_reply_told next c.requires.silent q h state))
    (c.self.invariant.causes.each ∙ nobody_begins next h)
    (λ t o was. ap (λ (xs : List RunReply). refusal_kept xs (refusal_in c.self.inside.causes.items t)) (no_reply next rs) ∙ was ∙ ap Some (no_refusal_told next c.requires.silent t h o))
    (no_suspicion next c.self.inside.suspects)
