use Rattle.std.proofs.Common.{Option, Some, List, slice_get, ap, sym, ◌∙◌}
use Rattle.std.specs.Option.{option_map}
use Rattle.hr_engine.specs.declared.reply.RunReply.{RunReply}
use Rattle.hr_history.specs.Replies.{event_at}
use Rattle.hr_history.specs.Turn.{replies_to_runs}
use Rattle.hr_history.specs.View.{View}
use Rattle.hr_entries.specs.declared.stored.Stored.{Stored}
use Rattle.hr_ledger.specs.Chronicle.{Chronicle, history_in}
use Rattle.hr_ledger.specs.Told.{reply_told, ran_in}
use Rattle.hr_ledger.proofs.Replied.{told_at}
use Rattle.hr_ledger.proofs.ledger.Ledger.reply_place.Goals as goal

pub returns : goal.returns
returns c =
    let l = c.self.inside in
    let place = c.args.place in
    let its = c.ran_at.ensures ∙ ap (λ (xs : List Stored). ran_in (slice_get xs place)) c.deref.ensures.value in
    let replies = ap (λ (v : View). v.replies) c.self.invariant.kept.view ∙ ap (λ (s : Chronicle). replies_to_runs (history_in s)) c.self.view_is in
    (λ i. option_map (slice_get (sym replies i)) (its i)) ∙ told_at l.statements.items l.view.replies l.stored.items place c.self.invariant.kept.within
    ∙ ap (λ (s : Chronicle). option_map (λ (r : RunReply). Some r) (reply_told (event_at place (history_in s)))) c.self.view_is
