use Rattle.std.proofs.Common.{◌≡◌, ℕ, Option, Some, unwrap_or, slice_get, List, ap, sym, ◌∙◌}
use Rattle.std.specs.Option.{option_map}
use Rattle.hr_base.specs.Lists.{numbered}
use Rattle.hr_rel.specs.declared.answer.Answer.{Answer}
use Rattle.hr_rel.specs.declared.answer.Answer.TheVariants as answer
use Rattle.hr_engine.specs.declared.reply.RunReply.{RunReply}
use Rattle.hr_engine.specs.declared.reply.RunReply.TheVariants as run
use Rattle.hr_history.specs.declared.cause.Cause.TheVariants as cause
use Rattle.hr_history.specs.declared.cause.CauseAt.{CauseAt}
use Rattle.hr_history.specs.Processed.{given_in}
use Rattle.hr_history.specs.Replies.{event_at, cause_told}
use Rattle.hr_history.specs.Turn.{replies_to_runs}
use Rattle.hr_history.specs.View.{View}
use Rattle.hr_ledger.specs.Chronicle.{history_in, view_in}
use Rattle.hr_ledger.specs.Told.{reply_told}
use Rattle.hr_core.specs.Seats.{difference}
use Rattle.hr_core.proofs.Causes.{reply_placed, answer_placed, answer_done, told_answer, given_seen}
use Rattle.hr_core.proofs.refusals.shown_cause.Goals as goal

pub returns-in-Differ : goal.returns-in-Differ
returns-in-Differ c =
    let s = c.args.ledger.now in
    let h = history_in s in
    let rs = replies_to_runs h in
    let e = event_at c.in-Differ.at h in
    let o = numbered (given_in (view_in s) c.args.txn) c.in-Differ.index in
    let place = ap (λ (v : View). option_map (slice_get v.replies) c.given_place.result) (sym c.view.ensures) ∙ c.given_place.ensures ∙ ap (λ (v : View). option_map (λ (a : Answer). Some (run.Done a)) (numbered (given_in v c.args.txn) c.in-Differ.index)) c.view.ensures in
    (λ i. difference rs c.in-Differ.index (answer_placed rs c.given_place.result o place i) (reply_placed rs c.reply_place-in-Differ.result (reply_told e) c.reply_place-in-Differ.ensures i))
    ∙ (λ i. Some (cause.Differ c.in-Differ.index ((answer_done o ∙ ap (λ xs. unwrap_or (numbered xs c.in-Differ.index) (answer.Count 0)) (given_seen s.f c.args.txn h c.requires)) i) (told_answer e i)))
    ∙ ap (λ (w : CauseAt). Some (cause_told c.args.txn w h)) (sym c.in-Differ.is)
