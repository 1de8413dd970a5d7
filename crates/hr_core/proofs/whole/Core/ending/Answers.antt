use Rattle.std.proofs.Common.{◌≡◌, Option, Some, List, is_some, IsTrue, ap, sym, ◌∙◌, subst}
use Rattle.hr_history.specs.declared.phase.Phase.{Phase}
use Rattle.hr_history.specs.Processed.{phase_in}
use Rattle.hr_history.specs.Replies.{refusal_of, ending_by, ending_of}
use Rattle.hr_history.specs.View.{View}
use Rattle.hr_ledger.specs.Chronicle.{Chronicle, history_in}
use Rattle.hr_core.specs.declared.seat.Shown.{Shown}
use Rattle.hr_core.specs.Seats.{refusal_in, refusal_kept}
use Rattle.hr_core.proofs.Copied.{none_ended, phase_there, on_err}
use Rattle.hr_core.proofs.whole.Core.ending.Goals as goal

pub returns-in_default-clause-ok : goal.returns-in_default-clause-ok
returns-in_default-clause-ok c =
    let l = c.self.inside.ledger in
    none_ended l c.begun.ensures c.args.txn (sym c.session.ensures ∙ c.in_default.is) ∙ ap (λ (s : Chronicle). ending_of c.args.txn (history_in s)) c.self.view_is

pub returns-in_err-ending-clause-err : goal.returns-in_err-ending-clause-err
returns-in_err-ending-clause-err c =
    let l = c.self.inside.ledger in
    let t = c.args.txn in
    let phase = c.phase-phase.ensures ∙ ap (λ (v : View). phase_in v t) c.view.ensures ∙ phase_there l c.begun.ensures t c.in-Some._session (sym c.session.ensures ∙ c.in-Some.is) in
    let same_replies = c.replies.ensures ∙ ap (λ (v : View). v.replies) c.view-2.ensures in
    let same_why = c.refusal_at-why.ensures ∙ ap (λ (xs : List (Option Shown)). refusal_in xs t) c.deref.ensures.value in
    let kept = (λ i. refusal_kept (same_replies i) (same_why i)) ∙ c.self.invariant.causes.told t in
    let some = c.in_err-ending.ensures.err (refusal_of t (history_in l)) kept in
    on_err _ c.from_residual.result
    (subst (λ (s : Chronicle). IsTrue (is_some (ending_of t (history_in s)))) c.self.view_is (subst (λ (p : Phase). IsTrue (is_some (ending_by p (refusal_of t (history_in l))))) phase some))

pub returns-clause-ok : goal.returns-clause-ok
returns-clause-ok c =
    let l = c.self.inside.ledger in
    let t = c.args.txn in
    let phase = c.phase-phase.ensures ∙ ap (λ (v : View). phase_in v t) c.view.ensures ∙ phase_there l c.begun.ensures t c.in-Some._session (sym c.session.ensures ∙ c.in-Some.is) in
    let same_replies = c.replies.ensures ∙ ap (λ (v : View). v.replies) c.view-2.ensures in
    let same_why = c.refusal_at-why.ensures ∙ ap (λ (xs : List (Option Shown)). refusal_in xs t) c.deref.ensures.value in
    let kept = (λ i. refusal_kept (same_replies i) (same_why i)) ∙ c.self.invariant.causes.told t in
    c.in_ok-ending.ensures.ok (refusal_of t (history_in l)) kept ∙ ap (λ (p : Phase). ending_by p (refusal_of t (history_in l))) phase ∙ ap (λ (s : Chronicle). ending_of t (history_in s)) c.self.view_is
