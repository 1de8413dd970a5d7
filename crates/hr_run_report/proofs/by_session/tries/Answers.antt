use Rattle.std.proofs.Common.{◌≡◌, ℕ, ◌+◌, List, [], ◌∷◌, ◌++◌, ap, ◌∙◌}
use Rattle.hr_history.specs.declared.entry.Entry.{Entry}
use Rattle.hr_history.specs.History.{history_of}
use Rattle.hr_ledger.specs.Chronicle.{history_in}
use Rattle.hr_schedule.specs.declared.attempt.Try.{Try}
use Rattle.hr_schedule.specs.Tries.{tries_of}
use Rattle.hr_run_report.proofs.TryLemmas.{one_session_more}
use Rattle.hr_run_report.proofs.by_session.tries.Goals as goal

pub sessions-preserved : goal.sessions-preserved
sessions-preserved c =
    let own : c.in_ok-own_tries.field-0 ≡ tries_of c.args.retries (c.sessions.before + 1) (history_in c.args.shepherd.now) =
    c.in_ok-own_tries.ensures ∙ ap (λ (es : List Entry). tries_of c.args.retries (c.sessions.before + 1) (history_of es)) c.history-history.ensures.entries in
    c.in_ok-push.ensures.ok
    ∙ ap (λ (ts : List Try). c.sessions.all ++ ts ∷ []) own
    ∙ one_session_more (λ (s : ℕ). tries_of c.args.retries s (history_in c.args.shepherd.now)) c.sessions.before c.sessions.all c.sessions.invariant
