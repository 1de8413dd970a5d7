use Rattle.std.proofs.Common.{Option, length, unwrap_or, ap, sym, ◌∙◌}
use Rattle.std.specs.Option.{option_map}
use Rattle.hr_progress.specs.Plain.{PlainAttempt, plain_attempt, idle_attempt}
use Rattle.hr_progress.proofs.Entries.{lookup_plain}
use Rattle.hr_progress.proofs.attempt.answered.Goals as goal

pub returns-in-Some : goal.returns-in-Some
returns-in-Some c =
    c.len.ensures ∙ c.in-Some.attempt.now.answers.ok.0
    ∙ sym (ap (λ (o : Option PlainAttempt). length (unwrap_or o idle_attempt).answers) (lookup_plain c.args.txn c.args.attempts.now.entries ∙ ap (option_map plain_attempt) (sym c.in-Some.ensures.value)))

pub returns-in-None : goal.returns-in-None
returns-in-None c =
    sym (ap (λ (o : Option PlainAttempt). length (unwrap_or o idle_attempt).answers) (lookup_plain c.args.txn c.args.attempts.now.entries ∙ ap (option_map plain_attempt) (sym c.in-None.ensures.value)))
