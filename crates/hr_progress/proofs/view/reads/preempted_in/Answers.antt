use Rattle.std.proofs.Common.{Option, unwrap_or, ap, sym, ◌∙◌}
use Rattle.std.specs.Option.{option_map}
use Rattle.hr_progress.specs.Plain.{PlainAttempt, plain_attempt, idle_attempt}
use Rattle.hr_progress.proofs.Entries.{lookup_plain}
use Rattle.hr_progress.proofs.view.reads.preempted_in.Goals as goal

pub returns-in-Some : goal.returns-in-Some
returns-in-Some c =
    sym (ap (λ (o : Option PlainAttempt). (unwrap_or o idle_attempt).preempted) (lookup_plain c.args.txn c.args.attempts.now.entries ∙ ap (option_map plain_attempt) (sym c.in-Some.ensures.value)))

pub returns-in-None : goal.returns-in-None
returns-in-None c =
    sym (ap (λ (o : Option PlainAttempt). (unwrap_or o idle_attempt).preempted) (lookup_plain c.args.txn c.args.attempts.now.entries ∙ ap (option_map plain_attempt) (sym c.in-None.ensures.value)))
