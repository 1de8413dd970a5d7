use Rattle.std.proofs.Common.{ap, ◌∙◌, option_and_then}
use Rattle.hr_history.specs.Rules.{refuse_as_differ}
use Rattle.hr_history.specs.Turn.{Turn}
use Rattle.hr_due.proofs.votes.differ.Goals as goal

pub returns-in-Some : goal.returns-in-Some
returns-in-Some c = λ (turn : Turn). c.refusal.ensures turn ∙ ap (option_and_then (refuse_as_differ c.args.view.now turn)) c.in-Some.ensures.first
