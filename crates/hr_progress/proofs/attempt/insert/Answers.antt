use Rattle.std.proofs.Common.{◌++◌, ◌∷◌, [], map, ap, ◌∙◌}
use Rattle.hr_progress.specs.Plain.{plain_entry, idle_attempt}
use Rattle.hr_progress.proofs.Entries.{inserted_last, plain_last}
use Rattle.hr_progress.proofs.attempt.insert.Goals as goal

pub returns-clause-ok : goal.returns-clause-ok
returns-clause-ok c =
    let es = c.args.attempts.now.entries in
    ap (map plain_entry) (c.in_ok-insert.ensures.entries ∙ inserted_last c.args.txn _ es c.requires.new) ∙ plain_last es _
    ∙ ap (λ xs. map plain_entry es ++ (c.args.txn, record idle_attempt { answers = xs }) ∷ []) c.in_ok-with_capacity.ensures.items
