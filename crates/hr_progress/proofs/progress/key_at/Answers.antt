use Rattle.std.proofs.Common.{sym, ap, map, ◌∙◌}
use Rattle.std.specs.Option.{option_map}
use Rattle.hr_progress.specs.Plain.{key, plain_entry}
use Rattle.hr_progress.proofs.Parts.{got_map}
use Rattle.hr_progress.proofs.progress.key_at.Goals as goal

pub returns-in-Some : goal.returns-in-Some
returns-in-Some c = sym (got_map key (map plain_entry c.args.attempts.now.entries) c.args.place ∙ ap (option_map key) (got_map plain_entry c.args.attempts.now.entries c.args.place ∙ ap (option_map plain_entry) (sym c.in-Some.ensures.entry)))

pub returns-in-None : goal.returns-in-None
returns-in-None c = sym (got_map key (map plain_entry c.args.attempts.now.entries) c.args.place ∙ ap (option_map key) (got_map plain_entry c.args.attempts.now.entries c.args.place ∙ ap (option_map plain_entry) (sym c.in-None.ensures.entry)))
