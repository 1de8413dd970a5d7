use Rattle.std.proofs.Common.{None, true, if◌then◌else◌, ap, ◌∙◌}
use Rattle.hr_base.specs.Lists.{is_empty}
use Rattle.hr_progress.specs.declared.attempt.Told.{Told}
use Rattle.std.proofs.Common.{List}
use Rattle.hr_progress.specs.Plain.{plain_attempt}
use Rattle.hr_progress.proofs.attempt.add.Goals as goal

pub returns : goal.returns
returns c = λ i. record (plain_attempt c.args.attempt.now) {
  answers = c.push_reserved.ensures.items i;
  began = (c.begun_at-attempt.ensures ∙ ap (λ (ts : List Told). if is_empty ts then c.args.newest else c.args.attempt.now.began) c.deref.ensures.value) i;
  last = None;
  touched = true;
}
