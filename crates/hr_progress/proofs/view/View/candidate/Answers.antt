use Rattle.std.proofs.Common.{List, map, sym, ap, ◌∙◌}
use Rattle.hr_history.specs.Primary.{candidate_after}
use Rattle.hr_history.specs.Processed.{candidate_in}
use Rattle.hr_progress.specs.declared.progress.Progress as code
use Rattle.hr_progress.specs.Plain.{plain, plain_progress, live_of}
use Rattle.hr_progress.proofs.Words.{candidate_seen}
use Rattle.hr_progress.proofs.view.View.candidate.Goals as goal

pub returns : goal.returns
returns c =
    c.candidate_after.ensures ∙ ap (λ (qs : List code.Progress). candidate_after c.self.inside.f (live_of (map plain_progress qs)) c.self.inside.search_after) c.deref.ensures.value
    ∙ sym (candidate_seen (plain c.self.inside)) ∙ ap candidate_in c.self.view_is
