use Rattle.std.proofs.Common.{◌≡◌, ℕ, List, map, length, sym, ap, ◌∙◌, arith}
use Rattle.std.proofs.lemmas.List.{length-map}
use Rattle.hr_history.specs.View.{View}
use Rattle.hr_moves.specs.Kept.{entries_in}
use Rattle.hr_history.specs.View.{Attempt}
use Rattle.hr_history.specs.Processed.{replica_in}
use Rattle.hr_progress.specs.declared.progress.Progress as code
use Rattle.hr_progress.specs.Plain.{plain, plain_progress, plain_replica_in}
use Rattle.hr_progress.specs.Seen.{seen_plain}
use Rattle.hr_progress.proofs.Words.{entries_count}
use Rattle.hr_progress.proofs.view.View.entries.Goals as goal

counted : (c : goal.After-entry_count) → c.entry_count.result ≡ length (entries_in (seen_plain (plain c.self.inside)) c.args.replica)
counted c =
    let r = c.args.replica in
    c.entry_count.ensures ∙ ap (λ (qs : List code.Progress). length (plain_replica_in (map plain_progress qs) r).attempts) c.deref.ensures.value ∙ sym (entries_count (plain c.self.inside) r)

pub returns-clause-value : goal.returns-clause-value
returns-clause-value c = counted c ∙ ap (λ (v : View). length (entries_in v c.args.replica)) c.self.view_is

pub returns-clause-few : goal.returns-clause-few
returns-clause-few c = omega (arith, counted c, c.self.invariant.sane.few c.args.replica, length-map (replica_in (seen_plain (plain c.self.inside)) c.args.replica).attempts (λ (e : ℕ × Attempt). e.0))
