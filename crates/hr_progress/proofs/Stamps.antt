-- The stamps of given answers.
use Rattle.std.proofs.Common.{◌≡◌, ℕ, Option, Some, None, List, map, refl, ap, ◌∙◌}
use Rattle.std.specs.Option.{option_map}
use Rattle.hr_base.specs.Lists.{numbered}
use Rattle.hr_engine.specs.declared.reply.RunReply.{RunReply}
use Rattle.hr_history.specs.Given as history
use Rattle.hr_progress.specs.declared.txn.Given.{Given}
use Rattle.hr_progress.specs.Seen.{seen_given}
use Rattle.hr_progress.proofs.Parts.{numbered_map}

stamp_same : (replies : List RunReply) (o : Option Given) → option_map (λ (g : history.Given). g.stamp) (option_map (seen_given replies) o) ≡ option_map (λ (g : Given). g.stamp) o
stamp_same replies None = refl
stamp_same replies (Some g) = refl

pub stamp_seen : (replies : List RunReply) (gs : List Given) (i : ℕ) → option_map (λ (g : history.Given). g.stamp) (numbered (map (seen_given replies) gs) i) ≡ option_map (λ (g : Given). g.stamp) (numbered gs i)
stamp_seen replies gs i = ap (option_map (λ (g : history.Given). g.stamp)) (numbered_map (seen_given replies) gs i) ∙ stamp_same replies (numbered gs i)
