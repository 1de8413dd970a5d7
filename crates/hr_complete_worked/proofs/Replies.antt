-- Causes that aren't what the primary replied.
use Rattle.std.proofs.Common.{◌≡◌, inl, inr, ℕ}
use Rattle.hr_history.specs.declared.cause.CauseAt.TheVariants as cause
use Rattle.hr_history.specs.declared.cause.Why.{Why}
use Rattle.hr_complete.specs.Undisturbed.{IsPrimarysReply}

pub no_difference : (index by at : ℕ) → IsPrimarysReply (cause.Differ index by at) → ⊥
no_difference index by at (inl is) = cc is.1
no_difference index by at (inr is) = cc is.1

pub no_change : (from : ℕ) (because : Why) (at : ℕ) → IsPrimarysReply (cause.PrimaryChanged from because at) → ⊥
no_change from because at (inl is) = cc is.1
no_change from because at (inr is) = cc is.1
