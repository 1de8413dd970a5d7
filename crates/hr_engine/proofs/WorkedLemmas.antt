-- Who runs in the worked journals.
use Rattle.std.proofs.Common.{◌≡◌, ℕ, ◌⊎◌, inl, inr, [], ◌∷◌}
use Rattle.hr_rel.specs.declared.stmt.Stmt.{Stmt}
use Rattle.hr_rel.specs.declared.answer.Answer.{Answer}
use Rattle.hr_engine.specs.declared.reply.RunReply.TheVariants as run
use Rattle.hr_engine.specs.Journal.{Ran}
use Rattle.hr_engine.specs.Attempts.{IsRunning}
use Rattle.hr_engine.proofs.AttemptLaws.{running_after_done}

-- after its first Done a transaction runs alone
pub only_first : (t : ℕ) (s : Stmt) (a : Answer) (u : ℕ) → IsRunning u (Ran t s (run.Done a) ∷ []) → u ≡ t
only_first t s a u runs = elim (running_after_done [] t s a u runs) [ inl same ↦ same | inr ran ↦ cc ]

-- after the first Done of two transactions they run, and nobody else
pub only_two : (t : ℕ) (s : Stmt) (a : Answer) (v : ℕ) (r : Stmt) (b : Answer) (u : ℕ)
    → IsRunning u (Ran v r (run.Done b) ∷ Ran t s (run.Done a) ∷ []) → (u ≡ t) ⊎ (u ≡ v)
only_two t s a v r b u runs = elim (running_after_done (Ran t s (run.Done a) ∷ []) v r b u runs) [ inl same ↦ inr same | inr ran ↦ inl (only_first t s a u ran) ]
