-- The first told answer that isn't due, and what an audit finds.
use Rattle.std.specs.Prelude.{◌≡◌, ℕ, zero, suc, ◌+◌, List, [], ◌∷◌, length}
use Rattle.std.specs.List.{AllZip}
use Rattle.hr_rel.specs.declared.answer.Answer.{Answer}
use Rattle.hr_meaning.specs.SameAnswer.{SameAnswer}
use Rattle.hr_answer.specs.Canonical.{IsCanonical}
use Rattle.hr_audit.specs.declared.verdict.Verdict.{Verdict}
use Rattle.hr_audit.specs.declared.verdict.Verdict.TheVariants.{Agrees, Differs}

-- Of the answers told and due to the statements of a transaction, those at place k (from 0) are the first that differ: those
-- before it are the same. With both, the due one in canonical form.
abbrev pub IsFirstWrong : List Answer → List Answer → ℕ → Answer → Answer → Type 0
IsFirstWrong (t ∷ told) (d ∷ due) zero wrong right = (t ≡ wrong) × SameAnswer d right × IsCanonical right × ¬ SameAnswer wrong right
IsFirstWrong (t ∷ told) (d ∷ due) (suc k) wrong right = SameAnswer d t × IsFirstWrong told due k wrong right
IsFirstWrong _ _ k wrong right = ⊥

-- The same over transactions: the first that differ are at place k of the transaction at place p, both from 0; those of all
-- transactions before it are the same.
abbrev pub IsFirstWrongIn : List (List Answer) → List (List Answer) → ℕ → ℕ → Answer → Answer → Type 0
IsFirstWrongIn (t ∷ told) (d ∷ due) zero k wrong right = IsFirstWrong t d k wrong right
IsFirstWrongIn (t ∷ told) (d ∷ due) (suc p) k wrong right = AllZip SameAnswer d t × IsFirstWrongIn told due p k wrong right
IsFirstWrongIn _ _ p k wrong right = ⊥

-- What an audit finds of answers told and due, transaction by transaction, where n transactions stand before these: that all
-- are the same, or the first that differ.
abbrev pub IsVerdictFrom : ℕ → List (List Answer) → List (List Answer) → Verdict → Type 0
IsVerdictFrom n told due (Agrees commits) = (commits ≡ n + length told) × AllZip (AllZip SameAnswer) due told
IsVerdictFrom n told due (Differs commit index wrong right) =
    (p : ℕ) × (k : ℕ) × (commit ≡ n + p + 1) × (index ≡ k + 1) × IsFirstWrongIn told due p k wrong right

abbrev pub IsVerdict : List (List Answer) → List (List Answer) → Verdict → Type 0
IsVerdict told due verdict = IsVerdictFrom 0 told due verdict
