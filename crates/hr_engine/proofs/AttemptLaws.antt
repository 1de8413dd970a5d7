-- What one more call makes of attempts. The laws that are missing hold by computation: a run answered Blocked, Deadlock
-- or NoMemory leaves all attempts as they are, a reply Lost and a restart leave none.
use Rattle.std.proofs.Common.{◌≡◌, ℕ, Bool, true, false, cond, not, ◌||◌, ◌==◌, ◌⊎◌, inl, inr, List, [], ◌∷◌, ◌++◌, refl, ap, ◌∙◌, sym}
use Rattle.std.proofs.lemmas.Bool.{eq-eqb, ne_eqb, eqb-true, or_cases}
use Rattle.hr_rel.specs.declared.answer.Answer.{Answer}
use Rattle.hr_rel.specs.declared.stmt.Stmt.{Stmt}
use Rattle.hr_engine.specs.declared.reply.RunReply.TheVariants as run
use Rattle.hr_engine.specs.declared.reply.EndReply.TheVariants as end
use Rattle.hr_engine.specs.Journal.{Ran, Committed, RolledBack, Journal}
use Rattle.hr_engine.specs.Attempts.{RanStmt, attempt, IsRunning, is_running}
use Rattle.hr_base.specs.Lists.{is_empty}

-- the branch of a test for the same transaction, and for another
pub same_txn : {X : Type 0} (t : ℕ) (x y : X) → cond (t == t) x y ≡ x
same_txn t x y = ap (λ b. cond b x y) (eq-eqb t t refl)

pub other_txn : {X : Type 0} (t u : ℕ) (x y : X) → (t ≡ u → ⊥) → cond (t == u) x y ≡ y
other_txn t u x y differ = ap (λ b. cond b x y) (ne_eqb t u differ)

nonempty : (steps : List RanStmt) (s : RanStmt) → is_empty (steps ++ s ∷ []) ≡ false
nonempty [] s = refl
nonempty (r ∷ steps) s = refl

module _ (journal : Journal) (t : ℕ) (stmt : Stmt) (answer : Answer) where
  -- a run answered Done puts its statement and answer at the end of its transaction's attempt
  pub attempt-done : attempt t (Ran t stmt (run.Done answer) ∷ journal) ≡ attempt t journal ++ record { stmt = stmt; answer = answer } ∷ []
  attempt-done = same_txn t _ _

  -- and leaves the others'
  pub attempt-done_other : (u : ℕ) → (u ≡ t → ⊥) → attempt u (Ran t stmt (run.Done answer) ∷ journal) ≡ attempt u journal
  attempt-done_other u differ = other_txn u t _ _ differ

  done_by : (b : Bool) (steps : List RanStmt) → not (is_empty (cond b (steps ++ record { stmt = stmt; answer = answer } ∷ []) steps)) ≡ b || not (is_empty steps)
  done_by true steps = ap not (nonempty steps _)
  done_by false steps = refl

  -- so it and those that ran are running
  pub is_running-done : (u : ℕ) → is_running u (Ran t stmt (run.Done answer) ∷ journal) ≡ (u == t) || is_running u journal
  is_running-done u = done_by (u == t) (attempt u journal)

  pub running_after_done : (u : ℕ) → IsRunning u (Ran t stmt (run.Done answer) ∷ journal) → (u ≡ t) ⊎ IsRunning u journal
  running_after_done u runs =
      let cases = or_cases (u == t) (is_running u journal) (sym (is_running-done u) ∙ runs) in
      elim cases [ inl same ↦ inl (eqb-true u t same) | inr ran ↦ inr ran ]

-- a commit or a rollback answered Done stops its transaction alone
module _ (journal : Journal) (t : ℕ) where
  pub attempt-committed : attempt t (Committed t end.Done ∷ journal) ≡ []
  attempt-committed = same_txn t _ _

  pub attempt-committed_other : (u : ℕ) → (u ≡ t → ⊥) → attempt u (Committed t end.Done ∷ journal) ≡ attempt u journal
  attempt-committed_other u differ = other_txn u t _ _ differ

  pub attempt-rolled_back : attempt t (RolledBack t end.Done ∷ journal) ≡ []
  attempt-rolled_back = same_txn t _ _

  pub attempt-rolled_back_other : (u : ℕ) → (u ≡ t → ⊥) → attempt u (RolledBack t end.Done ∷ journal) ≡ attempt u journal
  attempt-rolled_back_other u differ = other_txn u t _ _ differ
