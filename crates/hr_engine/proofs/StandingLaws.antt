-- What one more call makes of the Deadlock replies that stand.
use Rattle.std.proofs.Common.{◌≡◌, ℕ, Bool, true, false, cond, not, ◌==◌, Some, None, List, [], ◌∷◌, refl, ap, ◌∙◌}
use Rattle.std.specs.Prelude.{Option, Result, option_and_then}
use Rattle.std.specs.List.{list_all}
use Rattle.std.proofs.lemmas.Bool.{or_right}
use Rattle.hr_rel.specs.declared.answer.Answer.{Answer}
use Rattle.hr_rel.specs.declared.stmt.Stmt.{Stmt}
use Rattle.hr_engine.specs.declared.reply.Lost.{Lost}
use Rattle.hr_engine.specs.declared.reply.RunReply.TheVariants as run
use Rattle.hr_engine.specs.declared.reply.EndReply.TheVariants as end
use Rattle.hr_engine.specs.Journal.{Ran, Committed, RolledBack, Restarted, Journal}
use Rattle.hr_engine.specs.Effects.{effect_of}
use Rattle.hr_engine.specs.Attempts.{is_running}
use Rattle.hr_engine.specs.Waits.{standing, next_standing, if_all}
use Rattle.hr_base.specs.Lists.{has}
use Rattle.hr_base.proofs.ListLaws.{all_has, all_agree_on}
use Rattle.hr_engine.proofs.AttemptLaws.{same_txn, other_txn, is_running-done}
use Rattle.hr_engine.proofs.WaitLaws.{still_runs}

all_if : (test : ℕ → Bool) (b : Bool) (its cycle : List ℕ) → list_all test its ≡ b → cond b (Some its) None ≡ Some cycle → list_all test cycle ≡ true
all_if test true its cycle e h = cc
all_if test false its cycle e h = cc

all_then : (test : ℕ → Bool) (s : Option (List ℕ)) (cycle : List ℕ) → option_and_then (if_all test) s ≡ Some cycle → list_all test cycle ≡ true
all_then test None cycle h = cc
all_then test (Some its) cycle h = all_if test (list_all test its) its cycle refl h

-- all members of a reply that stands run
pub standing_runs : (t : ℕ) (journal : Journal) (cycle : List ℕ) → standing t journal ≡ Some cycle → (u : ℕ) → has cycle u ≡ true → is_running u journal ≡ true
standing_runs t [] cycle stands u h = cc
standing_runs t (call ∷ before) cycle stands u h =
    let runs = λ (x : ℕ). is_running x (call ∷ before) in
    all_has runs cycle (all_then runs (next_standing t (effect_of call) (standing t before)) cycle stands) u h

-- tests that agree on the members of a list, if there is one, keep it or drop it alike
alike : (p q : ℕ → Bool) (s : Option (List ℕ)) → ((cycle : List ℕ) → s ≡ Some cycle → (u : ℕ) → has cycle u ≡ true → p u ≡ q u)
    → option_and_then (if_all p) s ≡ option_and_then (if_all q) s
alike p q None agree = refl
alike p q (Some cycle) agree = ap (λ b. cond b (Some cycle) None) (all_agree_on p q cycle (agree cycle refl))

all_true : (ts : List ℕ) → list_all (λ t. true) ts ≡ true
all_true [] = refl
all_true (t ∷ ts) = all_true ts

dropped_never : (s : Option (List ℕ)) → option_and_then (if_all (λ t. true)) s ≡ s
dropped_never None = refl
dropped_never (Some cycle) = ap (λ b. cond b (Some cycle) None) (all_true cycle)

module _ (journal : Journal) (t : ℕ) where
  -- a reply stands on where all who ran run on
  stands_on : (after : ℕ → Bool) (u : ℕ) → ((x : ℕ) → is_running x journal ≡ true → after x ≡ true) → option_and_then (if_all after) (standing u journal) ≡ standing u journal
  stands_on after u on =
      alike after (λ x. true) (standing u journal) (λ cycle stands x h. on x (standing_runs u journal cycle stands x h)) ∙ dropped_never (standing u journal)

  -- a reply Done ends what stands of the transaction that runs
  pub standing-done : (stmt : Stmt) (answer : Answer) → standing t (Ran t stmt (run.Done answer) ∷ journal) ≡ None
  standing-done stmt answer = ap (option_and_then (if_all (λ u. is_running u (Ran t stmt (run.Done answer) ∷ journal)))) (same_txn t None (standing t journal))

  -- and leaves that of others
  pub standing-done_other : (u : ℕ) (stmt : Stmt) (answer : Answer) → (u ≡ t → ⊥) → standing u (Ran t stmt (run.Done answer) ∷ journal) ≡ standing u journal
  standing-done_other u stmt answer differ =
      let after = λ (x : ℕ). is_running x (Ran t stmt (run.Done answer) ∷ journal) in
      ap (option_and_then (if_all after)) (other_txn u t None (standing u journal) differ)
      ∙ stands_on after u (λ x ran. is_running-done journal t stmt answer x ∙ or_right (x == t) (is_running x journal) ran)

  -- Blocked: nothing stands of the asker
  pub standing-blocked : (stmt : Stmt) (named : List ℕ) → standing t (Ran t stmt (run.Blocked named) ∷ journal) ≡ None
  standing-blocked stmt named = ap (option_and_then (if_all (λ u. is_running u journal))) (same_txn t None (standing t journal))

  -- Deadlock: the reply stands where all its members run
  pub standing-deadlock : (stmt : Stmt) (cycle : List ℕ) → standing t (Ran t stmt (run.Deadlock cycle) ∷ journal) ≡ if_all (λ u. is_running u journal) cycle
  standing-deadlock stmt cycle = ap (option_and_then (if_all (λ u. is_running u journal))) (same_txn t (Some cycle) (standing t journal))

  -- neither changes what stands of others
  pub standing-blocked_other : (u : ℕ) (stmt : Stmt) (named : List ℕ) → (u ≡ t → ⊥) → standing u (Ran t stmt (run.Blocked named) ∷ journal) ≡ standing u journal
  standing-blocked_other u stmt named differ =
      ap (option_and_then (if_all (λ x. is_running x journal))) (other_txn u t None (standing u journal) differ) ∙ stands_on (λ x. is_running x journal) u (λ x ran. ran)

  pub standing-deadlock_other : (u : ℕ) (stmt : Stmt) (cycle : List ℕ) → (u ≡ t → ⊥) → standing u (Ran t stmt (run.Deadlock cycle) ∷ journal) ≡ standing u journal
  standing-deadlock_other u stmt cycle differ =
      ap (option_and_then (if_all (λ x. is_running x journal))) (other_txn u t (Some cycle) (standing u journal) differ) ∙ stands_on (λ x. is_running x journal) u (λ x ran. ran)

  -- want of memory changes nothing that stands
  pub standing-no_memory : (u : ℕ) (stmt : Stmt) → standing u (Ran t stmt run.NoMemory ∷ journal) ≡ standing u journal
  standing-no_memory u stmt = stands_on (λ x. is_running x journal) u (λ x ran. ran)

  -- where a transaction ends, nothing stands of it, and nothing that has it as a member
  pub standing-committed : standing t (Committed t end.Done ∷ journal) ≡ None
  standing-committed = ap (option_and_then (if_all (λ u. is_running u (Committed t end.Done ∷ journal)))) (same_txn t None (standing t journal))

  pub standing-rolled_back : standing t (RolledBack t end.Done ∷ journal) ≡ None
  standing-rolled_back = ap (option_and_then (if_all (λ u. is_running u (RolledBack t end.Done ∷ journal)))) (same_txn t None (standing t journal))

  pub standing-committed_other : (u : ℕ) → (u ≡ t → ⊥) → standing u (Committed t end.Done ∷ journal) ≡ option_and_then (if_all (λ x. not (x == t))) (standing u journal)
  standing-committed_other u differ =
      let after = λ (x : ℕ). is_running x (Committed t end.Done ∷ journal) in
      ap (option_and_then (if_all after)) (other_txn u t None (standing u journal) differ)
      ∙ alike after (λ x. not (x == t)) (standing u journal) (λ cycle stands x h. still_runs journal t x (x == t) refl (standing_runs u journal cycle stands x h))

  pub standing-rolled_back_other : (u : ℕ) → (u ≡ t → ⊥) → standing u (RolledBack t end.Done ∷ journal) ≡ option_and_then (if_all (λ x. not (x == t))) (standing u journal)
  standing-rolled_back_other u differ =
      let after = λ (x : ℕ). is_running x (RolledBack t end.Done ∷ journal) in
      ap (option_and_then (if_all after)) (other_txn u t None (standing u journal) differ)
      ∙ alike after (λ x. not (x == t)) (standing u journal) (λ cycle stands x h. still_runs journal t x (x == t) refl (standing_runs u journal cycle stands x h))

  -- a reply Lost and a restart end all that stands
  pub standing-lost_run : (u : ℕ) (stmt : Stmt) → standing u (Ran t stmt run.Lost ∷ journal) ≡ None
  standing-lost_run u stmt = refl

  pub standing-lost_commit : (u : ℕ) → standing u (Committed t end.Lost ∷ journal) ≡ None
  standing-lost_commit u = refl

  pub standing-lost_rollback : (u : ℕ) → standing u (RolledBack t end.Lost ∷ journal) ≡ None
  standing-lost_rollback u = refl

pub standing-restarted : (journal : Journal) (u : ℕ) (told : Result ℕ Lost) → standing u (Restarted told ∷ journal) ≡ None
standing-restarted journal u told = refl
