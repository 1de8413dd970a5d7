-- What one more call makes of waits.
use Rattle.std.proofs.Common.{◌≡◌, ℕ, Bool, true, false, cond, not, ◌==◌, IsTrue, List, [], ◌∷◌, ◌++◌, refl, ap, ◌∙◌}
use Rattle.std.specs.List.{filter}
use Rattle.std.proofs.lemmas.Bool.{or_right, and_left}
use Rattle.hr_rel.specs.declared.answer.Answer.{Answer}
use Rattle.hr_rel.specs.declared.stmt.Stmt.{Stmt}
use Rattle.hr_engine.specs.declared.reply.RunReply.TheVariants as run
use Rattle.hr_engine.specs.declared.reply.EndReply.TheVariants as end
use Rattle.hr_engine.specs.Journal.{Call, Ran, Committed, RolledBack, Journal}
use Rattle.hr_engine.specs.Effects.{Effect, effect_of}
use Rattle.hr_engine.specs.Effects as does
use Rattle.hr_engine.specs.Attempts.{attempt, is_running}
use Rattle.hr_engine.specs.Waits.{wait, next_wait, is_chain, Leads}
use Rattle.hr_base.specs.Lists.{has, is_empty, is_distinct, once}
use Rattle.hr_base.proofs.ListLaws.{filter_all, filter_agree_on, has-filter, filter_distinct, once_distinct}
use Rattle.hr_engine.proofs.AttemptLaws.{same_txn, other_txn, is_running-done}

-- who is waited for runs
pub wait_runs : (t u : ℕ) (journal : Journal) → has (wait t journal) u ≡ true → is_running u journal ≡ true
wait_runs t u [] h = cc
wait_runs t u (call ∷ before) h = (has-filter (λ x. is_running x (call ∷ before)) (next_wait t (effect_of call) (wait t before)) u h).0

-- a wait names each transaction once
distinct_if : (b : Bool) (ts us : List ℕ) → IsTrue (is_distinct ts) → IsTrue (is_distinct us) → IsTrue (is_distinct (cond b ts us))
distinct_if true ts us h k = h
distinct_if false ts us h k = k

next_distinct : (t : ℕ) (effect : Effect) (named : List ℕ) → IsTrue (is_distinct named) → IsTrue (is_distinct (next_wait t effect named))
next_distinct t (does.Runs u stmt answer) named h = distinct_if (t == u) [] named refl h
next_distinct t (does.Waits u them) named h = distinct_if (t == u) (once them) named (once_distinct them) h
next_distinct t (does.Closes u cycle) named h = distinct_if (t == u) [] named refl h
next_distinct t (does.Ends u) named h = distinct_if (t == u) [] named refl h
next_distinct t does.EndsAll named h = refl
next_distinct t does.Nothing named h = h

pub wait_distinct : (t : ℕ) (journal : Journal) → IsTrue (is_distinct (wait t journal))
wait_distinct t [] = refl
wait_distinct t (call ∷ before) =
    filter_distinct (λ u. is_running u (call ∷ before)) (next_wait t (effect_of call) (wait t before)) (next_distinct t (effect_of call) (wait t before) (wait_distinct t before))

-- a transaction that waits for nobody begins no chain
pub no_chain : (waits : ℕ → List ℕ) (t u : ℕ) (path : List ℕ) → waits t ≡ [] → is_chain waits (t ∷ path ++ u ∷ []) ≡ false
no_chain waits t u [] none = and_left (has (waits t) u) true (ap (λ ts. has ts u) none)
no_chain waits t u (v ∷ path) none = and_left (has (waits t) v) _ (ap (λ ts. has ts v) none)

pub leads_nowhere : (waits : ℕ → List ℕ) (t u : ℕ) → waits t ≡ [] → Leads waits t u → ⊥
leads_nowhere waits t u none leads = let never = no_chain waits t u leads.0 none in let chain = leads.1 in cc

module _ (journal : Journal) (t : ℕ) where
  -- who waited for nobody, and isn't answered Blocked by this call, waits for nobody
  pub no_wait_more : (call : Call) → next_wait t (effect_of call) [] ≡ [] → wait t journal ≡ [] → wait t (call ∷ journal) ≡ []
  no_wait_more call stays none =
      let next : next_wait t (effect_of call) (wait t journal) ≡ [] = ap (next_wait t (effect_of call)) none ∙ stays in
      ap (filter (λ u. is_running u (call ∷ journal))) next

  -- a reply Done ends the wait of the transaction that runs
  pub wait-done : (stmt : Stmt) (answer : Answer) → wait t (Ran t stmt (run.Done answer) ∷ journal) ≡ []
  wait-done stmt answer = ap (filter (λ u. is_running u (Ran t stmt (run.Done answer) ∷ journal))) (same_txn t [] (wait t journal))

  -- and leaves those of others
  pub wait-done_other : (u : ℕ) (stmt : Stmt) (answer : Answer) → (u ≡ t → ⊥) → wait u (Ran t stmt (run.Done answer) ∷ journal) ≡ wait u journal
  wait-done_other u stmt answer differ =
      let after = λ (x : ℕ). is_running x (Ran t stmt (run.Done answer) ∷ journal) in
      ap (filter after) (other_txn u t [] (wait u journal) differ)
      ∙ filter_all after (wait u journal) (λ x h. is_running-done journal t stmt answer x ∙ or_right (x == t) (is_running x journal) (wait_runs u x journal h))

  -- Blocked: the asker waits for those named that run
  pub wait-blocked : (stmt : Stmt) (named : List ℕ) → wait t (Ran t stmt (run.Blocked named) ∷ journal) ≡ filter (λ u. is_running u journal) (once named)
  wait-blocked stmt named = ap (filter (λ u. is_running u journal)) (same_txn t (once named) (wait t journal))

  -- Deadlock: the asker waits for nobody
  pub wait-deadlock : (stmt : Stmt) (cycle : List ℕ) → wait t (Ran t stmt (run.Deadlock cycle) ∷ journal) ≡ []
  wait-deadlock stmt cycle = ap (filter (λ u. is_running u journal)) (same_txn t [] (wait t journal))

  -- who waits for running ones keeps waiting for them
  kept_waits : (u : ℕ) → filter (λ x. is_running x journal) (wait u journal) ≡ wait u journal
  kept_waits u = filter_all (λ x. is_running x journal) (wait u journal) (λ x h. wait_runs u x journal h)

  -- neither changes the waits of others
  pub wait-blocked_other : (u : ℕ) (stmt : Stmt) (named : List ℕ) → (u ≡ t → ⊥) → wait u (Ran t stmt (run.Blocked named) ∷ journal) ≡ wait u journal
  wait-blocked_other u stmt named differ = ap (filter (λ x. is_running x journal)) (other_txn u t (once named) (wait u journal) differ) ∙ kept_waits u

  pub wait-deadlock_other : (u : ℕ) (stmt : Stmt) (cycle : List ℕ) → (u ≡ t → ⊥) → wait u (Ran t stmt (run.Deadlock cycle) ∷ journal) ≡ wait u journal
  wait-deadlock_other u stmt cycle differ = ap (filter (λ x. is_running x journal)) (other_txn u t [] (wait u journal) differ) ∙ kept_waits u

  -- want of memory changes nobody's wait
  pub wait-no_memory : (u : ℕ) (stmt : Stmt) → wait u (Ran t stmt run.NoMemory ∷ journal) ≡ wait u journal
  wait-no_memory u stmt = kept_waits u

  -- where a transaction ends, it waits for nobody, and nobody waits for it
  pub wait-committed : wait t (Committed t end.Done ∷ journal) ≡ []
  wait-committed = ap (filter (λ u. is_running u (Committed t end.Done ∷ journal))) (same_txn t [] (wait t journal))

  pub wait-rolled_back : wait t (RolledBack t end.Done ∷ journal) ≡ []
  wait-rolled_back = ap (filter (λ u. is_running u (RolledBack t end.Done ∷ journal))) (same_txn t [] (wait t journal))

  -- of those that ran, the ended one alone stops
  pub still_runs : (x : ℕ) (b : Bool) → (x == t) ≡ b → is_running x journal ≡ true → not (is_empty (cond b [] (attempt x journal))) ≡ not b
  still_runs x true e runs = refl
  still_runs x false e runs = runs

  pub wait-committed_other : (u : ℕ) → (u ≡ t → ⊥) → wait u (Committed t end.Done ∷ journal) ≡ filter (λ x. not (x == t)) (wait u journal)
  wait-committed_other u differ =
      let after = λ (x : ℕ). is_running x (Committed t end.Done ∷ journal) in
      ap (filter after) (other_txn u t [] (wait u journal) differ)
      ∙ filter_agree_on after (λ x. not (x == t)) (wait u journal) (λ x h. still_runs x (x == t) refl (wait_runs u x journal h))

  pub wait-rolled_back_other : (u : ℕ) → (u ≡ t → ⊥) → wait u (RolledBack t end.Done ∷ journal) ≡ filter (λ x. not (x == t)) (wait u journal)
  wait-rolled_back_other u differ =
      let after = λ (x : ℕ). is_running x (RolledBack t end.Done ∷ journal) in
      ap (filter after) (other_txn u t [] (wait u journal) differ)
      ∙ filter_agree_on after (λ x. not (x == t)) (wait u journal) (λ x h. still_runs x (x == t) refl (wait_runs u x journal h))
