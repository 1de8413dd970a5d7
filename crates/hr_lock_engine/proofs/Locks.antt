-- What one more call makes of what the lock table holds.
use Rattle.std.proofs.Common.{◌≡◌, ℕ, ◌<◌, Bool, true, cond, not, ◌==◌, nat_lt, Ok, None, inl, inr, List, [], ◌∷◌, ◌++◌, map, refl, ap, subst, ◌∙◌, sym, arith}
use Rattle.std.specs.Prelude.{◌≢◌}
use Rattle.std.specs.List.{filter}
use Rattle.std.proofs.lemmas.Bool.{and_parts, eq-eqb, ne_eqb, eqb-true, ltb-true, cases_eq, or_cases}
use Rattle.std.proofs.lemmas.List.{append-nil}
use Rattle.hr_base.specs.Lists.{has, is_ascending, once}
use Rattle.hr_base.proofs.ListLaws.{filter_all}
use Rattle.hr_rel.specs.declared.answer.Answer.{Answer}
use Rattle.hr_rel.specs.declared.stmt.Stmt.{Stmt}
use Rattle.hr_engine.specs.declared.reply.RunReply.TheVariants as run
use Rattle.hr_engine.specs.declared.reply.EndReply.TheVariants as end
use Rattle.hr_engine.specs.Journal.{Ran, Committed, RolledBack, Restarted, Journal}
use Rattle.hr_engine.specs.Attempts.{attempt, is_running}
use Rattle.hr_engine.specs.Waits.{wait}
use Rattle.hr_engine.specs.Exact.{AreHolders, IsExactBlocked}
use Rattle.hr_engine.proofs.AttemptLaws.{attempt-done_other, attempt-committed, attempt-committed_other, attempt-rolled_back, attempt-rolled_back_other}
use Rattle.hr_engine.proofs.WaitLaws.{wait-done, wait-done_other, wait-blocked, wait-blocked_other, wait-deadlock, wait-deadlock_other, wait-no_memory, wait-committed, wait-committed_other, wait-rolled_back, wait-rolled_back_other}
use Rattle.hr_locks.specs.declared.need.Need.{Need}
use Rattle.hr_locks.specs.declared.need.Lock.{Lock}
use Rattle.hr_locks.specs.Locks.{locks_on}
use Rattle.hr_locks.specs.Waits.{without}
use Rattle.hr_locks.specs.Table.{Table, Held, empty, wait_of}
use Rattle.hr_parts.specs.Parts.{Part}
use Rattle.hr_lock_engine.specs.Conflicts.{by_parts, needed, held_by}
use Rattle.hr_lock_engine.specs.Keeps.{Locked}
use Rattle.hr_lock_engine.proofs.Meets.{held_by_none, held_by_others, held_granted, held_beside}
use Rattle.hr_lock_engine.proofs.Sound.{way_runs}
use Rattle.hr_lock_engine.proofs.Tells.{needs_done, needs_of, same_needs}

-- ---- ascending lists

tail_ascends : (t : ℕ) (ts : List ℕ) → is_ascending (t ∷ ts) ≡ true → is_ascending ts ≡ true
tail_ascends t [] h = refl
tail_ascends t (u ∷ ts) h = (and_parts (nat_lt t u) (is_ascending (u ∷ ts)) h).1

later_greater : (t u : ℕ) (ts : List ℕ) → is_ascending (t ∷ ts) ≡ true → has ts u ≡ true → t < u
later_greater t u [] asc h = cc
later_greater t u (x ∷ ts) asc h =
    let both = and_parts (nat_lt t x) (is_ascending (x ∷ ts)) asc in
    elim (or_cases (x == u) (has ts u) h) [
      | inl e ↦ omega (arith, ltb-true t x both.0, eqb-true x u e)
      | inr later ↦ omega (arith, ltb-true t x both.0, later_greater x u ts both.1 later)
    ]

once_ascending : (ts : List ℕ) → is_ascending ts ≡ true → once ts ≡ ts
once_ascending [] asc = refl
once_ascending (t ∷ ts) asc =
    ap (λ (l : List ℕ). t ∷ l)
    (ap (filter (λ u. not (u == t))) (once_ascending ts (tail_ascends t ts asc))
    ∙ filter_all (λ u. not (u == t)) ts (λ u h. ap not (ne_eqb u t (λ e. omega (arith, later_greater t u ts asc h, e)))))

module _ {N : Type 0} (covered : Need N → Part) (parts : Stmt → List Part) (table : Table N) (journal : Journal) (h : Locked covered parts table journal) where
  module _ (t : ℕ) (s : Stmt) where
    pub locked_done : (a : Answer) (needs : List (Need N)) → map covered needs ≡ parts s → AreHolders (by_parts parts) t s journal [] → (now : Table N)
        → now.held.locks ≡ table.held.locks ++ locks_on t needs → ((u : ℕ) → wait_of now u ≡ cond (u == t) [] (wait_of table u)) → Locked covered parts now (Ran t s (run.Done a) ∷ journal)
    locked_done a needs is free now locks waits =
        let after = Ran t s (run.Done a) ∷ journal in
        record {
          locks = λ u. elim (cases_eq u t) [
            | inl e ↦
                ap (λ (x : ℕ). held_by covered x now.held.locks) e ∙ ap (held_by covered t) locks ∙ held_granted covered t needs table.held.locks ∙ (λ i. h.locks t i ++ is i)
                ∙ sym (ap (λ (x : ℕ). needed parts x after) e ∙ needs_done parts journal t s a)
            | inr f ↦
                ap (held_by covered u) locks ∙ held_beside covered t u f needs table.held.locks ∙ h.locks u ∙ sym (same_needs parts journal after u (attempt-done_other journal t s a u f))
          ];
          waits = λ u. elim (cases_eq u t) [
            | inl e ↦ waits u ∙ ap (λ (b : Bool). cond b [] (wait_of table u)) (eq-eqb u t e) ∙ sym (ap (λ (x : ℕ). wait x after) e ∙ wait-done journal t s a)
            | inr f ↦ waits u ∙ ap (λ (b : Bool). cond b [] (wait_of table u)) (ne_eqb u t f) ∙ h.waits u ∙ sym (wait-done_other journal t u s a f)
          ];
        }

    pub locked_blocked : (named : List ℕ) → IsExactBlocked (by_parts parts) t s journal named → (now : Table N) → now.held.locks ≡ table.held.locks ++ []
        → ((u : ℕ) → wait_of now u ≡ cond (u == t) named (wait_of table u)) → Locked covered parts now (Ran t s (run.Blocked named) ∷ journal)
    locked_blocked named exact now locks waits =
        let after = Ran t s (run.Blocked named) ∷ journal in
        let run_all : filter (λ u. is_running u journal) named ≡ named = filter_all (λ u. is_running u journal) named
        (λ u k. way_runs (by_parts parts) t s journal u (and_parts (not (u == t)) _ (sym (exact.holders.all u) ∙ k)).1) in
        let told : wait t after ≡ named = wait-blocked journal t s named ∙ ap (filter (λ u. is_running u journal)) (once_ascending named exact.holders.ascending) ∙ run_all in
        record {
          locks = λ u. ap (held_by covered u) (locks ∙ append-nil table.held.locks) ∙ h.locks u;
          waits = λ u. elim (cases_eq u t) [
            | inl e ↦ waits u ∙ ap (λ (b : Bool). cond b named (wait_of table u)) (eq-eqb u t e) ∙ sym (ap (λ (x : ℕ). wait x after) e ∙ told)
            | inr f ↦ waits u ∙ ap (λ (b : Bool). cond b named (wait_of table u)) (ne_eqb u t f) ∙ h.waits u ∙ sym (wait-blocked_other journal t u s named f)
          ];
        }

    pub locked_deadlock : (told : List ℕ) (now : Table N) → now.held.locks ≡ table.held.locks ++ [] → ((u : ℕ) → wait_of now u ≡ cond (u == t) [] (wait_of table u))
        → Locked covered parts now (Ran t s (run.Deadlock told) ∷ journal)
    locked_deadlock told now locks waits =
        let after = Ran t s (run.Deadlock told) ∷ journal in
        record {
          locks = λ u. ap (held_by covered u) (locks ∙ append-nil table.held.locks) ∙ h.locks u;
          waits = λ u. elim (cases_eq u t) [
            | inl e ↦ waits u ∙ ap (λ (b : Bool). cond b [] (wait_of table u)) (eq-eqb u t e) ∙ sym (ap (λ (x : ℕ). wait x after) e ∙ wait-deadlock journal t s told)
            | inr f ↦ waits u ∙ ap (λ (b : Bool). cond b [] (wait_of table u)) (ne_eqb u t f) ∙ h.waits u ∙ sym (wait-deadlock_other journal t u s told f)
          ];
        }

    -- where memory ran out, it stands as it stood
    pub locked_no_memory : (now : Table N) → now.held ≡ table.held → Locked covered parts now (Ran t s run.NoMemory ∷ journal)
    locked_no_memory now e = record {
      locks = λ u. ap (λ (held : Held N). held_by covered u held.locks) e ∙ h.locks u;
      waits = λ u. ap (λ (held : Held N). wait_of record { held = held; undo = None } u) e ∙ h.waits u ∙ sym (wait-no_memory journal t u s);
    }

  -- where a transaction ends, it holds nothing and waits for nobody, and nobody waits for it
  module _ (t : ℕ) (now : Table N) (locks : now.held.locks ≡ filter (λ (lock : Lock N). not (lock.txn == t)) table.held.locks)
      (waits : (u : ℕ) → wait_of now u ≡ cond (u == t) [] (without t (wait_of table u))) where
    released : (after : Journal) → attempt t after ≡ [] → ((u : ℕ) → u ≢ t → attempt u after ≡ attempt u journal) → wait t after ≡ []
        → ((u : ℕ) → u ≢ t → wait u after ≡ filter (λ x. not (x == t)) (wait u journal)) → Locked covered parts now after
    released after none others no_wait other_waits = record {
      locks = λ u. elim (cases_eq u t) [
        | inl e ↦
            ap (λ (x : ℕ). held_by covered x now.held.locks) e ∙ ap (held_by covered t) locks ∙ held_by_none covered t table.held.locks ∙ sym (needs_of parts journal after t u [] e none)
        | inr f ↦ ap (held_by covered u) locks ∙ held_by_others covered t u f table.held.locks ∙ h.locks u ∙ sym (same_needs parts journal after u (others u f))
      ];
      waits = λ u. elim (cases_eq u t) [
        | inl e ↦ waits u ∙ ap (λ (b : Bool). cond b [] (without t (wait_of table u))) (eq-eqb u t e) ∙ sym (ap (λ (x : ℕ). wait x after) e ∙ no_wait)
        | inr f ↦ waits u ∙ ap (λ (b : Bool). cond b [] (without t (wait_of table u))) (ne_eqb u t f) ∙ ap (without t) (h.waits u) ∙ sym (other_waits u f)
      ];
    }

    pub locked_committed : Locked covered parts now (Committed t end.Done ∷ journal)
    locked_committed = released (Committed t end.Done ∷ journal) (attempt-committed journal t) (attempt-committed_other journal t) (wait-committed journal t) (wait-committed_other journal t)

    pub locked_rolled_back : Locked covered parts now (RolledBack t end.Done ∷ journal)
    locked_rolled_back =
        released (RolledBack t end.Done ∷ journal) (attempt-rolled_back journal t) (attempt-rolled_back_other journal t) (wait-rolled_back journal t) (wait-rolled_back_other journal t)

-- a restart lets all go
pub locked_restarted : {N : Type 0} (covered : Need N → Part) (parts : Stmt → List Part) (journal : Journal) (told : ℕ) (now : Table N) → now ≡ empty
    → Locked covered parts now (Restarted (Ok told) ∷ journal)
locked_restarted covered parts journal told now e = subst (λ (table : Table _). Locked covered parts table (Restarted (Ok told) ∷ journal)) (sym e) record {
  locks = λ t. refl;
  waits = λ t. refl;
}
