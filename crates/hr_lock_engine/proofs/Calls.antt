-- What each call of the engine, with its reply, makes of what it keeps.
use Rattle.std.proofs.Common.{◌≡◌, ℕ, ℤ, ◌+◌, ◌-◌, ◌^◌, min, Bool, true, false, cond, not, ◌==◌, Ok, inl, inr, List, [], ◌∷◌, ◌++◌, map, filter, length, ◌&&◌, refl, ap, subst, ◌∙◌, sym, arith}
use Rattle.std.specs.Prelude.{◌≢◌, Option, Some, None, IfSome}
use Rattle.std.proofs.lemmas.List.Sorted.{IsPermutation-trans}
use Rattle.std.proofs.lemmas.Bool.{both_ways, false_from_ne_true, eqb-true}
use Rattle.hr_base.specs.Counters.{shown}
use Rattle.hr_rel.specs.declared.answer.Answer.{Answer}
use Rattle.hr_rel.specs.declared.answer.Answer.TheVariants as answer
use Rattle.hr_rel.specs.declared.stmt.Stmt.{Stmt}
use Rattle.hr_rel.specs.Database.{Database}
use Rattle.hr_rel.specs.Kinds.{fits_i64}
use Rattle.hr_rel.specs.Holds.{IsOrdered}
use Rattle.hr_meaning.specs.Exec.{exec}
use Rattle.hr_meaning.specs.SameAnswer.{SameAnswer}
use Rattle.hr_engine.specs.declared.reply.RunReply.TheVariants as run
use Rattle.hr_engine.specs.declared.reply.EndReply.TheVariants as end
use Rattle.hr_engine.specs.Journal.{Ran, Committed, RolledBack, Restarted, Journal}
use Rattle.hr_engine.specs.Attempts.{attempt}
use Rattle.hr_engine.specs.Base.{count}
use Rattle.hr_engine.specs.Exact as engine
use Rattle.hr_engine.proofs.BaseLaws.{count-committed, commits-restarted}
use Rattle.hr_locks.specs.declared.need.Need.{Need}
use Rattle.hr_locks.specs.declared.need.Lock.{Lock}
use Rattle.hr_locks.specs.Locks.{is_conflict, is_in_the_way, locks_on, AreHolders}
use Rattle.hr_locks.specs.Waits.{without}
use Rattle.hr_locks.specs.Grants.{IsDue, IsBlocked, IsDeadlock}
use Rattle.hr_locks.specs.declared.grant.Grant.{Grant}
use Rattle.hr_locks.specs.Table.{Table, Held, empty, wait_of}
use Rattle.hr_parts.specs.Parts.{Part, covers, written, row_at, conflict, Within}
use Rattle.hr_parts.proofs.Lists.{wider_left, wider_right}
use Rattle.hr_lock_engine.specs.Conflicts.{meet, by_parts, needed, held_by}
use Rattle.hr_lock_engine.specs.Views.{Seen, Wrote, IsView, AreFree, Sees, SameSeen, OthersSee, SeeCommitted, WroteWithin, WroteNothing}
use Rattle.hr_lock_engine.specs.Keeps.{view_of, Keeps, WritesAreLocked}
use Rattle.hr_lock_engine.proofs.Meets.{unmet_apart, none_apart, meet_all, held_append, held_granted, held_by_others, in_way}
use Rattle.hr_lock_engine.proofs.Sound.{exact_holders, exact_blocked, exact_deadlock}
use Rattle.hr_lock_engine.proofs.Tells.{tells_blocked, tells_deadlock, tells_no_memory, tells_done, tells_committed, tells_rolled_back, tells_restarted}
use Rattle.hr_lock_engine.proofs.Locks.{locked_done, locked_blocked, locked_deadlock, locked_no_memory, locked_committed, locked_rolled_back, locked_restarted}
use Rattle.hr_lock_engine.proofs.Stores.{view_is, stored_done, stored_no_memory, stored_blocked, stored_deadlock, stored_committed, stored_rolled_back, stored_restarted}

-- one more commit, as a counter shows it
one_more_shown : (n m k : ℕ) → n ≡ shown m → k ≡ m + 1 → min (n + 1) (2 ^ 64 - 1) ≡ shown k
one_more_shown n m k e f = omega arith

-- what equals an answer that equals a third one
then_same : (a b d : Answer) → SameAnswer a b → SameAnswer b d → SameAnswer a d
then_same (answer.Rows xs) (answer.Rows ys) (answer.Rows zs) e f = IsPermutation-trans xs ys zs e f
then_same (answer.Rows xs) (answer.Rows ys) (answer.Count n) e f = absurd f
then_same (answer.Rows xs) (answer.Rows ys) (answer.Failed n) e f = absurd f
then_same (answer.Rows xs) (answer.Count m) d e f = absurd e
then_same (answer.Rows xs) (answer.Failed m) d e f = absurd e
then_same (answer.Count m) (answer.Count n) (answer.Count k) e f = e ∙ f
then_same (answer.Count m) (answer.Count n) (answer.Rows zs) e f = absurd f
then_same (answer.Count m) (answer.Count n) (answer.Failed k) e f = absurd f
then_same (answer.Count m) (answer.Rows ys) d e f = absurd e
then_same (answer.Count m) (answer.Failed n) d e f = absurd e
then_same (answer.Failed m) (answer.Failed n) (answer.Failed k) e f = e ∙ f
then_same (answer.Failed m) (answer.Failed n) (answer.Rows zs) e f = absurd f
then_same (answer.Failed m) (answer.Failed n) (answer.Count k) e f = absurd f
then_same (answer.Failed m) (answer.Rows ys) d e f = absurd e
then_same (answer.Failed m) (answer.Count n) d e f = absurd e

-- an undo gives back what stood before
pub undone : {N : Type 0} (o : Option (ℕ × Held N)) (before : ℕ × Held N) (now : Table N) → o ≡ Some before → IfSome o (λ b. now ≡ record { held = b.1; undo = None }) → now.held ≡ before.1
undone o before now e given = ap (λ (t : Table _). t.held) (subst (λ (p : Option (ℕ × Held _)). IfSome p (λ b. now ≡ record { held = b.1; undo = None })) e given)

-- the answer that is due to a request of these needs
abbrev pub IsDueTo : {N : Type 0} → (N → N → Bool) → Table N → ℕ → List (Need N) → Grant → Type 0
IsDueTo meets table t needs grant = IsDue (is_in_the_way meets table.held.locks needs) (wait_of table) t grant

-- ---- where transactions have written, they have locked

module _ {N : Type 0} (covered : Need N → Part) (wrote : Wrote) (table : Table N) (locked : WritesAreLocked covered wrote table) where
  -- nobody else has written in what was granted
  pub free_to_run : (meets : N → N → Bool) → ((a b : Need N) → is_conflict meets a b ≡ conflict (covered a) (covered b)) → (t : ℕ) (parts : List Part) (needs : List (Need N))
      → map covered needs ≡ parts → AreHolders t (is_in_the_way meets table.held.locks needs) [] → AreFree wrote t parts
  free_to_run meets meeting t parts needs is none u x k differ fit within =
      let unmet : meet (held_by covered u table.held.locks) parts ≡ false =
      ap (meet (held_by covered u table.held.locks)) (sym is) ∙ sym (in_way covered meets meeting table.held.locks needs u)
      ∙ sym (ap (λ (b : Bool). not b && is_in_the_way meets table.held.locks needs u) (other u t differ)) ∙ sym (none.all u) in
      false_from_ne_true (wrote u x k) (λ w. both_ways (covers parts x k) ((unmet_apart (held_by covered u table.held.locks) parts unmet).right x k (locked u x k fit w)) within)
    where
      other : (u t : ℕ) → u ≢ t → (u == t) ≡ false
      other u t differ = false_from_ne_true (u == t) (λ e. differ (eqb-true u t e))

  -- after a statement the writer has locked what it wrote
  pub writes_done : (now : Wrote) (after : Table N) (t : ℕ) (parts : List Part) (needs : List (Need N)) → map covered needs ≡ parts
      → after.held.locks ≡ table.held.locks ++ locks_on t needs → WroteWithin t parts wrote now → WritesAreLocked covered now after
  writes_done now after t parts needs is locks within u x k fit w = elim (within u x k fit w) [
    | inl old ↦
        subst (λ (l : List (Lock N)). covers (written (held_by covered u l)) x k ≡ true) (sym locks)
        (subst (λ (l : List Part). covers (written l) x k ≡ true) (sym (held_append covered u table.held.locks (locks_on t needs)))
        ((wider_left (held_by covered u table.held.locks) (held_by covered u (locks_on t needs))).changed x k (locked u x k fit old)))
    | inr new ↦
        subst (λ (y : ℕ). covers (written (held_by covered y after.held.locks)) x k ≡ true) (sym new.0)
        (subst (λ (l : List (Lock N)). covers (written (held_by covered t l)) x k ≡ true) (sym locks)
        (subst (λ (l : List Part). covers (written l) x k ≡ true) (sym (held_granted covered t needs table.held.locks))
        ((wider_right (held_by covered t table.held.locks) (map covered needs)).changed x k (subst (λ (l : List Part). covers (written l) x k ≡ true) (sym is) new.1))))
  ]

  -- after an end the others have locked what they wrote
  pub writes_ended : (now : Wrote) (after : Table N) (t : ℕ) → after.held.locks ≡ filter (λ (lock : Lock N). not (lock.txn == t)) table.held.locks → WroteNothing t wrote now
      → WritesAreLocked covered now after
  writes_ended now after t locks ends u x k fit w =
      let left = ends u x k w in
      subst (λ (l : List Part). covers (written l) x k ≡ true) (sym (ap (held_by covered u) locks ∙ held_by_others covered t u left.0 table.held.locks)) (locked u x k fit left.1)

-- ---- calls

module _ {N : Type 0} (meets : N → N → Bool) (covered : Need N → Part) (parts : Stmt → List Part) (meeting : (a b : Need N) → is_conflict meets a b ≡ conflict (covered a) (covered b))
    (footprint : (s : Stmt) → Within (parts s) (s ∷ [])) where
  -- the beginning
  pub keeps_new : (committed : Database) (seen : Seen) (table : Table N) → IsOrdered committed → ((u t : ℕ) (k : ℤ) → seen u t k ≡ row_at committed t k) → table ≡ empty
      → Keeps covered parts committed seen table 0 committed []
  keeps_new committed seen table ordered sees none = subst (λ (l : Table N). Keeps covered parts committed seen l 0 committed []) (sym none) record {
    tells = record {
      exact = tt;
      rigorous = tt;
      doubt = refl;
      found = refl;
      ordered = ordered;
      apart = λ t u differ. none_apart [];
      answered = λ t. tt;
    };
    locked = record { locks = λ t. refl; waits = λ t. refl };
    stored = record { base = refl; seen = sees };
    commits = refl;
  }

  module _ (committed : Database) (seen : Seen) (table : Table N) (n : ℕ) (start : Database) (journal : Journal) (h : Keeps covered parts committed seen table n start journal) where
    module _ (t : ℕ) (s : Stmt) (needs : List (Need N)) (is : map covered needs ≡ parts s) where
      abbrev in_table : ℕ → Bool
      in_table u = is_in_the_way meets table.held.locks needs u

      -- who is in the way by the lock table is so by the journal
      same_way : (u : ℕ) → in_table u ≡ engine.is_in_the_way (by_parts parts) s journal u
      same_way u = in_way covered meets meeting table.held.locks needs u ∙ (λ i. meet (h.locked.locks u i) (is i)) ∙ meet_all parts (attempt u journal) (parts s)

      pub keeps_blocked : (named : List ℕ) → IsBlocked in_table (wait_of table) t named → (now : Table N) → now.held.locks ≡ table.held.locks ++ []
          → ((u : ℕ) → wait_of now u ≡ cond (u == t) named (wait_of table u)) → Keeps covered parts committed seen now n start (Ran t s (run.Blocked named) ∷ journal)
      keeps_blocked named due now locks waits =
          let exact = exact_blocked (by_parts parts) t s journal in_table (wait_of table) same_way h.locked.waits named due in
          record {
            tells = tells_blocked parts footprint start journal h.tells t s named exact;
            locked = locked_blocked covered parts table journal h.locked t s named exact now locks waits;
            stored = stored_blocked parts committed seen start journal h.tells h.stored t s named;
            commits = h.commits;
          }

      pub keeps_deadlock : (told : List ℕ) → IsDeadlock in_table (wait_of table) t told → (now : Table N) → now.held.locks ≡ table.held.locks ++ []
          → ((u : ℕ) → wait_of now u ≡ cond (u == t) [] (wait_of table u)) → Keeps covered parts committed seen now n start (Ran t s (run.Deadlock told) ∷ journal)
      keeps_deadlock told due now locks waits =
          let exact = exact_deadlock (by_parts parts) t s journal in_table (wait_of table) same_way h.locked.waits told due in
          record {
            tells = tells_deadlock parts footprint start journal h.tells t s told due.path due.from_asker exact;
            locked = locked_deadlock covered parts table journal h.locked t s told now locks waits;
            stored = stored_deadlock parts committed seen start journal h.tells h.stored t s told;
            commits = h.commits;
          }

      pub keeps_done : (a ran : Answer) → AreHolders t in_table [] → (now : Table N) → now.held.locks ≡ table.held.locks ++ locks_on t needs
          → ((u : ℕ) → wait_of now u ≡ cond (u == t) [] (wait_of table u)) → (base_now : Database) (sees : Seen) → base_now ≡ committed
          → ((db : Database) → IsView committed (seen t) db → SameAnswer (exec db s).answer ran) → SameAnswer ran a
          → ((db : Database) → IsView committed (seen t) db → Sees sees t (exec db s).after) → OthersSee t seen sees
          → Keeps covered parts base_now sees now n start (Ran t s (run.Done a) ∷ journal)
      keeps_done a ran due now locks waits base_now sees same told_same canonical after others =
          let view = view_is parts committed seen start journal h.tells h.stored t in
          let free = exact_holders (by_parts parts) t s journal in_table (wait_of table) same_way h.locked.waits [] due in
          let told = then_same (exec (view_of start t journal) s).answer ran a (told_same (view_of start t journal) view) canonical in
          record {
            tells = tells_done parts footprint start journal h.tells t s a free told;
            locked = locked_done covered parts table journal h.locked t s a needs is free now locks waits;
            stored = stored_done parts committed seen start journal h.tells h.stored t s a base_now sees same (after (view_of start t journal) view) others;
            commits = h.commits;
          }

    pub keeps_no_memory : (t : ℕ) (s : Stmt) (now : Table N) → now.held ≡ table.held → (base_now : Database) (sees : Seen) → base_now ≡ committed → SameSeen seen sees
        → Keeps covered parts base_now sees now n start (Ran t s run.NoMemory ∷ journal)
    keeps_no_memory t s now held base_now sees same seen_same = record {
      tells = tells_no_memory parts footprint start journal h.tells t s;
      locked = locked_no_memory covered parts table journal h.locked t s now held;
      stored = stored_no_memory parts committed seen start journal h.tells h.stored t s base_now sees same seen_same;
      commits = h.commits;
    }

    module _ (t : ℕ) (now : Table N) (locks : now.held.locks ≡ filter (λ (lock : Lock N). not (lock.txn == t)) table.held.locks)
        (waits : (u : ℕ) → wait_of now u ≡ cond (u == t) [] (without t (wait_of table u))) (base_now : Database) (sees : Seen) where
      pub keeps_committed : (wrote : Wrote) → WritesAreLocked covered wrote table → ((u x : ℕ) (k : ℤ) → wrote u x k ≡ false → seen u x k ≡ row_at committed x k)
          → ((db : Database) → IsView committed (seen t) db → base_now ≡ db) → SeeCommitted t wrote seen sees
          → Keeps covered parts base_now sees now (min (n + 1) (2 ^ 64 - 1)) start (Committed t end.Done ∷ journal)
      keeps_committed wrote locked unwritten becomes see =
          let writes : (u x : ℕ) (k : ℤ) → fits_i64 k ≡ true → wrote u x k ≡ true → covers (written (needed parts u journal)) x k ≡ true =
          λ u x k fit w. subst (λ (l : List Part). covers (written l) x k ≡ true) (h.locked.locks u) (locked u x k fit w) in
          let is = becomes (view_of start t journal) (view_is parts committed seen start journal h.tells h.stored t) in
          record {
            tells = tells_committed parts footprint start journal h.tells t;
            locked = locked_committed covered parts table journal h.locked t now locks waits;
            stored = stored_committed parts committed seen start journal h.tells h.stored footprint wrote writes unwritten t base_now sees is see;
            commits = one_more_shown n (count journal) (count (Committed t end.Done ∷ journal)) h.commits (count-committed journal t);
          }

      pub keeps_rolled_back : base_now ≡ committed → Sees sees t committed → OthersSee t seen sees → Keeps covered parts base_now sees now n start (RolledBack t end.Done ∷ journal)
      keeps_rolled_back same own others = record {
        tells = tells_rolled_back parts footprint start journal h.tells t;
        locked = locked_rolled_back covered parts table journal h.locked t now locks waits;
        stored = stored_rolled_back parts committed seen start journal h.tells h.stored t base_now sees same own others;
        commits = h.commits;
      }

    pub keeps_restarted : (now : Table N) → now ≡ empty → (base_now : Database) (sees : Seen) → base_now ≡ committed → ((u : ℕ) → Sees sees u committed)
        → Keeps covered parts base_now sees now n start (Restarted (Ok n) ∷ journal)
    keeps_restarted now none base_now sees same all = record {
      tells = tells_restarted parts footprint start journal h.tells n h.commits;
      locked = locked_restarted covered parts journal n now none;
      stored = stored_restarted parts committed seen start journal h.tells h.stored n base_now sees same all;
      commits = h.commits ∙ ap (λ (log : List (List Stmt)). shown (length log)) (sym (commits-restarted journal n h.tells.doubt));
    }
