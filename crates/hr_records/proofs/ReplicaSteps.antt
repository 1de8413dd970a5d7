-- What one more entry makes of a replica's part, on plain words.
use Rattle.std.proofs.Common.{◌≡◌, inl, inr, ℕ, suc, ◌+◌, ◌≤◌, Bool, true, false, ◌==◌, if◌then◌else◌, Option, Some, None, Ok, Err, unwrap_or, option_map, slice_get, List, [], ◌∷◌, ◌++◌, length, map, refl, ap, sym, ◌∙◌, subst, arith}
use Rattle.std.proofs.lemmas.Option.{slice_get-map}
use Rattle.std.proofs.lemmas.List.{map-append, length-map}
use Rattle.hr_base.specs.Lists.{numbered}
use Rattle.hr_base.specs.Counters.{shown}
use Rattle.hr_rel.specs.declared.answer.Answer.{Answer}
use Rattle.hr_rel.specs.declared.stmt.Stmt.{Stmt}
use Rattle.hr_engine.specs.declared.reply.Lost.{Lost}
use Rattle.hr_engine.specs.declared.reply.RunReply.{RunReply}
use Rattle.hr_engine.specs.declared.reply.RunReply.TheVariants as run
use Rattle.hr_engine.specs.declared.reply.EndReply.{EndReply}
use Rattle.hr_engine.specs.declared.reply.EndReply.TheVariants as end
use Rattle.hr_engine.specs.Journal.{Ran, Committed, RolledBack, Restarted, Journal}
use Rattle.hr_engine.specs.Attempts.{RanStmt, attempt, statements}
use Rattle.hr_engine.specs.Base.{settled, count, with_doubt}
use Rattle.hr_engine.proofs.BaseLaws.{no_doubt}
use Rattle.hr_history.specs.declared.job.Job.{Job}
use Rattle.hr_history.specs.declared.job.Job.TheVariants as job
use Rattle.hr_records.specs.AtReplica.{Begins, AtReplica}
use Rattle.hr_records.proofs.Options.{some_none, same_some}
use Rattle.hr_records.proofs.Places.{same_or_not, if_same, if_other, got_front, got_some}
use Rattle.hr_records.proofs.Beginnings.{begins_more, begins_chain, begins_next, begins_whole, map_same_at}

pub statements_many : (steps : List RanStmt) → length (statements steps) ≡ length steps
statements_many steps = length-map steps (λ (s : RanStmt). s.stmt)

nothing_begins : (stmts : List Stmt) → Begins (statements []) stmts
nothing_begins stmts = (stmts, refl)

module _ {submitted : ℕ → List Stmt} {decided : List ℕ} {out : Option Job} {j : Journal} (g : AtReplica submitted decided out j) where
  -- statements are submitted of transactions that aren't in the log
  pub grown : (submitted_now : ℕ → List Stmt) → ((t : ℕ) → Begins (submitted t) (submitted_now t)) → ((i t : ℕ) → slice_get decided i ≡ Some t → submitted t ≡ submitted_now t) → AtReplica submitted_now decided out j
  grown submitted_now more same =
      let all = map_same_at submitted submitted_now decided same in
      record {
        attempts = λ t. begins_chain (statements (attempt t j)) (submitted t) (submitted_now t) (g.attempts t) (more t);
        runs = g.runs;
        commits = λ t e. (let c = g.commits t e in (c.0, c.1 ∙ ap length (same (count j) t c.0)));
        live = g.live;
        lost = g.lost;
        base = subst (Begins (settled j).commits) all g.base;
        doubt = λ stmts e. subst (Begins ((settled j).commits ++ stmts ∷ [])) all (g.doubt stmts e);
      }

  -- one more is decided
  pub decides : (t : ℕ) → AtReplica submitted (decided ++ t ∷ []) out j
  decides t =
      let all : map submitted decided ++ submitted t ∷ [] ≡ map submitted (decided ++ t ∷ []) = sym (map-append submitted decided (t ∷ [])) in
      record {
        attempts = g.attempts;
        runs = g.runs;
        commits = λ u e. (let c = g.commits u e in (got_front decided (t ∷ []) (count j) u c.0, c.1));
        live = g.live;
        lost = g.lost;
        base = subst (Begins (settled j).commits) all (begins_more (settled j).commits (map submitted decided) (submitted t ∷ []) g.base);
        doubt = λ stmts e. subst (Begins ((settled j).commits ++ stmts ∷ [])) all (begins_more ((settled j).commits ++ stmts ∷ []) (map submitted decided) (submitted t ∷ []) (g.doubt stmts e));
      }

  -- a job is taken
  pub takes : (now : Job)
      → ((t i : ℕ) → now ≡ job.Run t i → i ≡ length (attempt t j) + 1)
      → ((t : ℕ) → now ≡ job.Commit t → (slice_get decided (count j) ≡ Some t) × (length (attempt t j) ≡ length (submitted t)))
      → ((now ≡ job.Restart → ⊥) → (settled j).lost ≡ false)
      → (now ≡ job.Restart → (settled j).lost ≡ true)
      → AtReplica submitted decided (Some now) j
  takes now runs commits live lost = record {
    attempts = g.attempts;
    runs = λ t i e. runs t i (same_some now (job.Run t i) e);
    commits = λ t e. commits t (same_some now (job.Commit t) e);
    live = λ k e other. live (λ restart. other (sym (same_some now k e) ∙ restart));
    lost = λ e. lost (same_some now job.Restart e);
    base = g.base;
    doubt = g.doubt;
  }

  -- a job is replied to, and the journal is this one
  replied : (now : Journal) → ((t : ℕ) → Begins (statements (attempt t now)) (submitted t)) → Begins (settled now).commits (map submitted decided)
      → ((stmts : List Stmt) → (settled now).doubt ≡ Some stmts → Begins ((settled now).commits ++ stmts ∷ []) (map submitted decided))
      → AtReplica submitted decided None now
  replied now attempts base doubt = record {
    attempts = attempts;
    runs = λ t i e. absurd (some_none (job.Run t i) (sym e));
    commits = λ t e. absurd (some_none (job.Commit t) (sym e));
    live = λ k e other. absurd (some_none k (sym e));
    lost = λ e. absurd (some_none job.Restart (sym e));
    base = base;
    doubt = doubt;
  }

  -- a doubt that began earlier, or none
  older_doubt : (b : Bool) (d : Option (List Stmt)) (stmts : List Stmt) → (if b then d else None) ≡ Some stmts → d ≡ Some stmts
  older_doubt true d stmts e = e
  older_doubt false d stmts e = absurd (some_none stmts (sym e))

  is_run : (t i : ℕ) → job.Run t i ≡ job.Restart → ⊥
  is_run t i e = cc

  is_commit : (t : ℕ) → job.Commit t ≡ job.Restart → ⊥
  is_commit t e = cc

  module _ (t i : ℕ) (is : out ≡ Some (job.Run t i)) (le : i ≤ length (submitted t)) (stmt : Stmt) (its : stmt ≡ unwrap_or (numbered (submitted t) i) stmt) where
    next_stmt : slice_get (submitted t) (length (statements (attempt t j))) ≡ Some stmt
    next_stmt =
        let index = g.runs t i is in
        let many = statements_many (attempt t j) in
        let there = got_some (submitted t) (length (statements (attempt t j))) (omega (arith, index, many, le)) in
        let at : i ≡ suc (length (statements (attempt t j))) = omega (arith, index, many) in
        let found : numbered (submitted t) i ≡ Some there.0 = ap (numbered (submitted t)) at ∙ there.1 in
        there.1 ∙ ap Some (sym (its ∙ ap (λ o. unwrap_or o stmt) found))

    pub done : (a : Answer) → AtReplica submitted decided None (Ran t stmt (run.Done a) ∷ j)
    done a = replied (Ran t stmt (run.Done a) ∷ j) attempts g.base g.doubt
      where
        new : RanStmt
        new = record { stmt = stmt; answer = a }

        longer : Begins (statements (attempt t j ++ record { stmt = stmt; answer = a } ∷ [])) (submitted t)
        longer = subst (λ xs. Begins xs (submitted t)) (sym (map-append (λ (s : RanStmt). s.stmt) (attempt t j) (record { stmt = stmt; answer = a } ∷ [])))
            (begins_next (statements (attempt t j)) (submitted t) stmt (g.attempts t) next_stmt)

        attempts : (u : ℕ) → Begins (statements (if u == t then attempt u j ++ record { stmt = stmt; answer = a } ∷ [] else attempt u j)) (submitted u)
        attempts u = elim (same_or_not u t) [
          | inl same ↦ subst (λ xs. Begins (statements xs) (submitted u)) (sym (if_same u t _ (attempt u j) same))
              (subst (λ x. Begins (statements (attempt x j ++ record { stmt = stmt; answer = a } ∷ [])) (submitted x)) (sym same) longer)
          | inr other ↦ subst (λ xs. Begins (statements xs) (submitted u)) (sym (if_other u t _ (attempt u j) other)) (g.attempts u)
        ]

    pub told_run : (x : RunReply) → AtReplica submitted decided None (Ran t stmt x ∷ j)
    told_run (run.Done a) = done a
    told_run (run.Blocked named) = replied (Ran t stmt (run.Blocked named) ∷ j) g.attempts g.base g.doubt
    told_run (run.Deadlock cycle) = replied (Ran t stmt (run.Deadlock cycle) ∷ j) g.attempts g.base g.doubt
    told_run run.Lost = replied (Ran t stmt run.Lost ∷ j) (λ u. nothing_begins (submitted u)) g.base (λ stmts e. g.doubt stmts (older_doubt (settled j).lost (settled j).doubt stmts e))
    told_run run.NoMemory = replied (Ran t stmt run.NoMemory ∷ j) g.attempts g.base g.doubt

  -- an attempt that ended has nothing
  after_end : (t u : ℕ) → Begins (statements (if u == t then [] else attempt u j)) (submitted u)
  after_end t u = elim (same_or_not u t) [
    | inl same ↦ subst (λ xs. Begins (statements xs) (submitted u)) (sym (if_same u t [] (attempt u j) same)) (nothing_begins (submitted u))
    | inr other ↦ subst (λ xs. Begins (statements xs) (submitted u)) (sym (if_other u t [] (attempt u j) other)) (g.attempts u)
  ]

  module _ (t : ℕ) (is : out ≡ Some (job.Commit t)) where
    -- the commits with this one begin the log
    one_more : Begins ((settled j).commits ++ statements (attempt t j) ∷ []) (map submitted decided)
    one_more =
        let c = g.commits t is in
        let whole : statements (attempt t j) ≡ submitted t = begins_whole (statements (attempt t j)) (submitted t) (g.attempts t) (statements_many (attempt t j) ∙ c.1) in
        let next : slice_get (map submitted decided) (count j) ≡ Some (submitted t) = slice_get-map submitted decided (count j) ∙ ap (option_map submitted) c.0 in
        begins_next (settled j).commits (map submitted decided) (statements (attempt t j)) g.base (next ∙ ap Some (sym whole))

    here : (settled j).lost ≡ false
    here = g.live (job.Commit t) is (is_commit t)

    this_doubt : (b : Bool) (d : Option (List Stmt)) (stmts : List Stmt) → b ≡ false → (if b then d else Some (statements (attempt t j))) ≡ Some stmts → Begins ((settled j).commits ++ stmts ∷ []) (map submitted decided)
    this_doubt true d stmts live e = cc
    this_doubt false d stmts live e = subst (λ xs. Begins ((settled j).commits ++ xs ∷ []) (map submitted decided)) (same_some (statements (attempt t j)) stmts e) one_more

    pub told_commit : (x : EndReply) → AtReplica submitted decided None (Committed t x ∷ j)
    told_commit end.Done = replied (Committed t end.Done ∷ j) (after_end t) one_more (λ stmts e. absurd (some_none stmts (sym (sym (no_doubt j here) ∙ e))))
    told_commit end.Lost = replied (Committed t end.Lost ∷ j) (λ u. nothing_begins (submitted u)) g.base (λ stmts e. this_doubt (settled j).lost (settled j).doubt stmts here e)

  pub told_rollback : (t : ℕ) (x : EndReply) → AtReplica submitted decided None (RolledBack t x ∷ j)
  told_rollback t end.Done = replied (RolledBack t end.Done ∷ j) (after_end t) g.base g.doubt
  told_rollback t end.Lost = replied (RolledBack t end.Lost ∷ j) (λ u. nothing_begins (submitted u)) g.base (λ stmts e. g.doubt stmts (older_doubt (settled j).lost (settled j).doubt stmts e))

  pub still_lost : (why : Lost) → AtReplica submitted decided None (Restarted (Err why) ∷ j)
  still_lost why = replied (Restarted (Err why) ∷ j) (λ u. nothing_begins (submitted u)) g.base (λ stmts e. g.doubt stmts (older_doubt (settled j).lost (settled j).doubt stmts e))

  pub is_restarted : (n : ℕ) → AtReplica submitted decided None (Restarted (Ok n) ∷ j)
  is_restarted n = replied (Restarted (Ok n) ∷ j) (λ u. nothing_begins (submitted u)) (by_doubt (settled j).doubt refl) (λ stmts e. absurd (some_none stmts (sym e)))
    where
      by_test : (b : Bool) (stmts : List Stmt) → Begins ((settled j).commits ++ stmts ∷ []) (map submitted decided) → Begins (if b then (settled j).commits ++ stmts ∷ [] else (settled j).commits) (map submitted decided)
      by_test true stmts doubt = doubt
      by_test false stmts doubt = g.base

      by_doubt : (d : Option (List Stmt)) → (settled j).doubt ≡ d → Begins (with_doubt n d (settled j).commits) (map submitted decided)
      by_doubt None e = g.base
      by_doubt (Some stmts) e = by_test (n == shown (length (settled j).commits + 1)) stmts (g.doubt stmts e)
