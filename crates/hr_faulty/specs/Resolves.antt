-- Not to be believed but checked: proofs that a trait's law has to cite. How a restart settles what two journals left open:
-- the commits that count, and the commit in doubt.
use Rattle.std.proofs.Common.{◌≡◌, ℕ, ◌+◌, ◌-◌, ◌≤◌, ◌^◌, Bool, cond, Option, Some, None, IsSome, ◌⊎◌, inl, inr, List, [], ◌∷◌, ◌++◌, length, get_or, zero, suc, ◌<◌, refl, ap, ◌∙◌, sym, arith, Contains, length-append}
use Rattle.std.specs.Prelude.{option_to_list, option_map}
use Rattle.std.proofs.lemmas.Bool.{eq-eqb, ne_eqb}
use Rattle.hr_rel.specs.declared.stmt.Stmt.{Stmt}
use Rattle.hr_rel.specs.Database.{Database}
use Rattle.hr_meaning.specs.Serial.{play, database_after}
use Rattle.hr_engine.specs.Base.{with_doubt}
use Rattle.hr_base.specs.Counters.{shown}
use Rattle.hr_engine.proofs.SerialLaws.{database_after-append}

-- the counts that a restart may tell
abbrev pub MayTell : List (List Stmt) → Option (List Stmt) → ℕ → Type 0
MayTell commits doubt n = (n ≡ shown (length commits)) ⊎ (IsSome doubt × (n ≡ shown (length commits + 1)))

-- the databases that may stand behind
abbrev pub may_stand : Database → List (List Stmt) → Option (List Stmt) → List Database
may_stand start commits doubt = database_after start commits ∷ option_to_list (option_map (λ stmts. (play (database_after start commits) stmts).after) doubt)

-- What the one journal leaves open, the other leaves open too, and a restart settles both alike.
pub record Resolves (inner : List (List Stmt)) (inner_doubt : Option (List Stmt)) (outer : List (List Stmt)) (outer_doubt : Option (List Stmt)) : Type 0 where
  pub tells : (n : ℕ) → MayTell inner inner_doubt n → MayTell outer outer_doubt n
  pub commits : (n : ℕ) → MayTell inner inner_doubt n → with_doubt n outer_doubt outer ≡ with_doubt n inner_doubt inner
  pub stands : (start d : Database) → Contains (may_stand start inner inner_doubt) d → Contains (may_stand start outer outer_doubt) d

pub resolves_itself : (commits : List (List Stmt)) (doubt : Option (List Stmt)) → Resolves commits doubt commits doubt
resolves_itself commits doubt = record { tells = λ n may. may; commits = λ n may. refl; stands = λ start d among. among }

-- where the test fails the commit in doubt doesn't count
not_counted : (n : ℕ) (stmts : List Stmt) (commits : List (List Stmt)) → (n ≡ shown (length commits + 1) → ⊥) → with_doubt n (Some stmts) commits ≡ commits
not_counted n stmts commits differ = ap (λ (b : Bool). cond b (commits ++ stmts ∷ []) commits) (ne_eqb n (shown (length commits + 1)) differ)

pub counted : (n : ℕ) (stmts : List Stmt) (commits : List (List Stmt)) → n ≡ shown (length commits + 1) → with_doubt n (Some stmts) commits ≡ commits ++ stmts ∷ []
counted n stmts commits same = ap (λ (b : Bool). cond b (commits ++ stmts ∷ []) commits) (eq-eqb n (shown (length commits + 1)) same)

-- the one member of a list of one, at the front of another list
at_front : (x d : Database) (more : List Database) → Contains (x ∷ []) d → Contains (x ∷ more) d
at_front x d more among = front_of among.0 among.1 among.2
  where
    front_of : (k : ℕ) → k < 1 → get_or (x ∷ []) k d ≡ d → Contains (x ∷ more) d
    front_of zero lt here = (0, omega arith, here)
    front_of (suc k) lt here = absurd (omega arith)

-- the call was not made: where it was a commit, that commit doesn't count
pub resolves_before : (commits : List (List Stmt)) (doubt : Option (List Stmt)) → length commits + 1 ≤ 2 ^ 64 - 1 → Resolves commits None commits doubt
resolves_before commits None few = resolves_itself commits None
resolves_before commits (Some stmts) few = record {
  tells = λ n may. inl (only_count n may);
  commits = λ n may. not_counted n stmts commits (λ more. apart n (only_count n may) more);
  stands = λ start d among. at_front (database_after start commits) d ((play (database_after start commits) stmts).after ∷ []) among;
}
  where
    only_count : (n : ℕ) → MayTell commits None n → n ≡ shown (length commits)
    only_count n (inl e) = e
    only_count n (inr both) = cc

    apart : (n : ℕ) → n ≡ shown (length commits) → n ≡ shown (length commits + 1) → ⊥
    apart n e f = omega arith

-- the commit was made, and counts
pub resolves_after : (commits : List (List Stmt)) (stmts : List Stmt) → Resolves (commits ++ stmts ∷ []) None commits (Some stmts)
resolves_after commits stmts = record {
  tells = λ n may. inr (refl, one_more n may);
  commits = λ n may. counted n stmts commits (one_more n may);
  stands = λ start d among. second start d among.0 among.1 among.2;
}
  where
    one_more : (n : ℕ) → MayTell (commits ++ stmts ∷ []) None n → n ≡ shown (length commits + 1)
    one_more n (inl e) = e ∙ ap shown (length-append commits (stmts ∷ []))
    one_more n (inr both) = cc

    second : (start d : Database) (k : ℕ) → k < 1 → get_or (database_after start (commits ++ stmts ∷ []) ∷ []) k d ≡ d → Contains (may_stand start commits (Some stmts)) d
    second start d zero lt here = (1, omega arith, sym (database_after-append start commits (stmts ∷ [])) ∙ here)
    second start d (suc k) lt here = absurd (omega arith)
