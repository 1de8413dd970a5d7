-- What the votes and a restart's count say is what the history's words say.
use Rattle.std.proofs.Common.{◌≡◌, ◌↔◌, ℕ, ◌+◌, ◌*◌, ◌<◌, Bool, true, false, ◌&&◌, ◌||◌, ◌==◌, if◌then◌else◌, Option, Some, None, is_some, Ok, List, [], ◌∷◌, ◌++◌, length, count_by, refl, ap, sym, ◌∙◌, length-append, IsTrue}
use Rattle.std.proofs.lemmas.Bool.{and_parts, leb-true}
use Rattle.hr_base.specs.Counters.{shown}
use Rattle.hr_rel.specs.declared.stmt.Stmt.{Stmt}
use Rattle.hr_engine.specs.Journal.{Restarted}
use Rattle.hr_engine.specs.Base.{count, settled, with_doubt}
use Rattle.hr_history.specs.History.{History}
use Rattle.hr_history.specs.ReplicaNumbers.{replica_numbers}
use Rattle.hr_history.specs.Transactions.{is_asked}
use Rattle.hr_history.specs.Replicas.{journal_of}
use Rattle.hr_history.specs.Turn.{is_sound_count}
use Rattle.hr_history.specs.View.{View, Progress, view_of}
use Rattle.hr_history.specs.Processed.{phase_in, replica_in}
use Rattle.hr_history.specs.Votes.{agrees, is_decidable, contradicts, contradicted_by, is_contradicted, difference_at}
use Rattle.hr_history.proofs.StepLemmas.{replica_lookup}
use Rattle.hr_records.proofs.Options.{find_has}
use Rattle.hr_decisions.proofs.DecisionLemmas.{excludes}
use Rattle.hr_moves.specs.declared.outcome.Tally.{Tally}
use Rattle.hr_moves.specs.declared.outcome.Tally.TheVariants as tally
use Rattle.hr_moves.specs.declared.outcome.Settled.{Settled}
use Rattle.hr_moves.specs.declared.outcome.Settled.TheVariants as end
use Rattle.hr_moves.specs.TurnSteps.{is_sound_at}
use Rattle.hr_moves.specs.Outcomes.{differ_by, tally_in, settle_in}
use Rattle.hr_sane.proofs.Lists.{on_true, on_false}
use Rattle.hr_sane.proofs.TurnLemmas.{sound_same}

-- ---- votes

abbrev index_of : Tally → ℕ
index_of tally.Undecided = 0
index_of tally.Accept = 0
index_of (tally.Differ index by) = index

abbrev by_of : Tally → ℕ
by_of tally.Undecided = 0
by_of tally.Accept = 0
by_of (tally.Differ index by) = by

module _ (v : View) (t : ℕ) where
  -- what is told where it can't be decided
  abbrev other : Bool → Option ℕ → Tally
  other asked o = if asked then differ_by v t o else tally.Undecided

  abbrev told : Bool → Bool → Option ℕ → Tally
  told decidable asked o = if decidable then tally.Accept else other asked o

  other_accept : (asked : Bool) (o : Option ℕ) → other asked o ≡ tally.Accept → ⊥
  other_accept true None h = cc h
  other_accept true (Some r) h = cc h
  other_accept false o h = cc h

  accept_by : (b asked : Bool) (o : Option ℕ) → told b asked o ≡ tally.Accept → b ≡ true
  accept_by true asked o h = refl
  accept_by false asked o h = absurd (other_accept asked o h)

  pub accepts : (tally_in v t ≡ tally.Accept) ↔ IsTrue (is_decidable v t)
  accepts = (
    λ h. accept_by (is_decidable v t) (is_asked (phase_in v t)) (contradicted_by v t) h,
    λ h. on_true (is_decidable v t) tally.Accept (other (is_asked (phase_in v t)) (contradicted_by v t)) h,
  )

  abbrev Differs : Bool → Option ℕ → ℕ → ℕ → Type 0
  Differs asked o index by = IsTrue (asked && is_some o) × (o ≡ Some by) × (index ≡ difference_at v by t)

  other_differ : (asked : Bool) (o : Option ℕ) (index by : ℕ) → other asked o ≡ tally.Differ index by → Differs asked o index by
  other_differ true None index by h = cc h
  other_differ true (Some r) index by h =
      let same : r ≡ by = ap by_of h in
      (refl, ap Some same, sym (ap index_of h) ∙ ap (λ q. difference_at v q t) same)
  other_differ false o index by h = cc h

  differ_if : (b asked : Bool) (o : Option ℕ) (index by : ℕ) → told b asked o ≡ tally.Differ index by → Differs asked o index by
  differ_if true asked o index by h = cc h
  differ_if false asked o index by h = other_differ asked o index by h

  -- a transaction that may be decided isn't contradicted
  not_both : (by : ℕ) → contradicted_by v t ≡ Some by → is_decidable v t ≡ true → ⊥
  not_both by found decidable =
      let against = (find_has (contradicts v t) (replica_numbers v.f) by found).1 in
      let group = leb-true (v.f + 1) (count_by (agrees v t) (replica_numbers v.f)) (and_parts (is_asked (phase_in v t)) _ decidable).1 in
      excludes v t by against group

  undecidable : (b : Bool) → is_decidable v t ≡ b → (by : ℕ) → contradicted_by v t ≡ Some by → is_decidable v t ≡ false
  undecidable true e by found = absurd (not_both by found e)
  undecidable false e by found = e

  told_differ : (index by : ℕ) → Differs (is_asked (phase_in v t)) (contradicted_by v t) index by → tally_in v t ≡ tally.Differ index by
  told_differ index by is =
      on_false (is_decidable v t) tally.Accept (other (is_asked (phase_in v t)) (contradicted_by v t)) (undecidable (is_decidable v t) refl by is.1)
      ∙ on_true (is_asked (phase_in v t)) (differ_by v t (contradicted_by v t)) tally.Undecided (and_parts (is_asked (phase_in v t)) (is_some (contradicted_by v t)) is.0).0
      ∙ ap (differ_by v t) is.1 ∙ ap (λ n. tally.Differ n by) (sym is.2)

  pub differs : (index by : ℕ) → (tally_in v t ≡ tally.Differ index by) ↔ (IsTrue (is_contradicted v t) × (contradicted_by v t ≡ Some by) × (index ≡ difference_at v by t))
  differs index by = (λ h. differ_if (is_decidable v t) (is_asked (phase_in v t)) (contradicted_by v t) index by h, λ h. told_differ index by h)

  undecided_by : (b asked : Bool) (o : Option ℕ) → told b asked o ≡ tally.Undecided → (b ≡ false) × ((asked && is_some o) ≡ false)
  undecided_by true asked o h = cc h
  undecided_by false true None h = (refl, refl)
  undecided_by false true (Some r) h = cc h
  undecided_by false false o h = (refl, refl)

  told_none : (b asked : Bool) (o : Option ℕ) → b ≡ false → (asked && is_some o) ≡ false → told b asked o ≡ tally.Undecided
  told_none true asked o d c = cc d
  told_none false true None d c = refl
  told_none false true (Some r) d c = cc c
  told_none false false o d c = refl

  pub undecided : (tally_in v t ≡ tally.Undecided) ↔ ((is_decidable v t ≡ false) × (is_contradicted v t ≡ false))
  undecided = (
    λ h. undecided_by (is_decidable v t) (is_asked (phase_in v t)) (contradicted_by v t) h,
    λ h. told_none (is_decidable v t) (is_asked (phase_in v t)) (contradicted_by v t) h.0 h.1,
  )

-- ---- restarts

abbrev place_of : Settled → ℕ
place_of (end.At n) = n
place_of end.Wrong = 0

-- where the doubt is told, where the position is, and where neither
abbrev settles : Bool → Bool → ℕ → Settled
settles doubt same n = if doubt then end.At (n + 1) else if same then end.At n else end.Wrong

wrong_by : (doubt same : Bool) (n : ℕ) → (settles doubt same n ≡ end.Wrong) ↔ ((same || doubt) ≡ false)
wrong_by true true n = (λ h. cc h, λ h. cc h)
wrong_by true false n = (λ h. cc h, λ h. cc h)
wrong_by false true n = (λ h. cc h, λ h. cc h)
wrong_by false false n = (λ h. refl, λ h. refl)

pub wrong_at : (p : Progress) (told : ℕ) → (settle_in p told ≡ end.Wrong) ↔ (is_sound_at told p ≡ false)
wrong_at p told = wrong_by (p.doubt && (told == shown (p.position + 1))) (told == shown p.position) p.position

-- the commits after the restart are as many
settled_by : (told n : ℕ) (o : Option (List Stmt)) (commits : List (List Stmt)) (b same : Bool) → (told == shown (length commits + 1)) ≡ b → settles (is_some o && b) same (length commits) ≡ end.At n → n ≡ length (with_doubt told o commits)
settled_by told n None commits b true e h = sym (ap place_of h)
settled_by told n None commits b false e h = cc h
settled_by told n (Some stmts) commits true same e h = sym (ap place_of h) ∙ sym (length-append commits (stmts ∷ [])) ∙ sym (ap (λ c. length (if c then commits ++ stmts ∷ [] else commits)) e)
settled_by told n (Some stmts) commits false true e h = sym (ap place_of h) ∙ sym (ap (λ c. length (if c then commits ++ stmts ∷ [] else commits)) e)
settled_by told n (Some stmts) commits false false e h = cc h

module _ (f r told : ℕ) (h : History) (lt : r < 2 * f + 1) where
  pub wrong_counts : (settle_in (replica_in (view_of f h) r) told ≡ end.Wrong) ↔ (is_sound_count told (journal_of r h) ≡ false)
  wrong_counts =
      let at = wrong_at (replica_in (view_of f h) r) told in
      let same = sound_same f r told h lt in
      (λ d. same ∙ at.0 d, λ d. at.1 (sym same ∙ d))

  pub commits_after : (n : ℕ) → settle_in (replica_in (view_of f h) r) told ≡ end.At n → n ≡ count (Restarted (Ok told) ∷ journal_of r h)
  commits_after n d =
      let s = settled (journal_of r h) in
      settled_by told n s.doubt s.commits (told == shown (length s.commits + 1)) (told == shown (length s.commits)) refl (ap (λ (p : Progress). settle_in p told) (sym (replica_lookup f r h lt)) ∙ d)
