-- What is claimed holds of every run.
use Rattle.std.proofs.Common.{◌≡◌, inl, inr, ℕ, zero, suc, ◌+◌, ◌*◌, ◌<◌, ◌≤◌, Bool, true, false, not, ◌||◌, ◌==◌, cond, Option, Some, None, List, [], ◌∷◌, length, refl, ap, ◌∙◌, sym, subst, arith, Contains, get_or}
use Rattle.std.specs.Prelude.{filter, unwrap_or, slice_get, is_some, is_none, option_to_list}
use Rattle.std.specs.Option.{option_map}
use Rattle.std.proofs.lemmas.Bool.{and_parts, or_left, eq-eqb}
use Rattle.std.proofs.lemmas.List.{length-map}
use Rattle.hr_base.specs.Lists.{has}
use Rattle.hr_rel.specs.declared.stmt.Stmt.{Stmt}
use Rattle.hr_rel.specs.Database.{Database}
use Rattle.hr_meaning.specs.Serial.{play}
use Rattle.hr_engine.specs.Journal.{Journal}
use Rattle.hr_engine.specs.Base.{settled, base, bases}
use Rattle.hr_engine.specs.Rigorous.{Rigorous}
use Rattle.hr_engine.specs.Backend.{IsLegal}
use Rattle.hr_faulty.specs.declared.script.Fault.{Fault}
use Rattle.hr_faulty.specs.Script.{lies}
use Rattle.hr_faulty.specs.Losses.{legal_over}
use Rattle.hr_base.specs.Counters.{shown}
use Rattle.hr_said.specs.declared.scenario.Scenario.{Scenario}
use Rattle.hr_history.specs.History.{History}
use Rattle.hr_history.specs.Transactions.{log, submits}
use Rattle.hr_history.specs.Replicas.{journal_of, position_of}
use Rattle.hr_history.specs.Rules.{due}
use Rattle.hr_history.specs.Faithful.{Begun, is_begun}
use Rattle.hr_records.proofs.KeptLemmas.{kept}
use Rattle.hr_records.proofs.Places.{numbered_born}
use Rattle.hr_serial.specs.Prefix.{log_statements, IsAtPrefix}
use Rattle.hr_serial.specs.Serial.{LiarsAreAtMost}
use Rattle.hr_serial.proofs.PrefixLemmas.{at_prefix}
use Rattle.hr_serial.proofs.SerialLemmas.{serial, few_throughout}
use Rattle.hr_schedule.specs.Claims.{Conflict, Locking, TableRows, rows_at, IsTold, HoldsPrefix, start, script_of, kind_of, IsRun, FewLie, Claims}

-- a replica without a lie is what is promised of an honest backend
legal : (conflict : Conflict) (script : List Fault) (db : Database) (j : Journal) (rows : TableRows) (told : IsTold conflict script db j rows) → lies script ≡ false → IsLegal db j (base db told.within)
legal conflict script db j rows told honest =
    legal_over (λ s w. (w ≡ told.within) × Rigorous s w) script (shown (length j)) (settled j).lost (base db told.within) db j true
    (λ same w stood. record { rigorous = stood.1; base = (0, omega arith, ap (base db) stood.0) })
    (ap not honest)
    record { named = told.named; within = told.within; stood = (refl, told.rigorous); told = told.told; counted = refl; loses = refl }

-- ---- how many lie

-- the numbers of the scripts with a lie, counted from k
abbrev liars_from : ℕ → List (List Fault) → List ℕ
liars_from k [] = []
liars_from k (s ∷ scripts) = cond (lies s) (k ∷ liars_from (k + 1) scripts) (liars_from (k + 1) scripts)

as_many : (k : ℕ) (scripts : List (List Fault)) → length (liars_from k scripts) ≡ length (filter lies scripts)
as_many k [] = refl
as_many k (s ∷ scripts) = by_lie (lies s) (as_many (k + 1) scripts)
  where
    by_lie : (b : Bool) → length (liars_from (k + 1) scripts) ≡ length (filter lies scripts)
        → length (cond b (k ∷ liars_from (k + 1) scripts) (liars_from (k + 1) scripts)) ≡ length (cond b (s ∷ filter lies scripts) (filter lies scripts))
    by_lie true e = ap suc e
    by_lie false e = e

clash : (b : Bool) → b ≡ true → b ≡ false → ⊥
clash b e d = cc

no_other : (a b : Bool) → (a || b) ≡ false → b ≡ false
no_other true b e = cc
no_other false b e = e

-- a replica that isn't among them doesn't lie
not_among : (k r p : ℕ) (scripts : List (List Fault)) → p ≡ k + r → has (liars_from k scripts) p ≡ false → lies (unwrap_or (slice_get scripts r) []) ≡ false
not_among k r p [] at out = refl
not_among k zero p (s ∷ scripts) at out = by_lie (lies s) refl out
  where
    by_lie : (b : Bool) → lies s ≡ b → has (cond b (k ∷ liars_from (k + 1) scripts) (liars_from (k + 1) scripts)) p ≡ false → lies s ≡ false
    by_lie false e out = e
    by_lie true e out = absurd (clash ((k == p) || has (liars_from (k + 1) scripts) p) (or_left (k == p) (has (liars_from (k + 1) scripts) p) (eq-eqb k p (omega (arith, at)))) out)
not_among k (suc r) p (s ∷ scripts) at out = not_among (k + 1) r p scripts (omega (arith, at)) (later (lies s) out)
  where
    later : (b : Bool) → has (cond b (k ∷ liars_from (k + 1) scripts) (liars_from (k + 1) scripts)) p ≡ false → has (liars_from (k + 1) scripts) p ≡ false
    later false e = e
    later true e = no_other (k == p) (has (liars_from (k + 1) scripts) p) e

-- ---- a prefix of the log

module _ (db : Database) (h : History) (r : ℕ) (at : IsAtPrefix h r) (d : Database) where
  one_only : (n : ℕ) → n < 1 → get_or (base db (journal_of r h) ∷ []) n d ≡ d → base db (journal_of r h) ≡ d
  one_only zero lt e = e
  one_only (suc n) lt e = absurd (omega arith)

  by_doubt : (doubt : Option (List Stmt)) → (settled (journal_of r h)).doubt ≡ doubt
      → Contains (base db (journal_of r h) ∷ option_to_list (option_map (λ stmts. (play (base db (journal_of r h)) stmts).after) doubt)) d
      → Contains (bases db (journal_of r h)) d → HoldsPrefix db h r d.tables
  by_doubt None e only among = record {
    k = position_of r h;
    at = inl refl;
    within = at.within;
    shown = ap (λ (x : Database). x.tables) (sym (one_only only.0 only.1 only.2) ∙ at.base db);
  }
  by_doubt (Some stmts) e only among = elim (at.bases db d among) [
    | inl same ↦ record { k = position_of r h; at = inl refl; within = at.within; shown = ap (λ (x : Database). x.tables) same }
    | inr same ↦ record {
      k = position_of r h + 1;
      at = inr (ap is_some e, refl);
      within = omega (arith, (numbered_born (log_statements h) (suc (position_of r h)) stmts (at.doubt stmts e)).1, length-map (log h) (λ t. submits t h));
      shown = ap (λ (x : Database). x.tables) same;
    }
  ]

-- ---- the claims

module _ (locking : Locking) (sc : Scenario) (h : History) (dumps : List TableRows) (run : IsRun locking sc h dumps) where
  begun : Begun sc.f (length sc.scripts) h
  begun = (and_parts (is_begun sc.f (length sc.scripts) h) (is_none (due sc.f h)) run.faithful).0

  within_replicas : (r : ℕ) → r < 2 * sc.f + 1 → r ≤ 2 * sc.f
  within_replicas r lt = omega arith

  honest_is_legal : (r : ℕ) (le : r ≤ 2 * sc.f) → lies (script_of locking sc r) ≡ false → IsLegal (start locking sc) (journal_of r h) (base (start locking sc) (run.told r le).within)
  honest_is_legal r le honest = legal (locking (kind_of locking sc r)) (script_of locking sc r) (start locking sc) (journal_of r h) (rows_at dumps r) (run.told r le) honest

  few : FewLie locking sc → LiarsAreAtMost sc.f sc.f (start locking sc) h
  few at_most = (liars_from 0 sc.faults, omega (arith, at_most, as_many 0 sc.faults), λ r lt out. (honest_is_legal r (within_replicas r lt) (not_among 0 r r sc.faults (omega arith) out)).rigorous)

  pub claims : Claims locking sc h dumps
  claims = record {
    serial = λ at_most. serial sc.f (length sc.scripts) (start locking sc) h begun (few_throughout sc.f (start locking sc) h (few at_most));
    prefix = λ r le honest.
        subst (HoldsPrefix (start locking sc) h r) (sym (run.told r le).shown)
        (by_doubt (start locking sc) h r (at_prefix h (kept sc.f (length sc.scripts) h begun) r) (base (start locking sc) (run.told r le).within) (settled (journal_of r h)).doubt refl
        (honest_is_legal r le honest).base (honest_is_legal r le honest).base);
  }
