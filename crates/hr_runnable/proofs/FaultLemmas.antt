-- The lines of faults and suspicions leave what is good.
use Rattle.std.proofs.Common.{◌≡◌, ℕ, zero, suc, ◌+◌, ◌-◌, ◌^◌, ◌≤◌, Bool, true, not, ◌&&◌, ◌||◌, nat_le, nat_lt, None, Ok, List, [], ◌∷◌, ◌++◌, length, refl, sym, ◌∙◌, subst, arith}
use Rattle.std.specs.Prelude.{slice_set}
use Rattle.std.specs.List.{list_all, list_any}
use Rattle.std.proofs.lemmas.Bool.{and_from, and_parts, or_parts, lt-ltb}
use Rattle.std.proofs.lemmas.List.Folds.{list_all-append}
use Rattle.hr_base.specs.Lists.{when, last_of}
use Rattle.hr_faulty.specs.declared.script.Fault.{Fault}
use Rattle.hr_faulty.specs.Script.{names_calls}
use Rattle.hr_forms.specs.declared.act.ActForm.{ActForm}
use Rattle.hr_line.specs.declared.number.Number.{Number}
use Rattle.hr_said.specs.declared.limits.TheConstants.{MAX_CALL, MAX_FAULTS, MAX_SUSPECTS}
use Rattle.hr_said.specs.declared.said.Said.{Said}
use Rattle.hr_said.specs.declared.error.InputKind.TheVariants as kind
use Rattle.hr_said.specs.Limits.{may_stand, is_within, value}
use Rattle.hr_said.specs.Faults.{fault, fault_refusal, with_fault, faults_at, is_act, is_replica, is_at, act_of, suspect, suspect_refusal, falls}
use Rattle.hr_statement_laws.proofs.Fitting.{size_set}
use Rattle.hr_runnable.proofs.SoFar.{IsGood, AreChoices}
use Rattle.hr_runnable.proofs.Refusals.{unless_good, passes, is_so, behind, within}
use Rattle.hr_runnable.proofs.HeadLemmas.{later_sized, later_choices}

-- a list in the place of another
all_set : {X : Type 0} (p : X → Bool) (xs : List X) (i : ℕ) (x : X) → list_all p xs ≡ true → p x ≡ true → list_all p (slice_set xs i x) ≡ true
all_set p [] i x h e = refl
all_set p (y ∷ ys) zero x h e = and_from (p x) (list_all p ys) e (and_parts (p y) (list_all p ys) h).1
all_set p (y ∷ ys) (suc i) x h e =
    let parts = and_parts (p y) (list_all p ys) h in
    and_from (p y) (list_all p (slice_set ys i x)) parts.0 (all_set p ys i x parts.1 e)

-- the script of one replica names calls, where all do
one_named : (faults : List (List Fault)) (r : ℕ) → list_all (λ script. names_calls script) faults ≡ true → names_calls (faults_at faults r) ≡ true
one_named [] r h = refl
one_named (script ∷ faults) zero h = (and_parts (names_calls script) (list_all (λ script. names_calls script) faults) h).0
one_named (script ∷ faults) (suc r) h = one_named faults r (and_parts (names_calls script) (list_all (λ script. names_calls script) faults) h).1

-- with one fault more, which names a call
fault_named : (faults : List (List Fault)) (r : ℕ) (f : Fault) → list_all (λ script. names_calls script) faults ≡ true → f.call ≤ MAX_CALL
    → list_all (λ script. names_calls script) (with_fault faults r f) ≡ true
fault_named faults r f h small =
    let named = λ (g : Fault). nat_lt g.call (2 ^ 64 - 1) in
    let one : nat_lt f.call (2 ^ 64 - 1) ≡ true = lt-ltb f.call (2 ^ 64 - 1) (omega (arith, small)) in
    let script : names_calls (faults_at faults r ++ f ∷ []) ≡ true =
    list_all-append named (faults_at faults r) (f ∷ []) ∙ and_from (names_calls (faults_at faults r)) (named f && true) (one_named faults r h) (and_from (named f) true one refl) in
    all_set (λ script. names_calls script) faults r (faults_at faults r ++ f ∷ []) h script

module _ (said : Said) (h : IsGood said) where
  pub fault_good : (replica call : Number) (act : ActForm) (next : Said) → fault said replica call act ≡ Ok next → IsGood next
  fault_good replica call act next e = unless_good (fault_refusal said replica call act) _ next stands e
    where
      stands : fault_refusal said replica call act ≡ None
          → IsGood (record said { part = 6; faults = with_fault said.faults (value replica) (record { call = value call; act = act_of act }); fault_count = said.fault_count + 1 })
      stands none =
          let f : Fault = record { call = value call; act = act_of act } in
          let many = nat_le MAX_FAULTS said.fault_count in
          let limits = not (is_within 1 MAX_CALL call) || not (is_act act) || many in
          let unfit = when (not (is_replica said replica)) kind.Unknown ∷ when (list_any (λ f. is_at (value call) f) (faults_at said.faults (value replica))) kind.Repeated ∷ [] in
          let place = passes (not (may_stand said.part 6)) kind.Form (when limits kind.Limit ∷ unfit) none in
          let limit = passes limits kind.Limit unfit place.1 in
          let number = or_parts (not (is_within 1 MAX_CALL call)) (not (is_act act)) (or_parts (not (is_within 1 MAX_CALL call) || not (is_act act)) many limit.0).0 in
          let call_within = within 1 MAX_CALL call (is_so (is_within 1 MAX_CALL call) number.0) in
          let late = behind said.part _ (is_so (may_stand said.part 6) place.0) in
          let sized = later_sized said h 6 late in
          let size = size_set said.faults (value replica) (faults_at said.faults (value replica) ++ f ∷ []) in
          record {
            replicas = record { wrong = sized.wrong; engines = sized.engines; lists = λ e. size ∙ sized.lists e };
            named = fault_named said.faults (value replica) f h.named call_within.1;
            sessions = h.sessions;
            tables = h.tables;
            schedule = subst (λ (n : ℕ). AreChoices 6 said.inside (length said.scripts) n said.choices) (sym size) (later_choices said h 6 (omega arith));
          }

  pub suspect_good : (after : Number) (next : Said) → suspect said after ≡ Ok next → IsGood next
  suspect_good after next e = unless_good (suspect_refusal said after) _ next stands e
    where
      stands : suspect_refusal said after ≡ None → IsGood (record said { part = 6; suspects = said.suspects ++ value after ∷ [] })
      stands none =
          let limits = not (is_within 1 MAX_CALL after) || falls (last_of said.suspects) (value after) || nat_le MAX_SUSPECTS (length said.suspects) in
          let place = passes (not (may_stand said.part 6)) kind.Form (when limits kind.Limit ∷ []) none in
          let late = behind said.part _ (is_so (may_stand said.part 6) place.0) in
          record { replicas = later_sized said h 6 late; named = h.named; sessions = h.sessions; tables = h.tables; schedule = later_choices said h 6 (omega arith) }
