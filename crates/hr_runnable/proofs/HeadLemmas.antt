-- The lines of the head leave what is good.
use Rattle.std.proofs.Common.{◌≡◌, ℕ, zero, suc, ◌+◌, ◌*◌, ◌<◌, ◌≤◌, true, not, ◌&&◌, ◌||◌, ◌==◌, Option, None, Ok, List, [], ◌∷◌, length, map, replicate, refl, ap, ◌∙◌, arith}
use Rattle.std.specs.List.{list_all, list_any}
use Rattle.std.proofs.lemmas.Bool.{eqb-true, or_parts}
use Rattle.std.proofs.lemmas.List.{length-map, length-replicate}
use Rattle.hr_base.specs.Lists.{when}
use Rattle.hr_base.specs.declared.limits.TheConstants.{MAX_F}
use Rattle.hr_faulty.specs.Script.{names_calls}
use Rattle.hr_line.specs.declared.number.Number.{Number}
use Rattle.hr_forms.specs.declared.line.EngineKind.{EngineKind}
use Rattle.hr_said.specs.declared.limits.TheConstants.{MAX_RETRIES}
use Rattle.hr_said.specs.declared.said.Said.{Said}
use Rattle.hr_said.specs.declared.error.InputKind.TheVariants as kind
use Rattle.hr_said.specs.Limits.{may_stand, is_within, small}
use Rattle.hr_said.specs.Head.{version, version_refusal, liars, liars_refusal, replicas, replicas_refusal, retries, retries_refusal, known, is_missing}
use Rattle.hr_runnable.proofs.SoFar.{IsGood, AreSized, AreChoices, is_of}
use Rattle.hr_runnable.proofs.Refusals.{unless_good, passes, is_so, behind, within, small_below}

-- scripts without a fault name no call
none_named : (n : ℕ) → list_all (λ script. names_calls script) (replicate n []) ≡ true
none_named zero = refl
none_named (suc n) = none_named n

module _ (said : Said) (h : IsGood said) where
  -- the replicas aren't named yet, and so many may lie
  unnamed : (p f : ℕ) → p < 3 → said.part < 3 → f ≤ MAX_F → IsGood (record said { part = p; f = f })
  unnamed p f early was few = record {
    replicas = record { wrong = few; engines = λ late. absurd (omega (arith, early, late)); lists = λ late. absurd (omega (arith, early, late)) };
    named = h.named;
    sessions = h.sessions;
    tables = h.tables;
    schedule = record {
      begun = λ e. absurd (let late = h.schedule.begun e in omega (arith, late, was));
      none = λ e. h.schedule.none was;
      there = h.schedule.there;
    };
  }

  pub version_good : (n : Number) (next : Said) → version said n ≡ Ok next → IsGood next
  version_good n next e = unless_good (version_refusal said n) _ next stands e
    where
      stands : version_refusal said n ≡ None → IsGood (record said { part = 1 })
      stands none =
          let behind_first = passes (said.part == 0 && not (is_within 1 1 n)) kind.Version (when (not (may_stand said.part 1)) kind.Form ∷ []) none in
          let place = passes (not (may_stand said.part 1)) kind.Form [] behind_first.1 in
          let first = eqb-true 1 (said.part + 1) (is_so (may_stand said.part 1) place.0) in
          unnamed 1 said.f (omega arith) (omega (arith, first)) h.replicas.wrong

  pub liars_good : (n : Number) (next : Said) → liars said n ≡ Ok next → IsGood next
  liars_good n next e = unless_good (liars_refusal said n) _ next stands e
    where
      stands : liars_refusal said n ≡ None → IsGood (record said { part = 2; f = small n })
      stands none =
          let place = passes (not (may_stand said.part 2)) kind.Form (when (not (is_within 0 MAX_F n)) kind.Limit ∷ []) none in
          let limit = passes (not (is_within 0 MAX_F n)) kind.Limit [] place.1 in
          let second = eqb-true 2 (said.part + 1) (is_so (may_stand said.part 2) place.0) in
          let most = (within 0 MAX_F n (is_so (is_within 0 MAX_F n) limit.0)).1 in
          let cut = small_below n in
          unnamed 2 (small n) (omega arith) (omega (arith, second)) (omega (arith, most, cut))

  pub replicas_good : (kinds : List (Option EngineKind)) (next : Said) → replicas said kinds ≡ Ok next → IsGood next
  replicas_good kinds next e = unless_good (replicas_refusal said kinds) _ next stands e
    where
      stands : replicas_refusal said kinds ≡ None → IsGood (record said { part = 3; kinds = map known kinds; faults = replicate (length kinds) [] })
      stands none =
          let first = passes (not (may_stand said.part 3) || not (length kinds == 2 * said.f + 1)) kind.Form (when (list_any is_missing kinds) kind.Unknown ∷ []) none in
          let tests = or_parts (not (may_stand said.part 3)) (not (length kinds == 2 * said.f + 1)) first.0 in
          let third = eqb-true 3 (said.part + 1) (is_so (may_stand said.part 3) tests.0) in
          let many = eqb-true (length kinds) (2 * said.f + 1) (is_so (length kinds == 2 * said.f + 1) tests.1) in
          let none_yet : said.choices ≡ [] = h.schedule.none (omega (arith, third)) in
          record {
            replicas = record { wrong = h.replicas.wrong; engines = λ late. length-map kinds known ∙ many; lists = λ late. length-replicate (length kinds) [] ∙ many };
            named = none_named (length kinds);
            sessions = h.sessions;
            tables = h.tables;
            schedule = record {
              begun = λ e. omega arith;
              none = λ e. none_yet;
              there = ap (list_all (is_of (length said.scripts) (length (replicate (length kinds) [])))) none_yet;
            };
          }

  -- ---- behind the head

  -- a later part changes nothing of the replicas
  pub later_sized : (p : ℕ) → 3 ≤ said.part → AreSized p said.f said.kinds said.faults
  later_sized p late = record { wrong = h.replicas.wrong; engines = λ e. h.replicas.engines late; lists = λ e. h.replicas.lists late }

  pub later_choices : (p : ℕ) → 3 ≤ p → AreChoices p said.inside (length said.scripts) (length said.faults) said.choices
  later_choices p late = record { begun = λ e. late; none = λ e. absurd (omega (arith, e, late)); there = h.schedule.there }

  pub retries_good : (n : Number) (next : Said) → retries said n ≡ Ok next → IsGood next
  retries_good n next e = unless_good (retries_refusal said n) _ next stands e
    where
      stands : retries_refusal said n ≡ None → IsGood (record said { part = 4; retries = small n })
      stands none =
          let place = passes (not (may_stand said.part 4)) kind.Form (when (not (is_within 0 MAX_RETRIES n)) kind.Limit ∷ []) none in
          let late = behind said.part _ (is_so (may_stand said.part 4) place.0) in
          record { replicas = later_sized 4 late; named = h.named; sessions = h.sessions; tables = h.tables; schedule = later_choices 4 (omega arith) }
