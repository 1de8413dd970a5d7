-- The searches over what is kept find what the rules' searches over all transactions do.
use Rattle.std.proofs.Common.{◌≡◌, ◌⊎◌, inl, inr, ℕ, zero, suc, ◌+◌, ◌-◌, ◌<◌, ◌≤◌, Bool, true, false, not, ◌&&◌, ◌||◌, nat_lt, nat_le, Option, Some, None, List, [], ◌∷◌, length, slice_get, find, refl, ap, sym, ◌∙◌, arith}
use Rattle.std.specs.List.{filter}
use Rattle.std.proofs.lemmas.Bool.{and_parts, or_cases, lt-ltb, ltb-true, ne_eqb}
use Rattle.hr_base.specs.Lists.{has, first_some}
use Rattle.hr_base.proofs.ListLaws.{has-filter}
use Rattle.hr_history.specs.declared.phase.Phase.{Phase}
use Rattle.hr_history.specs.declared.phase.Phase.TheVariants as phase
use Rattle.hr_history.specs.Transactions.{is_open, is_logged}
use Rattle.hr_history.specs.Given.{Given}
use Rattle.hr_history.specs.View.{View, TxnState}
use Rattle.hr_history.specs.Processed.{txn_in, phase_in, attempt_in, answers_in, is_committed, is_whole, is_processed, processed_in}
use Rattle.hr_history.specs.Ranks.{rank_by, is_before, rank_of, ranks_before, first_in_rank}
use Rattle.hr_history.specs.Jobs.{txn_numbers, is_stamped_by, is_to_roll_back, may_go_on, may_repeat, may_run_first, pending_index}
use Rattle.hr_records.proofs.Options.{some_none, same_some, find_has, find_none, in_range}
use Rattle.hr_records.proofs.Places.{got_within}
use Rattle.hr_moves.specs.Sane.{IsSane}
use Rattle.hr_moves.specs.Kept.{open_in}
use Rattle.hr_sane.proofs.Next.{was_unknown, known_or_not}
use Rattle.hr_pool.specs.Searched.{behind_in, roll_back_next, run_first_next, repeat_next}
use Rattle.hr_pool.proofs.Searches.{wrong, find_within, filter_within, has_filter, first_is, stops_at, IsFound, is_found, got_drop, got_has}

logged_place : (p : Phase) → is_logged p ≡ true → (place : ℕ) × (p ≡ phase.Logged place)
logged_place phase.Active h = cc
logged_place (phase.Asked n) h = cc
logged_place (phase.Logged place) h = (place, refl)
logged_place phase.RolledBack h = cc
logged_place phase.Refused h = cc

-- a logged one comes before each open one
opens_later : (p : Phase) (place t u : ℕ) → is_open p ≡ true → (is_before (rank_by (phase.Logged place) t) (rank_by p u) ≡ true) × (is_before (rank_by p u) (rank_by (phase.Logged place) t) ≡ false)
opens_later phase.Active place t u h = (refl, refl)
opens_later (phase.Asked n) place t u h = (refl, refl)
opens_later (phase.Logged q) place t u h = cc
opens_later phase.RolledBack place t u h = cc
opens_later phase.Refused place t u h = cc

not_less : (a b : ℕ) → a ≤ b → nat_lt b a ≡ false
not_less a b h = by (nat_lt b a) refl
  where
    by : (c : Bool) → nat_lt b a ≡ c → c ≡ false
    by true e = absurd (omega (arith, ltb-true b a e, h))
    by false e = refl

-- of two logged ones the one with the lower place comes first
places_order : (a b t u : ℕ) → a < b → (is_before (rank_by (phase.Logged a) t) (rank_by (phase.Logged b) u) ≡ true) × (is_before (rank_by (phase.Logged b) u) (rank_by (phase.Logged a) t) ≡ false)
places_order a b t u h = (lt-ltb a b h, not_less a b (omega (arith, h)))

stamped_some : (m : ℕ) (o : Option Given) → is_stamped_by m o ≡ true → (g : Given) × (o ≡ Some g)
stamped_some m None h = cc
stamped_some m (Some g) h = (g, refl)

refused_by : (p : Phase) (place : ℕ) → p ≡ phase.Refused → p ≡ phase.Logged place → ⊥
refused_by p place h k = cc (sym h ∙ k)

or_none : (a b : Bool) → a ≡ false → b ≡ false → (a || b) ≡ false
or_none a b h k = λ i. h i || k i

module _ (v : View) (sane : IsSane v) where
  logged_known : (t place : ℕ) → phase_in v t ≡ phase.Logged place → has (txn_numbers v) t ≡ true
  logged_known t place e = elim (known_or_not v t) [
    | inl known ↦ in_range 1 (length v.txns) t known.0 (omega (arith, known.1))
    | inr far ↦ absurd (refused_by (phase_in v t) place (ap (λ (x : TxnState). x.phase) (was_unknown v t far)) e)
  ]

  module _ (r : ℕ) where
    -- what may be repeated here is open, or logged and neither committed nor whole
    record IsBehind (t : ℕ) : Type 0 where
      pub index : ℕ
      pub at : slice_get v.log index ≡ Some t
      pub phase : phase_in v t ≡ phase.Logged (index + 1)
      pub behind : processed_in v r ≤ index

    unprocessed : (t : ℕ) → may_repeat v r t ≡ true → is_committed v r t ≡ false → is_processed v r t ≡ false
    unprocessed t may uncommitted =
        let parts = and_parts _ (may_go_on v r t) may in
        let stamp = (and_parts _ (is_stamped_by (processed_in v r) (slice_get (txn_in v t).given (length (answers_in v r t)))) parts.0).1 in
        let some = stamped_some (processed_in v r) (slice_get (txn_in v t).given (length (answers_in v r t))) stamp in
        let within = got_within (txn_in v t).given (length (answers_in v r t)) some.0 some.1 in
        or_none (is_committed v r t) (is_whole v r t) uncommitted (ne_eqb (length (answers_in v r t)) (txn_in v t).statements (λ same. omega (arith, same, within, sane.given t)))

    at_index : (t place : ℕ) → phase_in v t ≡ phase.Logged place → is_processed v r t ≡ false → IsBehind t
    at_index t zero e fails = absurd (some_none t (sym ((sane.logged t 0).0 e)))
    at_index t (suc n) e fails =
        let at : slice_get v.log n ≡ Some t = (sane.logged t (suc n)).0 e in
        let same : suc n ≡ n + 1 = omega arith in
        record { index = n; at = at; phase = e ∙ ap phase.Logged same; behind = stops_at (is_processed v r) v.log n t at fails }

    is_not : (b : Bool) → not b ≡ true → b ≡ false
    is_not true h = cc
    is_not false h = refl

    open_or_behind : (t : ℕ) → may_repeat v r t ≡ true → (is_open (phase_in v t) ≡ true) ⊎ IsBehind t
    open_or_behind t may =
        let parts = and_parts _ (may_go_on v r t) may in
        let first = (and_parts (is_open (phase_in v t) || (is_logged (phase_in v t) && not (is_committed v r t))) _ parts.0).0 in
        elim (or_cases (is_open (phase_in v t)) (is_logged (phase_in v t) && not (is_committed v r t)) first) [
          | inl opened ↦ inl opened
          | inr logged ↦ (
              let both = and_parts (is_logged (phase_in v t)) (not (is_committed v r t)) logged in
              let place = logged_place (phase_in v t) both.0 in
              inr (at_index t place.0 place.1 (unprocessed t may (is_not (is_committed v r t) both.1))))
        ]

    abbrev numbers : List ℕ
    numbers = filter (may_repeat v r) (txn_numbers v)

    behind_at : (t : ℕ) (b : IsBehind t) → slice_get (behind_in v r) (b.index - processed_in v r) ≡ Some t
    behind_at t b =
        let sum : processed_in v r + (b.index - processed_in v r) ≡ b.index = omega (arith, b.behind) in
        got_drop (processed_in v r) v.log (b.index - processed_in v r) ∙ ap (slice_get v.log) sum ∙ b.at

    all_open : find (may_repeat v r) (behind_in v r) ≡ None → (t : ℕ) → may_repeat v r t ≡ true → is_open (phase_in v t) ≡ true
    all_open none t may = elim (open_or_behind t may) [
      | inl opened ↦ opened
      | inr b ↦ absurd (wrong may (find_none (may_repeat v r) (behind_in v r) none t (got_has (behind_in v r) (b.index - processed_in v r) t (behind_at t b))))
    ]

    module _ (t : ℕ) (found : find (may_repeat v r) (behind_in v r) ≡ Some t) where
      abbrev its : IsFound (may_repeat v r) (behind_in v r) t
      its = is_found (may_repeat v r) (behind_in v r) t found

      its_at : slice_get v.log (processed_in v r + its.place) ≡ Some t
      its_at = sym (got_drop (processed_in v r) v.log its.place) ∙ its.at

      its_phase : phase_in v t ≡ phase.Logged (suc (processed_in v r + its.place))
      its_phase = (sane.logged t (suc (processed_in v r + its.place))).1 its_at

      ranks_first : (u : ℕ) → has numbers u ≡ true → (u ≡ t → ⊥) → (ranks_before v t u ≡ true) × (ranks_before v u t ≡ false)
      ranks_first u there other =
          let may = (has-filter (may_repeat v r) (txn_numbers v) u there).0 in
          elim (open_or_behind u may) [
            | inl opened ↦ (
                let order = opens_later (phase_in v u) (suc (processed_in v r + its.place)) t u opened in
                ((λ i. is_before (rank_by (its_phase i) t) (rank_of v u)) ∙ order.0, (λ i. is_before (rank_of v u) (rank_by (its_phase i) t)) ∙ order.1))
            | inr b ↦ (
                let least : its.place ≤ b.index - processed_in v r = its.least (b.index - processed_in v r) u (behind_at u b) may in
                let apart : processed_in v r + its.place ≡ b.index → ⊥ = λ same. other (same_some u t (sym b.at ∙ ap (slice_get v.log) (sym same) ∙ its_at)) in
                let order = places_order (suc (processed_in v r + its.place)) (b.index + 1) t u (omega (arith, least, apart, b.behind)) in
                ((λ i. is_before (rank_by (its_phase i) t) (rank_by (b.phase i) u)) ∙ order.0, (λ i. is_before (rank_by (b.phase i) u) (rank_by (its_phase i) t)) ∙ order.1))
          ]

      its_first : first_in_rank v numbers ≡ Some t
      its_first = first_is (ranks_before v) t numbers
          (has_filter (may_repeat v r) (txn_numbers v) t (logged_known t (suc (processed_in v r + its.place)) its_phase) (find_has (may_repeat v r) (behind_in v r) t found).1)
          ranks_first

    by_found : (o : Option ℕ) → find (may_repeat v r) (behind_in v r) ≡ o → first_in_rank v numbers ≡ first_some (o ∷ first_in_rank v (filter (may_repeat v r) (open_in v)) ∷ [])
    by_found None none = sym (ap (first_in_rank v) (filter_within (λ t. is_open (phase_in v t)) (may_repeat v r) (all_open none) (txn_numbers v))) ∙ some_alone (first_in_rank v (filter (may_repeat v r) (open_in v)))
      where
        some_alone : (o : Option ℕ) → o ≡ first_some (o ∷ [])
        some_alone None = refl
        some_alone (Some x) = refl
    by_found (Some t) found = its_first t found

    -- The run that ranks first of all is the first of the log behind what is processed that may be, else the one of the
    -- open ones that ranks first.
    pub repeats_found : first_in_rank v (filter (may_repeat v r) (txn_numbers v)) ≡ repeat_next v r
    repeats_found = by_found (find (may_repeat v r) (behind_in v r)) refl

module _ (v : View) (r : ℕ) where
  rolls_within : (t : ℕ) → is_to_roll_back v r t ≡ true → (attempt_in v r t).touched ≡ true
  rolls_within t h = (and_parts (attempt_in v r t).touched _ h).0

  pub rollback_found : find (is_to_roll_back v r) (txn_numbers v) ≡ roll_back_next v r
  rollback_found = sym (find_within (λ t. (attempt_in v r t).touched) (is_to_roll_back v r) rolls_within (txn_numbers v))

  firsts_within : (t : ℕ) → may_run_first v r t ≡ true → is_open (phase_in v t) ≡ true
  firsts_within t h = (and_parts (is_open (phase_in v t)) _ (and_parts (is_open (phase_in v t) && nat_le (pending_index v r t) (txn_in v t).statements) (may_go_on v r t) h).0).0

  pub firsts_found : first_in_rank v (filter (may_run_first v r) (txn_numbers v)) ≡ run_first_next v r
  firsts_found = sym (ap (first_in_rank v) (filter_within (λ t. is_open (phase_in v t)) (may_run_first v r) firsts_within (txn_numbers v)))
