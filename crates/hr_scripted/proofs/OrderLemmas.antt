-- A session's calls are those of its tries, one try after another, entry by entry.
use Rattle.std.proofs.Common.{◌≡◌, inl, inr, ℕ, zero, suc, ◌+◌, ◌<◌, Bool, true, false, cond, ◌&&◌, ◌==◌, Some, None, List, [], ◌∷◌, ◌++◌, length, length-append, append-nil, refl, ap, sym, ◌∙◌, subst, arith}
use Rattle.std.specs.Prelude.{slice_get}
use Rattle.std.specs.List.{flat_map}
use Rattle.std.proofs.lemmas.List.{append_assoc}
use Rattle.std.proofs.lemmas.Grind.{flat_map-append}
use Rattle.hr_base.specs.Lists.{numbered, last_of}
use Rattle.hr_rel.specs.declared.stmt.Stmt.{Stmt}
use Rattle.hr_said.specs.declared.scenario.Scenario.{Scenario}
use Rattle.hr_said.specs.declared.scenario.Block.{Block}
use Rattle.hr_history.specs.declared.entry.Event.{Event}
use Rattle.hr_history.specs.declared.entry.Event.TheVariants as event
use Rattle.hr_history.specs.declared.cause.CauseAt.{CauseAt}
use Rattle.hr_history.specs.declared.phase.Phase.TheVariants as phase
use Rattle.hr_history.specs.History.{History}
use Rattle.hr_history.specs.Transactions.{begun, session_of, submits, log, asks, phase_of, is_asked}
use Rattle.hr_history.specs.Faithful.{Begun, session_caller}
use Rattle.hr_history.proofs.StepLemmas.{call_allowed}
use Rattle.hr_records.specs.Kept.{Kept}
use Rattle.hr_records.proofs.Options.{same_some, some_none}
use Rattle.hr_records.proofs.Places.{same_or_not, if_same, if_other, numbered_born}
use Rattle.hr_records.proofs.Allowed.{begin_allowed, submit_allowed, may_go_on}
use Rattle.hr_records.proofs.KeptLemmas.{kept, decided_asked}
use Rattle.hr_records.proofs.RuleLemmas.{begun_before, by_rule}
use Rattle.hr_records.proofs.ViewWords.{txn_born}
use Rattle.hr_schedule.specs.declared.attempt.Try.{Try}
use Rattle.hr_schedule.specs.Tries.{try_after, tries_of, last_try}
use Rattle.hr_schedule.specs.Scripts.{script, end_call}
use Rattle.hr_schedule.proofs.TryLemmas.{last_is}
use Rattle.hr_scripted.specs.Calls.{is_session_call, is_call_of, next_calls, session_calls, txn_calls}
use Rattle.hr_scripted.specs.Scripted.{IsTry, IsNextOfScript}
use Rattle.hr_scripted.proofs.NextCalls.{IsWithin}
use Rattle.hr_scripted.proofs.CallLemmas.{AreRight}
use Rattle.hr_scripted.proofs.BlockLemmas.{OfBlock, longer, whole}
use Rattle.hr_scripted.proofs.TryLemmas.{SoFar, so_far, last_is_last, its_place, its_phase, of_its_block, phases, statements, grown, its_txn, old_or_new, unborn, allowed, begins_it, WithinEnd, within_submit, within_ask, within_rollback}
use Rattle.hr_scripted.proofs.FrontLemmas.{was_ended, IsCalled, called_begin, called_submit, called_end, called_decide, called_refuse, called_as_before}

-- The session's calls are those of its tries, and each try's are the first that its block says.
pub record InOrder (sc : Scenario) (s : ℕ) (h : History) : Type 0 where
  pub in_turn : session_calls sc.f s h ≡ flat_map (λ (x : Try). txn_calls x.txn h) (tries_of sc.retries s h)
  pub called : (i : ℕ) (x : Try) → IsTry sc s h i x → (block : Block) → numbered (script sc s) x.block ≡ Some block → IsCalled s x.txn block (txn_calls x.txn h) (submits x.txn h) (phase_of x.txn h)

-- ---- the lists of all tries, one after another

module _ (g k : Try → List Event) where
  agree : (xs : List Try) → ((i : ℕ) (x : Try) → numbered xs i ≡ Some x → g x ≡ k x) → flat_map g xs ≡ flat_map k xs
  agree [] same = refl
  agree (x ∷ xs) same = ap (λ l. l ++ flat_map g xs) (same 1 x refl) ∙ ap (λ l. k x ++ l) (agree xs later)
    where
      later : (i : ℕ) (y : Try) → numbered xs i ≡ Some y → g y ≡ k y
      later zero y at = absurd (some_none y (sym at))
      later (suc i) y at = same (suc (suc i)) y at

  -- the list of the last one grows
  grows : (e : Event) (xs : List Try) (last : Try) → last_of xs ≡ Some last → ((i : ℕ) (x : Try) → numbered xs i ≡ Some x → i < length xs → g x ≡ k x) → g last ≡ k last ++ e ∷ [] → flat_map g xs ≡ flat_map k xs ++ e ∷ []
  grows e [] last is same at_last = absurd (some_none last (sym is))
  grows e (x ∷ []) last is same at_last =
      let it = same_some x last is in
      append-nil (g x) ∙ ap g it ∙ at_last ∙ ap (λ l. l ++ e ∷ []) (ap k (sym it) ∙ sym (append-nil (k x)))
  grows e (x ∷ y ∷ xs) last is same at_last =
      ap (λ l. l ++ flat_map g (y ∷ xs)) (same 1 x refl (omega arith)) ∙ ap (λ l. k x ++ l) (grows e (y ∷ xs) last is later at_last) ∙ sym (append_assoc (k x) (flat_map k (y ∷ xs)) (e ∷ []))
    where
      later : (i : ℕ) (z : Try) → numbered (y ∷ xs) i ≡ Some z → i < length (y ∷ xs) → g z ≡ k z
      later zero z at lt = absurd (some_none z (sym at))
      later (suc i) z at lt = same (suc (suc i)) z at (omega (arith, lt))

-- a number that no transaction has yet has no call
module _ (f s c t : ℕ) (h : History) (earlier : length (begun h) < t → txn_calls t h ≡ []) where
  apart : (txn : ℕ) (e : Event) → (txn ≡ t → ⊥) → length (begun h) < t → cond (txn == t) (txn_calls t h ++ e ∷ []) (txn_calls t h) ≡ []
  apart txn e other later = if_other txn t (txn_calls t h ++ e ∷ []) (txn_calls t h) other ∙ earlier later

  owned : (txn session : ℕ) → session_of txn h ≡ Some session → length (begun h) < t → txn ≡ t → ⊥
  owned txn session its later same = omega (arith, same, later, (numbered_born (begun h) txn session its).1)

  no_call_by : (e : Event) → Begun f s (record { caller = c; event = e } ∷ h) → length (begun (record { caller = c; event = e } ∷ h)) < t → txn_calls t (record { caller = c; event = e } ∷ h) ≡ []
  no_call_by (event.Begin session txn) b later =
      let a = begin_allowed f s c h session txn (call_allowed f s record { caller = c; event = event.Begin session txn } h b refl) in
      let more = length-append (begun h) (session ∷ []) in
      apart txn (event.Begin session txn) (λ same. absurd (omega (arith, same, a.0, more, later))) (omega (arith, more, later))
  no_call_by (event.Submit txn index stmt) b later =
      let a = (submit_allowed f s c h txn index stmt (call_allowed f s record { caller = c; event = event.Submit txn index stmt } h b refl)).0 in
      apart txn (event.Submit txn index stmt) (λ same. owned txn a.session a.its later same) later
  no_call_by (event.AskCommit txn) b later =
      let a = may_go_on f c txn h (call_allowed f s record { caller = c; event = event.AskCommit txn } h b refl) in
      apart txn (event.AskCommit txn) (λ same. owned txn a.session a.its later same) later
  no_call_by (event.AskRollback txn) b later =
      let a = may_go_on f c txn h (call_allowed f s record { caller = c; event = event.AskRollback txn } h b refl) in
      apart txn (event.AskRollback txn) (λ same. owned txn a.session a.its later same) later
  no_call_by (event.Take r j) b later = earlier later
  no_call_by (event.Give r told) b later = earlier later
  no_call_by (event.Restarted r count) b later = earlier later
  no_call_by event.Suspect b later = earlier later
  no_call_by (event.Decide txn) b later = earlier later
  no_call_by (event.Refuse txn why) b later = earlier later
  no_call_by (event.Convict r x) b later = earlier later
  no_call_by (event.NewPrimary r) b later = earlier later
  no_call_by (event.Preempt r txn) b later = earlier later

no_calls : (f s t : ℕ) (h : History) → Begun f s h → length (begun h) < t → txn_calls t h ≡ []
no_calls f s t [] b later = refl
no_calls f s t (e ∷ h) b later = no_call_by f s e.caller t h (no_calls f s t h (begun_before f s e h b)) e.event b later

-- the sessions' callers differ
other_caller : (f c q s : ℕ) → c ≡ session_caller f q → (q ≡ s → ⊥) → c ≡ session_caller f s → ⊥
other_caller f c q s by other its = other (omega (arith, by, its))

-- ---- one entry more

module _ (sc : Scenario) (s c : ℕ) (h : History) (so : SoFar sc s h) (io : InOrder sc s h) where
  -- what is no call of a session changes no calls
  no_session_call : (e : Event) → session_calls sc.f s (record { caller = c; event = e } ∷ h) ≡ session_calls sc.f s h → ((t : ℕ) → txn_calls t (record { caller = c; event = e } ∷ h) ≡ txn_calls t h)
      → tries_of sc.retries s (record { caller = c; event = e } ∷ h) ≡ tries_of sc.retries s h
      → ((x : Try) (block : Block) → IsCalled s x.txn block (txn_calls x.txn h) (submits x.txn h) (phase_of x.txn h)
      → IsCalled s x.txn block (txn_calls x.txn h) (submits x.txn (record { caller = c; event = e } ∷ h)) (phase_of x.txn (record { caller = c; event = e } ∷ h)))
      → InOrder sc s (record { caller = c; event = e } ∷ h)
  no_session_call e same_session same_txns same_tries called = record {
    in_turn = same_session ∙ io.in_turn
        ∙ agree (λ x. txn_calls x.txn h) (λ x. txn_calls x.txn (record { caller = c; event = e } ∷ h)) (tries_of sc.retries s h) (λ i x at. sym (same_txns x.txn))
        ∙ ap (λ xs. flat_map (λ (x : Try). txn_calls x.txn (record { caller = c; event = e } ∷ h)) xs) (sym same_tries);
    called = λ i x at block there.
        subst (λ calls. IsCalled s x.txn block calls (submits x.txn (record { caller = c; event = e } ∷ h)) (phase_of x.txn (record { caller = c; event = e } ∷ h))) (sym (same_txns x.txn))
        (called x block (io.called i x (ap (λ l. numbered l i) (sym same_tries) ∙ at) block there));
  }

  -- a call within a block: of the session's last try, or of another session
  module _ (e : Event) (txn q : ℕ) (one : is_session_call e ≡ true) (its : (t : ℕ) → is_call_of t e ≡ (txn == t)) (by : c ≡ session_caller sc.f q)
      (same_tries : tries_of sc.retries s (record { caller = c; event = e } ∷ h) ≡ tries_of sc.retries s h)
      (w : IsWithin sc q h e) (mine : (w.last).txn ≡ txn) (its_session : session_of (w.last).txn h ≡ Some q)
      (others : (t : ℕ) → (txn ≡ t → ⊥) → (submits t (record { caller = c; event = e } ∷ h) ≡ submits t h) × (phase_of t (record { caller = c; event = e } ∷ h) ≡ phase_of t h))
      (its_own : (i : ℕ) (x : Try) → IsTry sc s h i x → txn ≡ x.txn → (block : Block) → numbered (script sc s) x.block ≡ Some block → IsCalled s x.txn block (txn_calls x.txn h) (submits x.txn h) (phase_of x.txn h)
      → IsCalled s x.txn block (txn_calls x.txn h ++ e ∷ []) (submits x.txn (record { caller = c; event = e } ∷ h)) (phase_of x.txn (record { caller = c; event = e } ∷ h))) where
    txn_other : (t : ℕ) → (txn ≡ t → ⊥) → txn_calls t (record { caller = c; event = e } ∷ h) ≡ txn_calls t h
    txn_other t other = ap (λ b. next_calls b e (txn_calls t h)) (its t) ∙ if_other txn t (txn_calls t h ++ e ∷ []) (txn_calls t h) other

    txn_own : (t : ℕ) → txn ≡ t → txn_calls t (record { caller = c; event = e } ∷ h) ≡ txn_calls t h ++ e ∷ []
    txn_own t same = ap (λ b. next_calls b e (txn_calls t h)) (its t) ∙ if_same txn t (txn_calls t h ++ e ∷ []) (txn_calls t h) same

    of_session : (session_calls sc.f s (record { caller = c; event = e } ∷ h)) ≡ cond (c == session_caller sc.f s) (session_calls sc.f s h ++ e ∷ []) (session_calls sc.f s h)
    of_session = ap (λ b. next_calls (b && (c == session_caller sc.f s)) e (session_calls sc.f s h)) one

    called_now : (i : ℕ) (x : Try) → IsTry sc s h i x → (block : Block) → numbered (script sc s) x.block ≡ Some block
        → IsCalled s x.txn block (txn_calls x.txn (record { caller = c; event = e } ∷ h)) (submits x.txn (record { caller = c; event = e } ∷ h)) (phase_of x.txn (record { caller = c; event = e } ∷ h))
    called_now i x at block there = elim (same_or_not txn x.txn) [
      | inl same ↦ subst (λ calls. IsCalled s x.txn block calls (submits x.txn (record { caller = c; event = e } ∷ h)) (phase_of x.txn (record { caller = c; event = e } ∷ h))) (sym (txn_own x.txn same)) (its_own i x at same block there (io.called i x at block there))
      | inr other ↦ called_as_before s x.txn block (txn_calls x.txn h) _ (submits x.txn h) _ (phase_of x.txn h) _ (txn_other x.txn other) (others x.txn other).0 (others x.txn other).1 (io.called i x at block there)
    ]

    of_last : q ≡ s → session_calls sc.f s (record { caller = c; event = e } ∷ h) ≡ flat_map (λ (x : Try). txn_calls x.txn (record { caller = c; event = e } ∷ h)) (tries_of sc.retries s h)
    of_last own =
        let is_last : last_try sc.retries s h ≡ Some w.last = ap (λ p. last_try sc.retries p h) (sym own) ∙ w.is_last in
        of_session
        ∙ if_same c (session_caller sc.f s) (session_calls sc.f s h ++ e ∷ []) (session_calls sc.f s h) (by ∙ ap (session_caller sc.f) own)
        ∙ ap (λ l. l ++ e ∷ []) io.in_turn
        ∙ sym (grows (λ x. txn_calls x.txn (record { caller = c; event = e } ∷ h)) (λ x. txn_calls x.txn h) e (tries_of sc.retries s h) w.last is_last
        (λ i x at lt. txn_other x.txn (λ same. absurd (omega (arith, same, mine, so.rise i (length (tries_of sc.retries s h)) x w.last at (last_is_last (tries_of sc.retries s h) w.last is_last) lt))))
        (txn_own (w.last).txn (sym mine)))

    of_another : (q ≡ s → ⊥) → session_calls sc.f s (record { caller = c; event = e } ∷ h) ≡ flat_map (λ (x : Try). txn_calls x.txn (record { caller = c; event = e } ∷ h)) (tries_of sc.retries s h)
    of_another other =
        of_session
        ∙ if_other c (session_caller sc.f s) (session_calls sc.f s h ++ e ∷ []) (session_calls sc.f s h) (other_caller sc.f c q s by other)
        ∙ io.in_turn
        ∙ agree (λ x. txn_calls x.txn h) (λ x. txn_calls x.txn (record { caller = c; event = e } ∷ h)) (tries_of sc.retries s h)
        (λ i x at. sym (txn_other x.txn (λ same. other (same_some q s (sym its_session ∙ ap (λ t. session_of t h) (mine ∙ same) ∙ so.its i x at)))))

    within_block : InOrder sc s (record { caller = c; event = e } ∷ h)
    within_block = record {
      in_turn = (elim (same_or_not q s) [ inl own ↦ of_last own | inr other ↦ of_another other ]) ∙ ap (λ xs. flat_map (λ (x : Try). txn_calls x.txn (record { caller = c; event = e } ∷ h)) xs) (sym same_tries);
      called = λ i x at block there. called_now i x (ap (λ l. numbered l i) (sym same_tries) ∙ at) block there;
    }

  -- ---- the three calls within a block

  statements_front : (i : ℕ) (x : Try) → IsTry sc s h i x → (block : Block) → numbered (script sc s) x.block ≡ Some block → OfBlock block (submits x.txn h) (phase_of x.txn h)
  statements_front i x at block there =
      let its = so.blocks i x at in
      subst (λ b. OfBlock b (submits x.txn h) (phase_of x.txn h)) (same_some its.0 block (sym its.1 ∙ there)) its.2

  module _ (by_session : ℕ) (e : Event) (b : Begun sc.f (length sc.scripts) h) (w : IsWithin sc by_session h e) where
    of_its_session : session_of (w.last).txn h ≡ Some by_session
    of_its_session = (last_is sc.f (length sc.scripts) sc.retries by_session h b).its w.last w.is_last

    -- where the block has no further statement, its statements are all submitted
    all_submitted : (i : ℕ) (x : Try) → IsTry sc s h i x → (w.last).txn ≡ x.txn → (block : Block) → numbered (script sc s) x.block ≡ Some block → slice_get (w.block).stmts (length (submits (w.last).txn h)) ≡ None → submits x.txn h ≡ block.stmts
    all_submitted i x at same block there none =
        whole (submits x.txn h) block.stmts (statements_front i x at block there).front (sym (its_place sc s h so by_session e sc.f (length sc.scripts) b w i x at same block there) ∙ none)

    its_end : (i : ℕ) (x : Try) → IsTry sc s h i x → (w.last).txn ≡ x.txn → (block : Block) → numbered (script sc s) x.block ≡ Some block → (commits : Bool) → (w.block).commits ≡ commits → block.commits ≡ commits
    its_end i x at same block there commits is = ap (λ (y : Block). y.commits) (sym (of_its_block sc s h so by_session e sc.f (length sc.scripts) b w i x at same block there)) ∙ is

  order_submit : (txn index : ℕ) (stmt : Stmt) → Begun sc.f (length sc.scripts) (record { caller = c; event = event.Submit txn index stmt } ∷ h) → IsNextOfScript sc record { caller = c; event = event.Submit txn index stmt } h
      → InOrder sc s (record { caller = c; event = event.Submit txn index stmt } ∷ h)
  order_submit txn index stmt b by =
      within_block (event.Submit txn index stmt) txn by.session refl (λ t. refl) by.caller refl w.0 w.1 (of_its_session by.session (event.Submit txn index stmt) before w.0)
      (λ t other. (if_other txn t (submits t h ++ stmt ∷ []) (submits t h) other, refl))
      own
    where
      before : Begun sc.f (length sc.scripts) h
      before = begun_before sc.f (length sc.scripts) record { caller = c; event = event.Submit txn index stmt } h b

      number : index ≡ length (submits txn h) + 1
      number = (submit_allowed sc.f (length sc.scripts) c h txn index stmt (call_allowed sc.f (length sc.scripts) record { caller = c; event = event.Submit txn index stmt } h b refl)).1

      w : (w : IsWithin sc by.session h (event.Submit txn index stmt)) × ((w.last).txn ≡ txn) × (slice_get (w.block).stmts (length (submits (w.last).txn h)) ≡ Some stmt)
      w = within_submit sc s c h so txn index stmt by

      own : (i : ℕ) (x : Try) → IsTry sc s h i x → txn ≡ x.txn → (block : Block) → numbered (script sc s) x.block ≡ Some block → IsCalled s x.txn block (txn_calls x.txn h) (submits x.txn h) (phase_of x.txn h)
          → IsCalled s x.txn block (txn_calls x.txn h ++ event.Submit txn index stmt ∷ []) (cond (txn == x.txn) (submits x.txn h ++ stmt ∷ []) (submits x.txn h)) (phase_of x.txn h)
      own i x at same block there old =
          let place = its_place sc s h so by.session (event.Submit txn index stmt) sc.f (length sc.scripts) before w.0 i x at (w.1 ∙ same) block there in
          let active = its_phase sc s h so by.session (event.Submit txn index stmt) sc.f (length sc.scripts) before w.0 i x at (w.1 ∙ same) in
          let front = longer (submits x.txn h) block.stmts stmt (statements_front i x at block there).front (sym place ∙ w.2) in
          let index_is : index ≡ length (submits x.txn h) + 1 = number ∙ ap (λ t. length (submits t h) + 1) same in
          subst (λ l. IsCalled s x.txn block (txn_calls x.txn h ++ event.Submit txn index stmt ∷ []) l (phase_of x.txn h)) (sym (if_same txn x.txn (submits x.txn h ++ stmt ∷ []) (submits x.txn h) same))
          (subst (λ t. IsCalled s x.txn block (txn_calls x.txn h ++ event.Submit t index stmt ∷ []) (submits x.txn h ++ stmt ∷ []) (phase_of x.txn h)) (sym same)
          (called_submit s x.txn index block (txn_calls x.txn h) (submits x.txn h) stmt (phase_of x.txn h) active index_is front old))

  order_ask : (txn : ℕ) → Begun sc.f (length sc.scripts) (record { caller = c; event = event.AskCommit txn } ∷ h) → IsNextOfScript sc record { caller = c; event = event.AskCommit txn } h
      → InOrder sc s (record { caller = c; event = event.AskCommit txn } ∷ h)
  order_ask txn b by =
      within_block (event.AskCommit txn) txn by.session refl (λ t. refl) by.caller refl w.0 w.1 (of_its_session by.session (event.AskCommit txn) before w.0)
      (λ t other. (refl, if_other txn t (phase.Asked (asks h + 1)) (phase_of t h) other))
      own
    where
      before : Begun sc.f (length sc.scripts) h
      before = begun_before sc.f (length sc.scripts) record { caller = c; event = event.AskCommit txn } h b

      w : WithinEnd sc s c h so by.session (event.AskCommit txn) txn true
      w = within_ask sc s c h so txn by

      own : (i : ℕ) (x : Try) → IsTry sc s h i x → txn ≡ x.txn → (block : Block) → numbered (script sc s) x.block ≡ Some block → IsCalled s x.txn block (txn_calls x.txn h) (submits x.txn h) (phase_of x.txn h)
          → IsCalled s x.txn block (txn_calls x.txn h ++ event.AskCommit txn ∷ []) (submits x.txn h) (cond (txn == x.txn) (phase.Asked (asks h + 1)) (phase_of x.txn h))
      own i x at same block there old =
          let active = its_phase sc s h so by.session (event.AskCommit txn) sc.f (length sc.scripts) before w.0 i x at (w.1 ∙ same) in
          let all = all_submitted by.session (event.AskCommit txn) before w.0 i x at (w.1 ∙ same) block there w.2 in
          let commits = its_end by.session (event.AskCommit txn) before w.0 i x at (w.1 ∙ same) block there true w.3 in
          called_end s x.txn block (txn_calls x.txn h) (submits x.txn h) (event.AskCommit txn) (phase_of x.txn h) _ active
          (ap was_ended (if_same txn x.txn (phase.Asked (asks h + 1)) (phase_of x.txn h) same))
          all (ap (λ y. end_call y x.txn) commits ∙ ap (λ t. event.AskCommit t) (sym same)) old

  order_rollback : (txn : ℕ) → Begun sc.f (length sc.scripts) (record { caller = c; event = event.AskRollback txn } ∷ h) → IsNextOfScript sc record { caller = c; event = event.AskRollback txn } h
      → InOrder sc s (record { caller = c; event = event.AskRollback txn } ∷ h)
  order_rollback txn b by =
      within_block (event.AskRollback txn) txn by.session refl (λ t. refl) by.caller refl w.0 w.1 (of_its_session by.session (event.AskRollback txn) before w.0)
      (λ t other. (refl, if_other txn t phase.RolledBack (phase_of t h) other))
      own
    where
      before : Begun sc.f (length sc.scripts) h
      before = begun_before sc.f (length sc.scripts) record { caller = c; event = event.AskRollback txn } h b

      w : WithinEnd sc s c h so by.session (event.AskRollback txn) txn false
      w = within_rollback sc s c h so txn by

      own : (i : ℕ) (x : Try) → IsTry sc s h i x → txn ≡ x.txn → (block : Block) → numbered (script sc s) x.block ≡ Some block → IsCalled s x.txn block (txn_calls x.txn h) (submits x.txn h) (phase_of x.txn h)
          → IsCalled s x.txn block (txn_calls x.txn h ++ event.AskRollback txn ∷ []) (submits x.txn h) (cond (txn == x.txn) phase.RolledBack (phase_of x.txn h))
      own i x at same block there old =
          let active = its_phase sc s h so by.session (event.AskRollback txn) sc.f (length sc.scripts) before w.0 i x at (w.1 ∙ same) in
          let all = all_submitted by.session (event.AskRollback txn) before w.0 i x at (w.1 ∙ same) block there w.2 in
          let commits = its_end by.session (event.AskRollback txn) before w.0 i x at (w.1 ∙ same) block there false w.3 in
          called_end s x.txn block (txn_calls x.txn h) (submits x.txn h) (event.AskRollback txn) (phase_of x.txn h) _ active
          (ap was_ended (if_same txn x.txn phase.RolledBack (phase_of x.txn h) same))
          all (ap (λ y. end_call y x.txn) commits ∙ ap (λ t. event.AskRollback t) (sym same)) old

  -- ---- how transactions end

  order_decide : (txn : ℕ) → Begun sc.f (length sc.scripts) (record { caller = c; event = event.Decide txn } ∷ h) → InOrder sc s (record { caller = c; event = event.Decide txn } ∷ h)
  order_decide txn b = no_session_call (event.Decide txn) refl (λ t. refl) refl called
    where
      asked : is_asked (phase_of txn h) ≡ true
      asked = let rule = by_rule sc.f (length sc.scripts) record { caller = c; event = event.Decide txn } h b refl in decided_asked sc.f txn h (txn_born sc.f txn h rule.0) rule.1

      called : (x : Try) (block : Block) → IsCalled s x.txn block (txn_calls x.txn h) (submits x.txn h) (phase_of x.txn h)
          → IsCalled s x.txn block (txn_calls x.txn h) (submits x.txn h) (cond (txn == x.txn) (phase.Logged (length (log h) + 1)) (phase_of x.txn h))
      called x block old = elim (same_or_not txn x.txn) [
        | inl same ↦ subst (λ p. IsCalled s x.txn block (txn_calls x.txn h) (submits x.txn h) p) (sym (if_same txn x.txn (phase.Logged (length (log h) + 1)) (phase_of x.txn h) same))
            (called_decide s x.txn block (txn_calls x.txn h) (submits x.txn h) (phase_of x.txn h) (length (log h) + 1) (ap (λ t. is_asked (phase_of t h)) (sym same) ∙ asked) old)
        | inr other ↦ subst (λ p. IsCalled s x.txn block (txn_calls x.txn h) (submits x.txn h) p) (sym (if_other txn x.txn (phase.Logged (length (log h) + 1)) (phase_of x.txn h) other)) old
      ]

  order_refusal : (txn : ℕ) (why : CauseAt) → InOrder sc s (record { caller = c; event = event.Refuse txn why } ∷ h)
  order_refusal txn why = no_session_call (event.Refuse txn why) refl (λ t. refl) refl called
    where
      called : (x : Try) (block : Block) → IsCalled s x.txn block (txn_calls x.txn h) (submits x.txn h) (phase_of x.txn h)
          → IsCalled s x.txn block (txn_calls x.txn h) (submits x.txn h) (cond (txn == x.txn) phase.Refused (phase_of x.txn h))
      called x block old = elim (same_or_not txn x.txn) [
        | inl same ↦ subst (λ p. IsCalled s x.txn block (txn_calls x.txn h) (submits x.txn h) p) (sym (if_same txn x.txn phase.Refused (phase_of x.txn h) same))
            (called_refuse s x.txn block (txn_calls x.txn h) (submits x.txn h) (phase_of x.txn h) old)
        | inr other ↦ subst (λ p. IsCalled s x.txn block (txn_calls x.txn h) (submits x.txn h) p) (sym (if_other txn x.txn phase.Refused (phase_of x.txn h) other)) old
      ]

-- ---- a Begin

module _ (sc : Scenario) (s c : ℕ) (h : History) (k : Kept h) (so : SoFar sc s h) (io : InOrder sc s h) (session txn : ℕ)
    (b : Begun sc.f (length sc.scripts) (record { caller = c; event = event.Begin session txn } ∷ h)) (by : IsNextOfScript sc record { caller = c; event = event.Begin session txn } h) where
  -- its number is a new one
  none_so_far : txn_calls txn h ≡ []
  none_so_far =
      no_calls sc.f (length sc.scripts) txn h (begun_before sc.f (length sc.scripts) record { caller = c; event = event.Begin session txn } h b)
      (omega (arith, (allowed sc s c h k so session txn b by).0))

  new_one : (i : ℕ) (x : Try) → IsTry sc s h i x → txn ≡ x.txn → ⊥
  new_one i x at same = omega (arith, same, (allowed sc s c h k so session txn b by).0, (numbered_born (begun h) x.txn s (so.its i x at)).1)

  old_calls : (i : ℕ) (x : Try) → IsTry sc s h i x → txn_calls x.txn (record { caller = c; event = event.Begin session txn } ∷ h) ≡ txn_calls x.txn h
  old_calls i x at = if_other txn x.txn (txn_calls x.txn h ++ event.Begin session txn ∷ []) (txn_calls x.txn h) (new_one i x at)

  its_calls : (x : Try) → x.txn ≡ txn → txn_calls x.txn (record { caller = c; event = event.Begin session txn } ∷ h) ≡ event.Begin session txn ∷ []
  its_calls x same =
      if_same txn x.txn (txn_calls x.txn h ++ event.Begin session txn ∷ []) (txn_calls x.txn h) (sym same)
      ∙ ap (λ (l : List Event). l ++ event.Begin session txn ∷ []) (ap (λ t. txn_calls t h) same ∙ none_so_far)

  begin_caller : c ≡ session_caller sc.f session
  begin_caller = by.caller ∙ ap (session_caller sc.f) (begins_it sc s c h k so session txn b by)

  old_called : (i : ℕ) (x : Try) → IsTry sc s h i x → (block : Block) → numbered (script sc s) x.block ≡ Some block
      → IsCalled s x.txn block (txn_calls x.txn (record { caller = c; event = event.Begin session txn } ∷ h)) (submits x.txn (record { caller = c; event = event.Begin session txn } ∷ h)) (phase_of x.txn (record { caller = c; event = event.Begin session txn } ∷ h))
  old_called i x at block there =
      called_as_before s x.txn block (txn_calls x.txn h) _ (submits x.txn h) _ (phase_of x.txn h) _ (old_calls i x at) (statements sc s c h k so session txn b by x.txn) (phases sc s c h k so session txn b by x.txn)
      (io.called i x at block there)

  order_another : (session ≡ s → ⊥) → InOrder sc s (record { caller = c; event = event.Begin session txn } ∷ h)
  order_another other = record {
    in_turn = if_other c (session_caller sc.f s) (session_calls sc.f s h ++ event.Begin session txn ∷ []) (session_calls sc.f s h) (other_caller sc.f c session s begin_caller other)
        ∙ io.in_turn
        ∙ agree (λ x. txn_calls x.txn h) (λ x. txn_calls x.txn (record { caller = c; event = event.Begin session txn } ∷ h)) (tries_of sc.retries s h) (λ i x at. sym (old_calls i x at))
        ∙ ap (λ xs. flat_map (λ (x : Try). txn_calls x.txn (record { caller = c; event = event.Begin session txn } ∷ h)) xs) (sym same_tries);
    called = λ i x at block there. old_called i x (ap (λ l. numbered l i) (sym same_tries) ∙ at) block there;
  }
    where
      same_tries : tries_of sc.retries s (record { caller = c; event = event.Begin session txn } ∷ h) ≡ tries_of sc.retries s h
      same_tries = if_other session s (tries_of sc.retries s h ++ try_after sc.retries (last_of (tries_of sc.retries s h)) (λ t. phase_of t h) txn ∷ []) (tries_of sc.retries s h) other

  module _ (own : session ≡ s) where
    abbrev calls_now : Try → List Event
    calls_now x = txn_calls x.txn (record { caller = c; event = event.Begin session txn } ∷ h)

    one_more_in_turn : session_calls sc.f s (record { caller = c; event = event.Begin session txn } ∷ h) ≡ flat_map calls_now (tries_of sc.retries s (record { caller = c; event = event.Begin session txn } ∷ h))
    one_more_in_turn =
        let old = tries_of sc.retries s h in
        let y = try_after sc.retries (last_of (tries_of sc.retries s h)) (λ t. phase_of t h) txn in
        if_same c (session_caller sc.f s) (session_calls sc.f s h ++ event.Begin session txn ∷ []) (session_calls sc.f s h) (begin_caller ∙ ap (session_caller sc.f) own)
        ∙ ap (λ (l : List Event). l ++ event.Begin session txn ∷ []) (io.in_turn ∙ agree (λ x. txn_calls x.txn h) calls_now old (λ i x at. sym (old_calls i x at)))
        ∙ ap (λ (l : List Event). flat_map calls_now old ++ l) (sym (append-nil (calls_now y) ∙ its_calls y (its_txn sc s c h k so session txn b by own)))
        ∙ sym (flat_map-append calls_now old (y ∷ []))
        ∙ ap (λ xs. flat_map calls_now xs) (sym (grown sc s c h k so session txn b by own))

    new_called : (x : Try) → x.txn ≡ txn → (block : Block) → IsCalled s x.txn block (txn_calls x.txn (record { caller = c; event = event.Begin session txn } ∷ h)) (submits x.txn (record { caller = c; event = event.Begin session txn } ∷ h)) (phase_of x.txn (record { caller = c; event = event.Begin session txn } ∷ h))
    new_called x is block =
        let nothing = unborn sc s c h k so session txn b by own in
        called_begin s x.txn block _ _ _
        (phases sc s c h k so session txn b by x.txn ∙ ap (λ t. phase_of t h) is ∙ nothing.0)
        (statements sc s c h k so session txn b by x.txn ∙ ap (λ t. submits t h) is ∙ none (submits txn h) nothing.1)
        (its_calls x is ∙ ap (λ q. event.Begin q txn ∷ []) own ∙ ap (λ t. event.Begin s t ∷ []) (sym is))
      where
        none : (xs : List Stmt) → length xs ≡ 0 → xs ≡ []
        none [] e = refl
        none (x ∷ xs) e = absurd (omega (arith, e))

    order_own : InOrder sc s (record { caller = c; event = event.Begin session txn } ∷ h)
    order_own = record {
      in_turn = one_more_in_turn;
      called = λ i x at block there. elim (old_or_new sc s c h k so session txn b by own i x at) [
        | inl old ↦ old_called i x old block there
        | inr new ↦ new_called x (ap (λ (y : Try). y.txn) (sym new.1) ∙ its_txn sc s c h k so session txn b by own) block
      ];
    }

  order_begin : InOrder sc s (record { caller = c; event = event.Begin session txn } ∷ h)
  order_begin = elim (same_or_not session s) [ inl own ↦ order_own own | inr other ↦ order_another other ]

-- ---- all entries

module _ (sc : Scenario) (s c : ℕ) (h : History) (k : Kept h) (so : SoFar sc s h) (io : InOrder sc s h) where
  order_entry : (e : Event) → Begun sc.f (length sc.scripts) (record { caller = c; event = e } ∷ h) → AreRight sc (record { caller = c; event = e } ∷ h) → InOrder sc s (record { caller = c; event = e } ∷ h)
  order_entry (event.Begin session txn) b right = order_begin sc s c h k so io session txn b (right.1 refl)
  order_entry (event.Submit txn index stmt) b right = order_submit sc s c h so io txn index stmt b (right.1 refl)
  order_entry (event.AskCommit txn) b right = order_ask sc s c h so io txn b (right.1 refl)
  order_entry (event.AskRollback txn) b right = order_rollback sc s c h so io txn b (right.1 refl)
  order_entry (event.Decide txn) b right = order_decide sc s c h so io txn b
  order_entry (event.Refuse txn why) b right = order_refusal sc s c h so io txn why
  order_entry (event.Take r j) b right = no_session_call sc s c h so io (event.Take r j) refl (λ t. refl) refl (λ x block old. old)
  order_entry (event.Give r told) b right = no_session_call sc s c h so io (event.Give r told) refl (λ t. refl) refl (λ x block old. old)
  order_entry (event.Restarted r count) b right = no_session_call sc s c h so io (event.Restarted r count) refl (λ t. refl) refl (λ x block old. old)
  order_entry event.Suspect b right = no_session_call sc s c h so io event.Suspect refl (λ t. refl) refl (λ x block old. old)
  order_entry (event.Convict r x) b right = no_session_call sc s c h so io (event.Convict r x) refl (λ t. refl) refl (λ y block old. old)
  order_entry (event.NewPrimary r) b right = no_session_call sc s c h so io (event.NewPrimary r) refl (λ t. refl) refl (λ x block old. old)
  order_entry (event.Preempt r txn) b right = no_session_call sc s c h so io (event.Preempt r txn) refl (λ t. refl) refl (λ x block old. old)

no_try : {X : Type 0} (i : ℕ) (x : X) → numbered [] i ≡ Some x → ⊥
no_try zero x e = some_none x (sym e)
no_try (suc i) x e = some_none x (sym e)

pub in_order : (sc : Scenario) (s : ℕ) (h : History) → Begun sc.f (length sc.scripts) h → AreRight sc h → InOrder sc s h
in_order sc s [] b right = record { in_turn = refl; called = λ i x at block there. absurd (no_try i x at) }
in_order sc s (e ∷ h) b right =
    let earlier = begun_before sc.f (length sc.scripts) e h b in
    order_entry sc s e.caller h (kept sc.f (length sc.scripts) h earlier) (so_far sc s h earlier right.0) (in_order sc s h earlier right.0) e.event b right
