-- How a session's tries stand, entry by entry.
use Rattle.std.proofs.Common.{◌≡◌, ◌⊎◌, inl, inr, ℕ, zero, suc, ◌+◌, ◌<◌, ◌≤◌, Bool, true, false, cond, ◌&&◌, not, nat_le, Option, Some, None, List, [], ◌∷◌, ◌++◌, length, refl, ap, sym, ◌∙◌, subst, arith}
use Rattle.std.specs.Prelude.{slice_get, is_some}
use Rattle.std.proofs.lemmas.Bool.{and_parts, leb-true, leb-false}
use Rattle.hr_base.specs.Lists.{numbered, last_of}
use Rattle.hr_rel.specs.declared.stmt.Stmt.{Stmt}
use Rattle.hr_said.specs.declared.scenario.Scenario.{Scenario}
use Rattle.hr_said.specs.declared.scenario.Block.{Block}
use Rattle.hr_history.specs.declared.entry.Event.{Event}
use Rattle.hr_history.specs.declared.entry.Event.TheVariants as event
use Rattle.hr_history.specs.declared.cause.CauseAt.{CauseAt}
use Rattle.hr_history.specs.declared.phase.Phase.{Phase}
use Rattle.hr_history.specs.declared.phase.Phase.TheVariants as phase
use Rattle.hr_history.specs.History.{History}
use Rattle.hr_history.specs.Transactions.{begun, session_of, submits, log, asks, phase_of, is_open, is_asked}
use Rattle.hr_history.specs.Replicas.{any_stmt}
use Rattle.hr_history.specs.Faithful.{Begun, has_open}
use Rattle.hr_history.proofs.StepLemmas.{call_allowed}
use Rattle.hr_records.specs.Kept.{Kept}
use Rattle.hr_records.proofs.Options.{same_some, some_none}
use Rattle.hr_records.proofs.Places.{same_or_not, if_same, if_other, numbered_born, numbered_front, numbered_more, numbered_end}
use Rattle.hr_records.proofs.NumberLemmas.{phase_at_begin, submits_at_begin}
use Rattle.hr_records.proofs.Closed.{phase_stands}
use Rattle.hr_records.proofs.Allowed.{begin_allowed, none_open}
use Rattle.hr_records.proofs.KeptLemmas.{kept, decided_asked}
use Rattle.hr_records.proofs.RuleLemmas.{begun_before, by_rule}
use Rattle.hr_records.proofs.ViewWords.{txn_born}
use Rattle.hr_schedule.specs.declared.attempt.Try.{Try}
use Rattle.hr_schedule.specs.Tries.{is_refused, try_after, tries_of, last_try}
use Rattle.hr_schedule.specs.Scripts.{script, end_call}
use Rattle.hr_schedule.proofs.TryLemmas.{try_txn, last_is}
use Rattle.hr_scripted.specs.Scripted.{IsAgain, IsOfNext, IsTry, IsNextOfScript}
use Rattle.hr_scripted.proofs.NextCalls.{IsBegin, IsWithin, shows, stmt_or_end}
use Rattle.hr_scripted.proofs.CallLemmas.{AreRight}
use Rattle.hr_scripted.proofs.BlockLemmas.{OfBlock, at_begin, at_submit, at_ask, at_rollback, at_decide, at_refuse, as_before}

-- How the tries stand, but for what follows from this: the later ones have the greater transactions.
pub record SoFar (sc : Scenario) (s : ℕ) (h : History) : Type 0 where
  pub its : (i : ℕ) (x : Try) → IsTry sc s h i x → session_of x.txn h ≡ Some s
  pub all : (t : ℕ) → session_of t h ≡ Some s → (i : ℕ) × (x : Try) × IsTry sc s h i x × (x.txn ≡ t)
  pub rise : (i k : ℕ) (x y : Try) → IsTry sc s h i x → IsTry sc s h k y → i < k → x.txn < y.txn
  pub blocks : (i : ℕ) (x : Try) → IsTry sc s h i x → (block : Block) × (numbered (script sc s) x.block ≡ Some block) × OfBlock block (submits x.txn h) (phase_of x.txn h)
  pub first : (x : Try) → IsTry sc s h 1 x → (x.block ≡ 1) × (x.number ≡ 1)
  pub over : (i : ℕ) (x y : Try) → IsTry sc s h i x → IsTry sc s h (i + 1) y → is_open (phase_of x.txn h) ≡ false
  pub next : (i : ℕ) (x y : Try) → IsTry sc s h i x → IsTry sc s h (i + 1) y → IsAgain sc.retries (phase_of x.txn h) x y ⊎ IsOfNext sc.retries (phase_of x.txn h) x y

-- ---- words on lists

pub last_is_last : {X : Type 0} (xs : List X) (x : X) → last_of xs ≡ Some x → numbered xs (length xs) ≡ Some x
last_is_last [] x e = absurd (some_none x (sym e))
last_is_last (y ∷ []) x e = e
last_is_last (y ∷ z ∷ xs) x e = last_is_last (z ∷ xs) x e

last_at : {X : Type 0} (xs : List X) (x : X) → numbered xs (length xs) ≡ Some x → last_of xs ≡ Some x
last_at [] x e = absurd (some_none x (sym e))
last_at (y ∷ []) x e = e
last_at (y ∷ z ∷ xs) x e = last_at (z ∷ xs) x e

none_yet : {X : Type 0} (xs : List X) → length xs ≡ 0 → last_of xs ≡ None
none_yet [] e = refl
none_yet (x ∷ xs) e = absurd (omega (arith, e))

there_is : {X : Type 0} (o : Option X) → is_some o ≡ true → (x : X) × (o ≡ Some x)
there_is (Some x) e = (x, refl)
there_is None e = cc

-- ---- the try that comes next

try_block : (retries : ℕ) (last : Option Try) (phases : ℕ → Phase) (t : ℕ) → (try_after retries last phases t).block ≡ (try_after retries last phases 0).block
try_block retries None phases t = refl
try_block retries (Some last) phases t = by_case (is_refused (phases last.txn) && nat_le last.number retries)
  where
    by_case : (b : Bool) → (cond {A = Try} b record { block = last.block; number = last.number + 1; txn = t } record { block = last.block + 1; number = 1; txn = t }).block
        ≡ (cond {A = Try} b record { block = last.block; number = last.number + 1; txn = 0 } record { block = last.block + 1; number = 1; txn = 0 }).block
    by_case true = refl
    by_case false = refl

refused_is : (p : Phase) → is_refused p ≡ true → p ≡ phase.Refused
refused_is phase.Active e = cc
refused_is (phase.Asked n) e = cc
refused_is (phase.Logged n) e = cc
refused_is phase.RolledBack e = cc
refused_is phase.Refused e = refl

abbrev again : Try → ℕ → Try
again last t = record { block = last.block; number = last.number + 1; txn = t }

abbrev fresh : Try → ℕ → Try
fresh last t = record { block = last.block + 1; number = 1; txn = t }

comes_next : (retries : ℕ) (last : Try) (phases : ℕ → Phase) (t : ℕ) → IsAgain retries (phases last.txn) last (try_after retries (Some last) phases t) ⊎ IsOfNext retries (phases last.txn) last (try_after retries (Some last) phases t)
comes_next retries last phases t = by_case (is_refused (phases last.txn) && nat_le last.number retries) refl
  where
    by_case : (b : Bool) → (is_refused (phases last.txn) && nat_le last.number retries) ≡ b
        → IsAgain retries (phases last.txn) last (cond {A = Try} b (again last t) (fresh last t)) ⊎ IsOfNext retries (phases last.txn) last (cond {A = Try} b (again last t) (fresh last t))
    by_case true e =
        let parts = and_parts (is_refused (phases last.txn)) (nat_le last.number retries) e in
        inl (refused_is (phases last.txn) parts.0, leb-true last.number retries parts.1, refl, refl)
    by_case false e = inr (λ refused. omega (arith, leb-false last.number retries (left_out refused)), refl, refl)
      where
        left_out : phases last.txn ≡ phase.Refused → nat_le last.number retries ≡ false
        left_out refused = ap (λ p. is_refused p && nat_le last.number retries) (sym refused) ∙ e

-- ---- what an event tells

abbrev txn_in : Event → ℕ
txn_in (event.Begin session txn) = txn
txn_in (event.Submit txn index stmt) = txn
txn_in (event.AskCommit txn) = txn
txn_in (event.AskRollback txn) = txn
txn_in _ = 0

abbrev session_in : Event → ℕ
session_in (event.Begin session txn) = session
session_in _ = 0

abbrev stmt_in : Event → Stmt
stmt_in (event.Submit txn index stmt) = stmt
stmt_in _ = any_stmt

-- ---- one entry more

module _ (sc : Scenario) (s : ℕ) (h : History) (so : SoFar sc s h) where
  -- a try is known by its transaction
  pub same_try : (i k : ℕ) (x y : Try) → IsTry sc s h i x → IsTry sc s h k y → x.txn ≡ y.txn → x ≡ y
  same_try i k x y at_i at_k same = by_place (nat_le i k) refl (nat_le k i) refl
    where
      by_place : (b : Bool) → nat_le i k ≡ b → (d : Bool) → nat_le k i ≡ d → x ≡ y
      by_place true le true ge = same_some x y (sym at_i ∙ ap (numbered (tries_of sc.retries s h)) (omega (arith, leb-true i k le, leb-true k i ge)) ∙ at_k)
      by_place true le false ge = absurd (omega (arith, same, so.rise i k x y at_i at_k (omega (arith, leb-false k i ge))))
      by_place false le d ge = absurd (omega (arith, same, so.rise k i y x at_k at_i (omega (arith, leb-false i k le))))

  -- the call within a block of the session's last try is of this try's block, if it is of its transaction
  module _ (q : ℕ) (e : Event) (f sessions : ℕ) (begins : Begun f sessions h) (w : IsWithin sc q h e) (i : ℕ) (x : Try) (at : IsTry sc s h i x) (mine : (w.last).txn ≡ x.txn) where
    q_is : q ≡ s
    q_is = same_some q s (sym ((last_is f sessions sc.retries q h begins).its w.last w.is_last) ∙ ap (λ t. session_of t h) mine ∙ so.its i x at)

    is_of_last : w.last ≡ x
    is_of_last =
        let tries = tries_of sc.retries s h in
        let last = last_is_last tries w.last (ap (λ p. last_try sc.retries p h) (sym q_is) ∙ w.is_last) in
        same_try (length tries) i w.last x last at mine

    pub of_its_block : (block : Block) → numbered (script sc s) x.block ≡ Some block → w.block ≡ block
    of_its_block block there = same_some w.block block (sym w.there ∙ ap (λ p. numbered (script sc p) (w.last).block) q_is ∙ ap (λ (y : Try). numbered (script sc s) y.block) is_of_last ∙ there)

    pub its_place : (block : Block) → numbered (script sc s) x.block ≡ Some block → slice_get (w.block).stmts (length (submits (w.last).txn h)) ≡ slice_get block.stmts (length (submits x.txn h))
    its_place block there = ap (λ (y : Block). slice_get y.stmts (length (submits (w.last).txn h))) (of_its_block block there) ∙ ap (λ t. slice_get block.stmts (length (submits t h))) mine

    pub its_phase : phase_of x.txn h ≡ phase.Active
    its_phase = ap (λ t. phase_of t h) (sym mine) ∙ w.active

  -- a history with the same tries of the session, and the same transactions of it, where what is closed stands
  module _ (now : History) (same_tries : tries_of sc.retries s now ≡ tries_of sc.retries s h) (stay : (t : ℕ) → session_of t h ≡ Some s → session_of t now ≡ Some s) (came : (t : ℕ) → session_of t now ≡ Some s → session_of t h ≡ Some s)
      (closed : (t : ℕ) → is_open (phase_of t h) ≡ false → phase_of t now ≡ phase_of t h)
      (follows : (i : ℕ) (x : Try) → IsTry sc s h i x → (block : Block) → numbered (script sc s) x.block ≡ Some block → OfBlock block (submits x.txn h) (phase_of x.txn h) → OfBlock block (submits x.txn now) (phase_of x.txn now)) where
    was : (i : ℕ) (x : Try) → IsTry sc s now i x → IsTry sc s h i x
    was i x at = ap (λ l. numbered l i) (sym same_tries) ∙ at

    is : (i : ℕ) (x : Try) → IsTry sc s h i x → IsTry sc s now i x
    is i x at = ap (λ l. numbered l i) same_tries ∙ at

    same : SoFar sc s now
    same = record {
      its = λ i x at. stay x.txn (so.its i x (was i x at));
      all = λ t its. let found = so.all t (came t its) in (found.0, found.1, is found.0 found.1 found.2, found.3);
      rise = λ i k x y at_i at_k lt. so.rise i k x y (was i x at_i) (was k y at_k) lt;
      blocks = λ i x at. let b = so.blocks i x (was i x at) in (b.0, b.1, follows i x (was i x at) b.0 b.1 b.2);
      first = λ x at. so.first x (was 1 x at);
      over = λ i x y at_i at_k.
          let o = so.over i x y (was i x at_i) (was (i + 1) y at_k) in
          ap is_open (closed x.txn o) ∙ o;
      next = λ i x y at_i at_k.
          let o = so.over i x y (was i x at_i) (was (i + 1) y at_k) in
          subst (λ p. IsAgain sc.retries p x y ⊎ IsOfNext sc.retries p x y) (sym (closed x.txn o)) (so.next i x y (was i x at_i) (was (i + 1) y at_k));
    }

-- ---- a Begin

module _ (sc : Scenario) (s c : ℕ) (h : History) (k : Kept h) (so : SoFar sc s h) (session txn : ℕ)
    (b : Begun sc.f (length sc.scripts) (record { caller = c; event = event.Begin session txn } ∷ h)) (by : IsNextOfScript sc record { caller = c; event = event.Begin session txn } h) where
  abbrev pub tries : List Try
  tries = tries_of sc.retries s h

  pub allowed : (txn ≡ length (begun h) + 1) × (not (has_open session h) ≡ true)
  allowed = begin_allowed sc.f (length sc.scripts) c h session txn (call_allowed sc.f (length sc.scripts) record { caller = c; event = event.Begin session txn } h b refl)

  pub phases : (t : ℕ) → phase_of t (record { caller = c; event = event.Begin session txn } ∷ h) ≡ phase_of t h
  phases t = phase_at_begin h k.numbers txn allowed.0 t

  pub statements : (t : ℕ) → submits t (record { caller = c; event = event.Begin session txn } ∷ h) ≡ submits t h
  statements t = submits_at_begin h k.numbers txn allowed.0 t

  carried : (block : Block) (t : ℕ) → OfBlock block (submits t h) (phase_of t h) → OfBlock block (submits t (record { caller = c; event = event.Begin session txn } ∷ h)) (phase_of t (record { caller = c; event = event.Begin session txn } ∷ h))
  carried block t old = as_before block (submits t h) _ (phase_of t h) _ (statements t) (phases t) old

  no_submit : (t n : ℕ) (x : Stmt) → event.Submit t n x ≡ event.Begin session txn → ⊥
  no_submit t n x e = cc

  no_end : (commits : Bool) (t : ℕ) → end_call commits t ≡ event.Begin session txn → ⊥
  no_end true t e = cc
  no_end false t e = cc

  not_within : IsWithin sc by.session h (event.Begin session txn) → ⊥
  not_within w = elim (stmt_or_end (slice_get (w.block).stmts (length (submits (w.last).txn h))) (w.block).commits (w.last).txn (length (submits (w.last).txn h)) h (event.Begin session txn) w.call) [
    | inl stmt ↦ no_submit (w.last).txn _ stmt.0 stmt.2
    | inr end ↦ no_end (w.block).commits (w.last).txn end.1
  ]

  is_begin : IsBegin sc by.session h (event.Begin session txn)
  is_begin = elim (shows sc by.session h (event.Begin session txn) by.call) [ inl begin ↦ begin | inr within ↦ absurd (not_within within) ]

  -- it is the session's own call
  pub begins_it : by.session ≡ session
  begins_it = ap session_in is_begin.is

  abbrev pub next_try : Try
  next_try = try_after sc.retries (last_of tries) (λ t. phase_of t h) txn

  -- another session's
  by_another : (session ≡ s → ⊥) → SoFar sc s (record { caller = c; event = event.Begin session txn } ∷ h)
  by_another other =
      same sc s h so (record { caller = c; event = event.Begin session txn } ∷ h)
      (if_other session s (tries_of sc.retries s h ++ try_after sc.retries (last_of (tries_of sc.retries s h)) (λ t. phase_of t h) txn ∷ []) (tries_of sc.retries s h) other)
      (λ t old. numbered_front (begun h) (session ∷ []) t s old)
      (λ t new. elim (numbered_more (begun h) session t s new) [ inl old ↦ old | inr here ↦ absurd (other here.1) ])
      (λ t closed. phases t)
      (λ i x at block there old. carried block x.txn old)

  -- its own: then there is one try more
  module _ (own : session ≡ s) where
    pub grown : tries_of sc.retries s (record { caller = c; event = event.Begin session txn } ∷ h) ≡ tries ++ next_try ∷ []
    grown = if_same session s (tries_of sc.retries s h ++ try_after sc.retries (last_of (tries_of sc.retries s h)) (λ t. phase_of t h) txn ∷ []) (tries_of sc.retries s h) own

    pub its_txn : next_try.txn ≡ txn
    its_txn = try_txn sc.retries (last_of tries) (λ t. phase_of t h) txn

    pub old_or_new : (i : ℕ) (x : Try) → IsTry sc s (record { caller = c; event = event.Begin session txn } ∷ h) i x → IsTry sc s h i x ⊎ ((i ≡ length tries + 1) × (next_try ≡ x))
    old_or_new i x at = numbered_more tries next_try i x (ap (λ l. numbered l i) (sym grown) ∙ at)

    stays : (i : ℕ) (x : Try) → IsTry sc s h i x → IsTry sc s (record { caller = c; event = event.Begin session txn } ∷ h) i x
    stays i x at = ap (λ l. numbered l i) grown ∙ numbered_front tries (next_try ∷ []) i x at

    -- the script has its block
    its_block : (block : Block) × (numbered (script sc s) next_try.block ≡ Some block)
    its_block =
        let found = there_is (numbered (script sc by.session) (try_after sc.retries (last_try sc.retries by.session h) (λ t. phase_of t h) 0).block) is_begin.there in (
          found.0,
          ap (numbered (script sc s)) (try_block sc.retries (last_of tries) (λ t. phase_of t h) txn)
              ∙ ap (λ p. numbered (script sc p) (try_after sc.retries (last_try sc.retries p h) (λ t. phase_of t h) 0).block) (sym (begins_it ∙ own))
              ∙ found.1,
        )

    pub born : (i : ℕ) (x : Try) → IsTry sc s h i x → x.txn ≤ length (begun h)
    born i x at = (numbered_born (begun h) x.txn s (so.its i x at)).1

    new_txn : (x : Try) → next_try ≡ x → x.txn ≡ length (begun h) + 1
    new_txn x is = ap (λ (y : Try). y.txn) (sym is) ∙ its_txn ∙ allowed.0

    pub unborn : (phase_of txn h ≡ phase.Active) × (length (submits txn h) ≡ 0)
    unborn = let none = (k.numbers).unborn txn (λ is. absurd (omega (arith, allowed.0, is.1))) in (none.0, none.1)

    -- the last one of the session is over
    last_over : (x : Try) (i : ℕ) → IsTry sc s h i x → (o : Bool) → is_open (phase_of x.txn h) ≡ o → is_open (phase_of x.txn h) ≡ false
    last_over x i at true is = absurd (none_open session x.txn h allowed.1 (so.its i x at ∙ ap Some (sym own)) is)
    last_over x i at false is = is

    pair : (i : ℕ) (x y : Try) → IsTry sc s (record { caller = c; event = event.Begin session txn } ∷ h) i x → IsTry sc s (record { caller = c; event = event.Begin session txn } ∷ h) (i + 1) y
        → (is_open (phase_of x.txn h) ≡ false) × (IsAgain sc.retries (phase_of x.txn h) x y ⊎ IsOfNext sc.retries (phase_of x.txn h) x y)
    pair i x y at_i at_k = by_both (old_or_new i x at_i) (old_or_new (i + 1) y at_k)
      where
        by_both : IsTry sc s h i x ⊎ ((i ≡ length tries + 1) × (next_try ≡ x)) → IsTry sc s h (i + 1) y ⊎ ((i + 1 ≡ length tries + 1) × (next_try ≡ y))
            → (is_open (phase_of x.txn h) ≡ false) × (IsAgain sc.retries (phase_of x.txn h) x y ⊎ IsOfNext sc.retries (phase_of x.txn h) x y)
        by_both (inl a) (inl d) = (so.over i x y a d, so.next i x y a d)
        by_both (inl a) (inr d) =
            let here : numbered tries (length tries) ≡ Some x = ap (numbered tries) (omega (arith, d.0)) ∙ a in
            let is_last = last_at tries x here in
            let step : try_after sc.retries (Some x) (λ t. phase_of t h) txn ≡ y = ap (λ o. try_after sc.retries o (λ t. phase_of t h) txn) (sym is_last) ∙ d.1 in
            (last_over x i a (is_open (phase_of x.txn h)) refl, subst (λ z. IsAgain sc.retries (phase_of x.txn h) x z ⊎ IsOfNext sc.retries (phase_of x.txn h) x z) step (comes_next sc.retries x (λ t. phase_of t h) txn))
        by_both (inr a) (inl d) = absurd (omega (arith, a.0, (numbered_born tries (i + 1) y d).1))
        by_both (inr a) (inr d) = absurd (omega (arith, a.0, d.0))

    one_more : SoFar sc s (record { caller = c; event = event.Begin session txn } ∷ h)
    one_more = record {
      its = λ i x at. elim (old_or_new i x at) [
        | inl old ↦ numbered_front (begun h) (session ∷ []) x.txn s (so.its i x old)
        | inr new ↦ (numbered_end (begun h) session x.txn (new_txn x new.1) ∙ ap Some own)
      ];
      all = λ t its. elim (numbered_more (begun h) session t s its) [
        | inl old ↦ (let found = so.all t old in (found.0, found.1, stays found.0 found.1 found.2, found.3))
        | inr new ↦ (length tries + 1, next_try, ap (λ l. numbered l (length tries + 1)) grown ∙ numbered_end tries next_try (length tries + 1) refl, new_txn next_try refl ∙ sym new.0)
      ];
      rise = λ i k x y at_i at_k lt. rising i k x y lt (old_or_new i x at_i) (old_or_new k y at_k);
      blocks = λ i x at. elim (old_or_new i x at) [
        | inl old ↦ (let its = so.blocks i x old in (its.0, its.1, carried its.0 x.txn its.2))
        | inr new ↦ (its_block.0, ap (λ (y : Try). numbered (script sc s) y.block) (sym new.1) ∙ its_block.1, begins its_block.0 x (ap (λ (y : Try). y.txn) (sym new.1) ∙ its_txn))
      ];
      first = λ x at. elim (old_or_new 1 x at) [ inl old ↦ so.first x old | inr new ↦ first_of_all x new.1 (omega (arith, new.0)) ];
      over = λ i x y at_i at_k. ap is_open (phases x.txn) ∙ (pair i x y at_i at_k).0;
      next = λ i x y at_i at_k. subst (λ p. IsAgain sc.retries p x y ⊎ IsOfNext sc.retries p x y) (sym (phases x.txn)) (pair i x y at_i at_k).1;
    }
      where
        rising : (i k : ℕ) (x y : Try) → i < k → IsTry sc s h i x ⊎ ((i ≡ length tries + 1) × (next_try ≡ x)) → IsTry sc s h k y ⊎ ((k ≡ length tries + 1) × (next_try ≡ y)) → x.txn < y.txn
        rising i k x y lt (inl a) (inl d) = so.rise i k x y a d lt
        rising i k x y lt (inl a) (inr d) = omega (arith, born i x a, new_txn y d.1)
        rising i k x y lt (inr a) (inl d) = absurd (omega (arith, lt, a.0, (numbered_born tries k y d).1))
        rising i k x y lt (inr a) (inr d) = absurd (omega (arith, lt, a.0, d.0))

        begins : (block : Block) (x : Try) → x.txn ≡ txn → OfBlock block (submits x.txn (record { caller = c; event = event.Begin session txn } ∷ h)) (phase_of x.txn (record { caller = c; event = event.Begin session txn } ∷ h))
        begins block x is =
            at_begin block _ _
            (ap (λ (l : List Stmt). length l) (statements x.txn) ∙ ap (λ t. length (submits t h)) is ∙ unborn.1)
            (phases x.txn ∙ ap (λ t. phase_of t h) is ∙ unborn.0)

        first_of_all : (x : Try) → next_try ≡ x → length tries ≡ 0 → (x.block ≡ 1) × (x.number ≡ 1)
        first_of_all x is none =
            let it : try_after sc.retries None (λ t. phase_of t h) txn ≡ x = ap (λ o. try_after sc.retries o (λ t. phase_of t h) txn) (sym (none_yet tries none)) ∙ is in
            (ap (λ (y : Try). y.block) (sym it), ap (λ (y : Try). y.number) (sym it))

  at_a_begin : SoFar sc s (record { caller = c; event = event.Begin session txn } ∷ h)
  at_a_begin = elim (same_or_not session s) [ inl own ↦ one_more own | inr other ↦ by_another other ]

-- ---- a call within a block

module _ (sc : Scenario) (s c : ℕ) (h : History) (so : SoFar sc s h) where
  -- no Begin, and what is closed stands
  other_call : (e : Event) → tries_of sc.retries s (record { caller = c; event = e } ∷ h) ≡ tries_of sc.retries s h → begun (record { caller = c; event = e } ∷ h) ≡ begun h → Kept h → Begun sc.f (length sc.scripts) (record { caller = c; event = e } ∷ h)
      → ((i : ℕ) (x : Try) → IsTry sc s h i x → (block : Block) → numbered (script sc s) x.block ≡ Some block → OfBlock block (submits x.txn h) (phase_of x.txn h)
      → OfBlock block (submits x.txn (record { caller = c; event = e } ∷ h)) (phase_of x.txn (record { caller = c; event = e } ∷ h)))
      → SoFar sc s (record { caller = c; event = e } ∷ h)
  other_call e same_tries same_begun k b follows =
      same sc s h so (record { caller = c; event = e } ∷ h) same_tries
      (λ t its. ap (λ l. numbered l t) same_begun ∙ its)
      (λ t its. ap (λ l. numbered l t) (sym same_begun) ∙ its)
      (λ t closed. phase_stands sc.f (length sc.scripts) record { caller = c; event = e } h k b t closed)
      follows

  -- what a call within a block shows of it
  abbrev pub WithinEnd : ℕ → Event → ℕ → Bool → Type 0
  WithinEnd q e t commits = (w : IsWithin sc q h e) × ((w.last).txn ≡ t) × (slice_get (w.block).stmts (length (submits (w.last).txn h)) ≡ None) × ((w.block).commits ≡ commits)

  no_begin : (q t : ℕ) (e : Event) → session_in e ≡ 0 → 1 ≤ q → event.Begin q t ≡ e → ⊥
  no_begin q t e none first is = absurd (omega (arith, first, ap session_in is, none))

  pub within_submit : (txn index : ℕ) (stmt : Stmt) (by : IsNextOfScript sc record { caller = c; event = event.Submit txn index stmt } h)
      → (w : IsWithin sc by.session h (event.Submit txn index stmt)) × ((w.last).txn ≡ txn) × (slice_get (w.block).stmts (length (submits (w.last).txn h)) ≡ Some stmt)
  within_submit txn index stmt by = elim (shows sc by.session h (event.Submit txn index stmt) by.call) [
    | inl begin ↦ absurd (no_begin by.session _ _ refl by.first begin.is)
    | inr w ↦ (w, (of_block w).0, (of_block w).1)
  ]
    where
      no_end : (commits : Bool) (t : ℕ) → end_call commits t ≡ event.Submit txn index stmt → ⊥
      no_end true t e = cc
      no_end false t e = cc

      of_block : (w : IsWithin sc by.session h (event.Submit txn index stmt)) → ((w.last).txn ≡ txn) × (slice_get (w.block).stmts (length (submits (w.last).txn h)) ≡ Some stmt)
      of_block w = elim (stmt_or_end (slice_get (w.block).stmts (length (submits (w.last).txn h))) (w.block).commits (w.last).txn (length (submits (w.last).txn h)) h (event.Submit txn index stmt) w.call) [
        | inl one ↦ (ap txn_in one.2, one.1 ∙ ap (λ e. Some (stmt_in e)) one.2)
        | inr end ↦ absurd (no_end (w.block).commits (w.last).txn end.1)
      ]

  pub within_ask : (txn : ℕ) (by : IsNextOfScript sc record { caller = c; event = event.AskCommit txn } h) → WithinEnd by.session (event.AskCommit txn) txn true
  within_ask txn by = elim (shows sc by.session h (event.AskCommit txn) by.call) [
    | inl begin ↦ absurd (no_begin by.session _ _ refl by.first begin.is)
    | inr w ↦ (w, (of_block w).0, (of_block w).1, (of_block w).2)
  ]
    where
      no_stmt : (t i : ℕ) (x : Stmt) → event.Submit t i x ≡ event.AskCommit txn → ⊥
      no_stmt t i x e = cc

      it_ends : (commits : Bool) (t : ℕ) → end_call commits t ≡ event.AskCommit txn → (t ≡ txn) × (commits ≡ true)
      it_ends true t e = (ap txn_in e, refl)
      it_ends false t e = cc

      of_block : (w : IsWithin sc by.session h (event.AskCommit txn)) → ((w.last).txn ≡ txn) × (slice_get (w.block).stmts (length (submits (w.last).txn h)) ≡ None) × ((w.block).commits ≡ true)
      of_block w = elim (stmt_or_end (slice_get (w.block).stmts (length (submits (w.last).txn h))) (w.block).commits (w.last).txn (length (submits (w.last).txn h)) h (event.AskCommit txn) w.call) [
        | inl one ↦ absurd (no_stmt (w.last).txn _ one.0 one.2)
        | inr end ↦ (let is = it_ends (w.block).commits (w.last).txn end.1 in (is.0, end.0, is.1))
      ]

  pub within_rollback : (txn : ℕ) (by : IsNextOfScript sc record { caller = c; event = event.AskRollback txn } h) → WithinEnd by.session (event.AskRollback txn) txn false
  within_rollback txn by = elim (shows sc by.session h (event.AskRollback txn) by.call) [
    | inl begin ↦ absurd (no_begin by.session _ _ refl by.first begin.is)
    | inr w ↦ (w, (of_block w).0, (of_block w).1, (of_block w).2)
  ]
    where
      no_stmt : (t i : ℕ) (x : Stmt) → event.Submit t i x ≡ event.AskRollback txn → ⊥
      no_stmt t i x e = cc

      it_ends : (commits : Bool) (t : ℕ) → end_call commits t ≡ event.AskRollback txn → (t ≡ txn) × (commits ≡ false)
      it_ends true t e = cc
      it_ends false t e = (ap txn_in e, refl)

      of_block : (w : IsWithin sc by.session h (event.AskRollback txn)) → ((w.last).txn ≡ txn) × (slice_get (w.block).stmts (length (submits (w.last).txn h)) ≡ None) × ((w.block).commits ≡ false)
      of_block w = elim (stmt_or_end (slice_get (w.block).stmts (length (submits (w.last).txn h))) (w.block).commits (w.last).txn (length (submits (w.last).txn h)) h (event.AskRollback txn) w.call) [
        | inl one ↦ absurd (no_stmt (w.last).txn _ one.0 one.2)
        | inr end ↦ (let is = it_ends (w.block).commits (w.last).txn end.1 in (is.0, end.0, is.1))
      ]

  at_a_submit : (txn index : ℕ) (stmt : Stmt) → Kept h → Begun sc.f (length sc.scripts) (record { caller = c; event = event.Submit txn index stmt } ∷ h) → IsNextOfScript sc record { caller = c; event = event.Submit txn index stmt } h
      → SoFar sc s (record { caller = c; event = event.Submit txn index stmt } ∷ h)
  at_a_submit txn index stmt k b by =
      other_call (event.Submit txn index stmt) refl refl k b (λ i x at block there old. elim (same_or_not txn x.txn) [
        | inl mine ↦
            let w = within_submit txn index stmt by in
            let begins = begun_before sc.f (length sc.scripts) record { caller = c; event = event.Submit txn index stmt } h b in
            let phase = its_phase sc s h so by.session (event.Submit txn index stmt) sc.f (length sc.scripts) begins w.0 i x at (w.1 ∙ mine) in
            let place = its_place sc s h so by.session (event.Submit txn index stmt) sc.f (length sc.scripts) begins w.0 i x at (w.1 ∙ mine) block there in
            as_before block (submits x.txn h ++ stmt ∷ []) _ (phase_of x.txn h) _ (if_same txn x.txn (submits x.txn h ++ stmt ∷ []) (submits x.txn h) mine) refl
            (at_submit block (submits x.txn h) (phase_of x.txn h) stmt phase (sym place ∙ w.2) old)
        | inr other ↦ as_before block (submits x.txn h) _ (phase_of x.txn h) _ (if_other txn x.txn (submits x.txn h ++ stmt ∷ []) (submits x.txn h) other) refl old
      ])

  at_an_ask : (txn : ℕ) → Kept h → Begun sc.f (length sc.scripts) (record { caller = c; event = event.AskCommit txn } ∷ h) → IsNextOfScript sc record { caller = c; event = event.AskCommit txn } h
      → SoFar sc s (record { caller = c; event = event.AskCommit txn } ∷ h)
  at_an_ask txn k b by =
      other_call (event.AskCommit txn) refl refl k b (λ i x at block there old. elim (same_or_not txn x.txn) [
        | inl mine ↦
            let w = within_ask txn by in
            let begins = begun_before sc.f (length sc.scripts) record { caller = c; event = event.AskCommit txn } h b in
            let place = its_place sc s h so by.session (event.AskCommit txn) sc.f (length sc.scripts) begins w.0 i x at (w.1 ∙ mine) block there in
            let same_block = of_its_block sc s h so by.session (event.AskCommit txn) sc.f (length sc.scripts) begins w.0 i x at (w.1 ∙ mine) block there in
            as_before block (submits x.txn h) _ (phase.Asked (asks h + 1)) _ refl (if_same txn x.txn (phase.Asked (asks h + 1)) (phase_of x.txn h) mine)
            (at_ask block (submits x.txn h) (phase_of x.txn h) (asks h + 1) (sym place ∙ w.2) (ap (λ (y : Block). y.commits) (sym same_block) ∙ w.3) old)
        | inr other ↦ as_before block (submits x.txn h) _ (phase_of x.txn h) _ refl (if_other txn x.txn (phase.Asked (asks h + 1)) (phase_of x.txn h) other) old
      ])

  at_a_rollback : (txn : ℕ) → Kept h → Begun sc.f (length sc.scripts) (record { caller = c; event = event.AskRollback txn } ∷ h) → IsNextOfScript sc record { caller = c; event = event.AskRollback txn } h
      → SoFar sc s (record { caller = c; event = event.AskRollback txn } ∷ h)
  at_a_rollback txn k b by =
      other_call (event.AskRollback txn) refl refl k b (λ i x at block there old. elim (same_or_not txn x.txn) [
        | inl mine ↦
            let w = within_rollback txn by in
            let begins = begun_before sc.f (length sc.scripts) record { caller = c; event = event.AskRollback txn } h b in
            let place = its_place sc s h so by.session (event.AskRollback txn) sc.f (length sc.scripts) begins w.0 i x at (w.1 ∙ mine) block there in
            let same_block = of_its_block sc s h so by.session (event.AskRollback txn) sc.f (length sc.scripts) begins w.0 i x at (w.1 ∙ mine) block there in
            as_before block (submits x.txn h) _ phase.RolledBack _ refl (if_same txn x.txn phase.RolledBack (phase_of x.txn h) mine)
            (at_rollback block (submits x.txn h) (phase_of x.txn h) (sym place ∙ w.2) (ap (λ (y : Block). y.commits) (sym same_block) ∙ w.3) old)
        | inr other ↦ as_before block (submits x.txn h) _ (phase_of x.txn h) _ refl (if_other txn x.txn phase.RolledBack (phase_of x.txn h) other) old
      ])

  at_a_decide : (txn : ℕ) → Kept h → Begun sc.f (length sc.scripts) (record { caller = c; event = event.Decide txn } ∷ h) → SoFar sc s (record { caller = c; event = event.Decide txn } ∷ h)
  at_a_decide txn k b =
      other_call (event.Decide txn) refl refl k b (λ i x at block there old. elim (same_or_not txn x.txn) [
        | inl mine ↦
            let rule = by_rule sc.f (length sc.scripts) record { caller = c; event = event.Decide txn } h b refl in
            let asked = decided_asked sc.f txn h (txn_born sc.f txn h rule.0) rule.1 in
            as_before block (submits x.txn h) _ (phase.Logged (length (log h) + 1)) _ refl (if_same txn x.txn (phase.Logged (length (log h) + 1)) (phase_of x.txn h) mine)
            (at_decide block (submits x.txn h) (phase_of x.txn h) (length (log h) + 1) (ap (λ t. is_asked (phase_of t h)) (sym mine) ∙ asked) old)
        | inr other ↦ as_before block (submits x.txn h) _ (phase_of x.txn h) _ refl (if_other txn x.txn (phase.Logged (length (log h) + 1)) (phase_of x.txn h) other) old
      ])

  at_a_refusal : (txn : ℕ) (why : CauseAt) → Kept h → Begun sc.f (length sc.scripts) (record { caller = c; event = event.Refuse txn why } ∷ h) → SoFar sc s (record { caller = c; event = event.Refuse txn why } ∷ h)
  at_a_refusal txn why k b =
      other_call (event.Refuse txn why) refl refl k b (λ i x at block there old. elim (same_or_not txn x.txn) [
        | inl mine ↦ as_before block (submits x.txn h) _ phase.Refused _ refl (if_same txn x.txn phase.Refused (phase_of x.txn h) mine) (at_refuse block (submits x.txn h) (phase_of x.txn h) old)
        | inr other ↦ as_before block (submits x.txn h) _ (phase_of x.txn h) _ refl (if_other txn x.txn phase.Refused (phase_of x.txn h) other) old
      ])

-- ---- all entries

module _ (sc : Scenario) (s c : ℕ) (h : History) (k : Kept h) (so : SoFar sc s h) where
  at_entry : (e : Event) → Begun sc.f (length sc.scripts) (record { caller = c; event = e } ∷ h) → AreRight sc (record { caller = c; event = e } ∷ h) → SoFar sc s (record { caller = c; event = e } ∷ h)
  at_entry (event.Begin session txn) b right = at_a_begin sc s c h k so session txn b (right.1 refl)
  at_entry (event.Submit txn index stmt) b right = at_a_submit sc s c h so txn index stmt k b (right.1 refl)
  at_entry (event.AskCommit txn) b right = at_an_ask sc s c h so txn k b (right.1 refl)
  at_entry (event.AskRollback txn) b right = at_a_rollback sc s c h so txn k b (right.1 refl)
  at_entry (event.Decide txn) b right = at_a_decide sc s c h so txn k b
  at_entry (event.Refuse txn why) b right = at_a_refusal sc s c h so txn why k b
  at_entry (event.Take r j) b right = other_call sc s c h so (event.Take r j) refl refl k b (λ i x at block there old. old)
  at_entry (event.Give r told) b right = other_call sc s c h so (event.Give r told) refl refl k b (λ i x at block there old. old)
  at_entry (event.Restarted r count) b right = other_call sc s c h so (event.Restarted r count) refl refl k b (λ i x at block there old. old)
  at_entry event.Suspect b right = other_call sc s c h so event.Suspect refl refl k b (λ i x at block there old. old)
  at_entry (event.Convict r x) b right = other_call sc s c h so (event.Convict r x) refl refl k b (λ i x at block there old. old)
  at_entry (event.NewPrimary r) b right = other_call sc s c h so (event.NewPrimary r) refl refl k b (λ i x at block there old. old)
  at_entry (event.Preempt r txn) b right = other_call sc s c h so (event.Preempt r txn) refl refl k b (λ i x at block there old. old)

no_try : {X : Type 0} (i : ℕ) (x : X) → numbered [] i ≡ Some x → ⊥
no_try zero x e = some_none x (sym e)
no_try (suc i) x e = some_none x (sym e)

pub so_far : (sc : Scenario) (s : ℕ) (h : History) → Begun sc.f (length sc.scripts) h → AreRight sc h → SoFar sc s h
so_far sc s [] b right = record {
  its = λ i x at. absurd (no_try i x at);
  all = λ t its. absurd (no_try t s its);
  rise = λ i k x y at_i at_k lt. absurd (no_try i x at_i);
  blocks = λ i x at. absurd (no_try i x at);
  first = λ x at. absurd (no_try 1 x at);
  over = λ i x y at_i at_k. absurd (no_try i x at_i);
  next = λ i x y at_i at_k. absurd (no_try i x at_i);
}
so_far sc s (e ∷ h) b right =
    let earlier = begun_before sc.f (length sc.scripts) e h b in
    at_entry sc s e.caller h (kept sc.f (length sc.scripts) h earlier) (so_far sc s h earlier right.0) e.event b right
