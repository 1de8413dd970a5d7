-- What every history keeps of numbers and phases, entry by entry.
use Rattle.std.proofs.Common.{◌≡◌, inl, inr, ℕ, ◌+◌, Bool, true, false, ◌==◌, if◌then◌else◌, Some, List, [], ◌∷◌, ◌++◌, length, refl, ap, sym, ◌∙◌, subst, arith, length-append}
use Rattle.std.proofs.lemmas.Bool.{eq-eqb, ne_eqb}
use Rattle.hr_rel.specs.declared.stmt.Stmt.{Stmt}
use Rattle.hr_history.specs.declared.entry.Event.TheVariants as event
use Rattle.hr_history.specs.declared.phase.Phase.{Phase}
use Rattle.hr_history.specs.declared.phase.Phase.TheVariants as phase
use Rattle.hr_history.specs.declared.reply.Reply.{Reply}
use Rattle.hr_history.specs.declared.reply.Reply.TheVariants as told
use Rattle.hr_history.specs.declared.cause.CauseAt.{CauseAt}
use Rattle.hr_history.specs.History.{History}
use Rattle.hr_history.specs.Transactions.{begun, session_of, log, asks, submits, next_submits, phase_of, is_open, is_asked}
use Rattle.hr_history.specs.Replicas.{out_at}
use Rattle.hr_history.specs.Primary.{is_some_of}
use Rattle.hr_history.specs.Given.{Given, given_to}
use Rattle.hr_history.specs.Replies.{ReplyState, NothingAsked, Waiting, Replied, reply_to, reply_if, is_waiting, is_of, cause_told}
use Rattle.hr_records.specs.Numbers.{IsBorn, IsBalanced, Numbers, NumbersAt}
use Rattle.hr_records.proofs.Places.{same_or_not, if_same, if_other, numbered_some}
use Rattle.hr_records.proofs.RuleLemmas.{asked_is_open}
use Rattle.hr_records.proofs.NumberSteps.{not_both, open_unlogged, settled_balance, given_le, begins, stays_out, is_logged}
use Rattle.hr_records.proofs.Allowed.{GoesOn}

-- a reply to one session
same_wait : (s q : ℕ) (x : ReplyState) → (q ≡ s → ⊥) → is_waiting (if q == s then Waiting else x) ≡ is_waiting x
same_wait s q x other = ap is_waiting (if_other q s Waiting x other)

replied : (r : Reply) (x : ReplyState) → is_waiting (reply_if true r x) ≡ false
replied r NothingAsked = refl
replied r Waiting = refl
replied r (Replied first) = refl

pub not_replied : (r : Reply) (x : ReplyState) → reply_if false r x ≡ x
not_replied r NothingAsked = refl
not_replied r Waiting = refl
not_replied r (Replied first) = refl

module _ (t s : ℕ) (h : History) (its : session_of t h ≡ Some s) where
  is_its : (q : ℕ) → is_of q t h ≡ (q == s)
  is_its q = ap (is_some_of q) its

  now_waits : (x : ReplyState) → is_waiting (if is_of s t h then Waiting else x) ≡ true
  now_waits x = ap (λ b. is_waiting (if b then Waiting else x)) (is_its s ∙ eq-eqb s s refl)

  waits_as_before : (q : ℕ) (x : ReplyState) → (q ≡ s → ⊥) → is_waiting (if is_of q t h then Waiting else x) ≡ is_waiting x
  waits_as_before q x other = ap (λ b. is_waiting (if b then Waiting else x)) (is_its q ∙ ne_eqb q s other)

  now_told : (r : Reply) (x : ReplyState) → is_waiting (reply_if (is_of s t h) r x) ≡ false
  now_told r x = ap (λ b. is_waiting (reply_if b r x)) (is_its s ∙ eq-eqb s s refl) ∙ replied r x

  pub told_as_before : (q : ℕ) (r : Reply) (x : ReplyState) → (q ≡ s → ⊥) → is_waiting (reply_if (is_of q t h) r x) ≡ is_waiting x
  told_as_before q r x other = ap (λ b. is_waiting (reply_if b r x)) (is_its q ∙ ne_eqb q s other) ∙ ap is_waiting (not_replied r x)

asked_unlogged : (n p : ℕ) → phase.Asked n ≡ phase.Logged p → ⊥
asked_unlogged n p e = open_unlogged (phase.Asked n) p refl e

rolled_unlogged : (p : ℕ) → phase.RolledBack ≡ phase.Logged p → ⊥
rolled_unlogged p e = cc

refused_unlogged : (p : ℕ) → phase.Refused ≡ phase.Logged p → ⊥
refused_unlogged p e = cc

-- numbers that end
ended_balance : (p : Phase) (s g : ℕ) (w z : Bool) → IsBalanced p s g w → IsBalanced phase.RolledBack s g z × IsBalanced phase.Refused s g z
ended_balance p s g w z b = let le = given_le p s g w b in (le, le)

decided_balance : (p : Phase) (s g : ℕ) (w z : Bool) (place : ℕ) → is_asked p ≡ true → IsBalanced p s g w → IsBalanced (phase.Logged place) s g z
decided_balance phase.Active s g w z place a b = cc
decided_balance (phase.Asked n) s g w z place a b = b.0
decided_balance (phase.Logged q) s g w z place a b = cc
decided_balance phase.RolledBack s g w z place a b = cc
decided_balance phase.Refused s g w z place a b = cc

module _ (h : History) (g : NumbersAt h) where
  -- what a Begin leaves as it was: the new number had nothing
  module _ (txn : ℕ) (next : txn ≡ length (begun h) + 1) where
    unborn : (t : ℕ) → txn ≡ t → IsBorn (length (begun h)) t → ⊥
    unborn t e born = omega (arith, next, e, born.1)

    pub phase_at_begin : (t : ℕ) → (if txn == t then phase.Active else phase_of t h) ≡ phase_of t h
    phase_at_begin t = elim (same_or_not txn t) [
      | inl same ↦ (if_same txn t phase.Active (phase_of t h) same ∙ sym (g.unborn t (unborn t same)).0)
      | inr other ↦ if_other txn t phase.Active (phase_of t h) other
    ]

    pub submits_at_begin : (t : ℕ) → (if txn == t then [] else submits t h) ≡ submits t h
    submits_at_begin t = elim (same_or_not txn t) [
      | inl same ↦ (if_same txn t [] (submits t h) same ∙ sym (nothing (submits t h) (g.unborn t (unborn t same)).1))
      | inr other ↦ if_other txn t [] (submits t h) other
    ]
      where
        nothing : (xs : List Stmt) → length xs ≡ 0 → xs ≡ []
        nothing [] e = refl
        nothing (x ∷ xs) e = absurd (omega (arith, e))

    pub given_at_begin : (t : ℕ) → (if txn == t then [] else given_to t h) ≡ given_to t h
    given_at_begin t = elim (same_or_not txn t) [
      | inl same ↦ (if_same txn t [] (given_to t h) same ∙ sym (nothing (given_to t h) (g.unborn t (unborn t same)).2))
      | inr other ↦ if_other txn t [] (given_to t h) other
    ]
      where
        nothing : (xs : List Given) → length xs ≡ 0 → xs ≡ []
        nothing [] e = refl
        nothing (x ∷ xs) e = absurd (omega (arith, e))

  pub at_begin : (c session txn : ℕ) → txn ≡ length (begun h) + 1 → ((t : ℕ) → session_of t h ≡ Some session → is_open (phase_of t h) ≡ true → ⊥) → NumbersAt (record { caller = c; event = event.Begin session txn } ∷ h)
  at_begin c session txn next none =
      let same : Numbers (begun h ++ session ∷ []) (λ t. phase_of t h) (log h) (λ t. length (submits t h)) (λ t. length (given_to t h)) (λ s. is_waiting (reply_to s h)) (λ r. out_at r h) =
      begins g session none in
      let path : (λ t. phase_of t h) ≡ (λ t. if txn == t then phase.Active else phase_of t h) = λ i t. sym (phase_at_begin txn next t) i in
      let subs : (λ t. length (submits t h)) ≡ (λ t. length (if txn == t then [] else submits t h)) = λ i t. length (sym (submits_at_begin txn next t) i) in
      let givs : (λ t. length (given_to t h)) ≡ (λ t. length (if txn == t then [] else given_to t h)) = λ i t. length (sym (given_at_begin txn next t) i) in
      subst (λ p. Numbers (begun h ++ session ∷ []) p (log h) (λ t. length (if txn == t then [] else submits t h)) (λ t. length (if txn == t then [] else given_to t h)) (λ s. is_waiting (reply_to s h)) (λ r. out_at r h)) path
      (subst (λ n. Numbers (begun h ++ session ∷ []) (λ t. phase_of t h) (log h) n (λ t. length (if txn == t then [] else given_to t h)) (λ s. is_waiting (reply_to s h)) (λ r. out_at r h)) subs
      (subst (λ n. Numbers (begun h ++ session ∷ []) (λ t. phase_of t h) (log h) (λ t. length (submits t h)) n (λ s. is_waiting (reply_to s h)) (λ r. out_at r h)) givs same))

  length_more : (b : Bool) (t : ℕ) (stmt : Stmt) → b ≡ true → length (if b then submits t h ++ stmt ∷ [] else submits t h) ≡ length (submits t h) + 1
  length_more true t stmt e = length-append (submits t h) (stmt ∷ [])
  length_more false t stmt e = cc

  -- while its session waits for nothing
  idle_balance : (txn : ℕ) (on : GoesOn txn h) → IsBalanced (phase_of txn h) (length (submits txn h)) (length (given_to txn h)) false
  idle_balance txn on = subst (λ w. IsBalanced (phase_of txn h) (length (submits txn h)) (length (given_to txn h)) w) on.idle (g.balance txn on.session on.its)

  pub at_submit : (c txn index : ℕ) (stmt : Stmt) → GoesOn txn h → NumbersAt (record { caller = c; event = event.Submit txn index stmt } ∷ h)
  at_submit c txn index stmt on =
      let s = on.session in
      let more = length_more (txn == txn) txn stmt (eq-eqb txn txn refl) in
      let idle = idle_balance txn on in
      stays_out g
      txn s on.its on.is_open (λ t. phase_of t h) (λ t. length (next_submits t (event.Submit txn index stmt) (submits t h))) (λ t. length (given_to t h)) (λ q. is_waiting (if is_of q txn h then Waiting else reply_to q h))
      (λ t other. refl) (λ t other. ap length (if_other txn t _ (submits t h) other)) (λ t other. refl) (λ q other. waits_as_before txn s h on.its q (reply_to q h) other)
      (λ place e. open_unlogged (phase_of txn h) place on.is_open e) (omega (arith, more))
      (active (phase_of txn h) _ _ _ _ on.is_open (now_waits txn s h on.its (reply_to s h)) idle (settled_balance (phase_of txn h) _ _ on.is_open idle) more)
    where
      active : (p : Phase) (a b now : ℕ) (w : Bool) → is_open p ≡ true → w ≡ true → IsBalanced p a b false → a ≡ b → now ≡ a + 1 → IsBalanced p now b w
      active phase.Active a b now w o waits was e more = (omega (arith, e, more), omega (arith, e, more), λ idle. absurd (not_both w waits idle))
      active (phase.Asked n) a b now w o waits was e more = absurd (not_both false was.1 refl)
      active (phase.Logged place) a b now w o waits was e more = cc
      active phase.RolledBack a b now w o waits was e more = cc
      active phase.Refused a b now w o waits was e more = cc

  pub at_ask : (c txn : ℕ) → GoesOn txn h → NumbersAt (record { caller = c; event = event.AskCommit txn } ∷ h)
  at_ask c txn on =
      let s = on.session in
      let end = phase.Asked (asks h + 1) in
      let now : (if txn == txn then end else phase_of txn h) ≡ end = if_same txn txn end (phase_of txn h) refl in
      stays_out g
      txn s on.its on.is_open (λ t. if txn == t then end else phase_of t h) (λ t. length (submits t h)) (λ t. length (given_to t h)) (λ q. is_waiting (if is_of q txn h then Waiting else reply_to q h))
      (λ t other. if_other txn t end (phase_of t h) other) (λ t other. refl) (λ t other. refl) (λ q other. waits_as_before txn s h on.its q (reply_to q h) other)
      (λ place e. asked_unlogged (asks h + 1) place (sym now ∙ e))
      (omega arith)
      (subst (λ p. IsBalanced p (length (submits txn h)) (length (given_to txn h)) (is_waiting (if is_of s txn h then Waiting else reply_to s h))) (sym now)
      (settled_balance (phase_of txn h) _ _ on.is_open (idle_balance txn on), now_waits txn s h on.its (reply_to s h)))

  -- a transaction ends, rolled back or refused
  ends : (txn s : ℕ) → session_of txn h ≡ Some s → is_open (phase_of txn h) ≡ true → (end : Phase) → ((place : ℕ) → end ≡ phase.Logged place → ⊥)
      → ((a b : ℕ) (w z : Bool) → IsBalanced (phase_of txn h) a b w → IsBalanced end a b z)
      → (waits : ℕ → Bool) → ((q : ℕ) → (q ≡ s → ⊥) → waits q ≡ is_waiting (reply_to q h))
      → Numbers (begun h) (λ t. if txn == t then end else phase_of t h) (log h) (λ t. length (submits t h)) (λ t. length (given_to t h)) waits (λ r. out_at r h)
  ends txn s its o end unlogged balanced waits same =
      let now : (if txn == txn then end else phase_of txn h) ≡ end = if_same txn txn end (phase_of txn h) refl in
      stays_out g
      txn s its o (λ t. if txn == t then end else phase_of t h) (λ t. length (submits t h)) (λ t. length (given_to t h)) waits
      (λ t other. if_other txn t end (phase_of t h) other) (λ t other. refl) (λ t other. refl) same
      (λ place e. unlogged place (sym now ∙ e))
      (omega arith)
      (subst (λ p. IsBalanced p (length (submits txn h)) (length (given_to txn h)) (waits s)) (sym now) (balanced _ _ _ (waits s) (g.balance txn s its)))

  pub at_rollback : (c txn : ℕ) → GoesOn txn h → NumbersAt (record { caller = c; event = event.AskRollback txn } ∷ h)
  at_rollback c txn on =
      ends txn on.session on.its on.is_open phase.RolledBack rolled_unlogged (λ a b w z bal. (ended_balance (phase_of txn h) a b w z bal).0) (λ q. is_waiting (reply_to q h)) (λ q other. refl)

  pub at_refuse : (c txn : ℕ) (x : CauseAt) → IsBorn (length (begun h)) txn → is_open (phase_of txn h) ≡ true → NumbersAt (record { caller = c; event = event.Refuse txn x } ∷ h)
  at_refuse c txn x born o =
      let session = numbered_some (begun h) txn born in
      ends txn session.0 session.1 o phase.Refused refused_unlogged (λ a b w z bal. (ended_balance (phase_of txn h) a b w z bal).1)
      (λ q. is_waiting (reply_if (is_of q txn h) (told.Refused (cause_told txn x h)) (reply_to q h)))
      (λ q other. told_as_before txn session.0 h session.1 q (told.Refused (cause_told txn x h)) (reply_to q h) other)

  pub at_decide : (c txn : ℕ) → IsBorn (length (begun h)) txn → is_asked (phase_of txn h) ≡ true → NumbersAt (record { caller = c; event = event.Decide txn } ∷ h)
  at_decide c txn born asked =
      let session = numbered_some (begun h) txn born in
      let s = session.0 in
      let its : session_of txn h ≡ Some s = session.1 in
      let o = asked_is_open (phase_of txn h) asked in
      let end = phase.Logged (length (log h) + 1) in
      let r = told.Committed (length (log h) + 1) in
      let now : (if txn == txn then end else phase_of txn h) ≡ end = if_same txn txn end (phase_of txn h) refl in
      is_logged g
      txn s its o (λ t. if txn == t then end else phase_of t h) (λ t. length (submits t h)) (λ t. length (given_to t h)) (λ q. is_waiting (reply_if (is_of q txn h) r (reply_to q h)))
      (λ t other. if_other txn t end (phase_of t h) other) (λ t other. refl) (λ t other. refl) (λ q other. told_as_before txn s h its q r (reply_to q h) other)
      now (omega arith)
      (subst (λ p. IsBalanced p (length (submits txn h)) (length (given_to txn h)) (is_waiting (reply_if (is_of s txn h) r (reply_to s h)))) (sym now)
      (decided_balance (phase_of txn h) (length (submits txn h)) (length (given_to txn h)) (is_waiting (reply_to s h)) (is_waiting (reply_if (is_of s txn h) r (reply_to s h))) (length (log h) + 1) asked (g.balance txn s its)))
