-- When calls are refused: for the first of these that applies. Want of memory comes last and isn't among these.
use Rattle.std.specs.Prelude.{◌≡◌, ℕ, Bool, not, ◌&&◌, ◌||◌, nat_le, Option, Some, None, Result, Ok, Err, [], ◌∷◌, length}
use Rattle.hr_base.specs.Lists.{first_some, when}
use Rattle.hr_base.specs.declared.limits.TheConstants.{MAX_SUBMITS, MAX_STATEMENTS}
use Rattle.hr_history.specs.Transactions.{session_of, submits, submitted, phase_of, is_open}
use Rattle.hr_history.specs.Faithful.{has_open, owns, waits_for_reply}
use Rattle.hr_ledger.specs.Chronicle.{Chronicle, history_in}
use Rattle.hr_shepherd.specs.declared.refusal.Refusal.{Refusal}
use Rattle.hr_shepherd.specs.declared.refusal.Refusal.TheVariants as refusal

module _ (c : Chronicle) where
  -- a session can't begin a transaction: it has an open one
  abbrev pub refused_begin : ℕ → Option Refusal
  refused_begin session = when (has_open session (history_in c)) refusal.AlreadyOpen

  -- t is an open transaction of the caller's session
  abbrev pub is_own : ℕ → ℕ → Bool
  is_own caller t = owns c.f caller (session_of t (history_in c)) && is_open (phase_of t (history_in c))

  -- the session of t waits for a reply
  abbrev pub is_busy : ℕ → Bool
  is_busy t = waits_for_reply (session_of t (history_in c)) (history_in c)

  -- the history has as many statements as it may, or t has
  abbrev pub is_at_limit : ℕ → Bool
  is_at_limit t = nat_le MAX_SUBMITS (submitted (history_in c)) || nat_le MAX_STATEMENTS (length (submits t (history_in c)))

  -- a caller can't go on with t
  abbrev pub refused : ℕ → ℕ → Option Refusal
  refused caller t = first_some (when (not (is_own caller t)) refusal.NotOpen ∷ when (is_busy t) refusal.Busy ∷ [])

  -- nor submit a statement of it
  abbrev pub refused_submit : ℕ → ℕ → Option Refusal
  refused_submit caller t = first_some (when (not (is_own caller t)) refusal.NotOpen ∷ when (is_busy t) refusal.Busy ∷ when (is_at_limit t) refusal.StatementLimit ∷ [])

-- A call is refused for this, if for something; else at most for want of memory.
abbrev pub IsRefusedFor : {T : Type 0} → Option Refusal → Result T Refusal → Type 0
IsRefusedFor (Some why) (Ok x) = ⊥
IsRefusedFor (Some why) (Err given) = given ≡ why
IsRefusedFor None (Ok x) = Unit {0}
IsRefusedFor None (Err given) = given ≡ refusal.Memory
