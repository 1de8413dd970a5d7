-- Entries by who made them, and what they leave as it was.
use Rattle.std.specs.Prelude.{◌≡◌, ℕ, ◌≤◌, false, List, [], ◌∷◌, length}
use Rattle.hr_history.specs.declared.entry.Entry.{Entry}
use Rattle.hr_history.specs.History.{History, is_call}
use Rattle.hr_history.specs.Transactions.{begun, submits}
use Rattle.hr_history.specs.Replicas.{out_at, journal_of, call_at, next_out, next_journal}
use Rattle.hr_records.specs.Numbers.{IsBorn}

-- none of these entries is of this caller
abbrev pub AreOfOthers : ℕ → List Entry → Type 0
AreOfOthers caller [] = Unit {0}
AreOfOthers caller (e ∷ more) = (e.caller ≡ caller → ⊥) × AreOfOthers caller more

-- each of these entries is of this caller
abbrev pub AreOf : ℕ → List Entry → Type 0
AreOf caller [] = Unit {0}
AreOf caller (e ∷ more) = (e.caller ≡ caller) × AreOf caller more

-- none of these is a call: they follow from one
abbrev pub AreFollowUps : List Entry → Type 0
AreFollowUps [] = Unit {0}
AreFollowUps (e ∷ more) = (is_call e.event ≡ false) × AreFollowUps more

-- The job that is out at the replica, and its journal, are the same in both histories.
pub record IsSamePart (r : ℕ) (now before : History) : Type 0 where
  pub job : out_at r now ≡ out_at r before
  pub journal : journal_of r now ≡ journal_of r before

-- The replica's part is that of the history before, and what this one entry tells of it.
pub record IsPartWith (r : ℕ) (call : Entry) (now before : History) : Type 0 where
  pub job : out_at r now ≡ next_out r call.event (out_at r before)
  pub journal : journal_of r now ≡ next_journal (call_at r call.event before) (journal_of r before)

-- so many statements of the transaction have been submitted, at least
abbrev pub WasSubmitted : ℕ → ℕ → History → Type 0
WasSubmitted t i h = IsBorn (length (begun h)) t × (i ≤ length (submits t h))
