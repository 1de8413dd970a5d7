-- What the end of a transaction does, place by place.
use Rattle.std.proofs.Common.{◌≡◌, ℕ, Bool, true, false, ◌||◌, if◌then◌else◌, Option, Some, None, List, refl, ap, sym, ◌∙◌}
use Rattle.hr_store.specs.declared.cell.Cell.{Cell}
use Rattle.hr_store.specs.declared.ending.Ending.{Ending}
use Rattle.hr_store.specs.declared.ending.Ending.TheVariants.{Commit, Rollback}
use Rattle.std.proofs.lemmas.Bool.{eq-eqb}
use Rattle.hr_rel.specs.declared.value.Value.{Value}
use Rattle.hr_store.specs.declared.cell.Pending.{Pending}
use Rattle.hr_store.specs.Cells.{is_of, is_pending_of, closed, ended, forgotten}

module _ (e : Ending) (txn : ℕ) where
  closed_pending : (d : Ending) (c : Cell) → is_pending_of txn (closed d c) ≡ false
  closed_pending Commit c = refl
  closed_pending Rollback c = refl

  pending_by : (b : Bool) (c : Cell) → is_pending_of txn c ≡ b → is_pending_of txn (if b then closed e c else c) ≡ false
  pending_by true c h = closed_pending e c
  pending_by false c h = h

  -- after the end nothing is pending of the transaction
  pub ended_pending : (c : Cell) → is_pending_of txn (ended e txn c) ≡ false
  ended_pending c = pending_by (is_pending_of txn c) c refl

  -- the end changes only what is pending of the transaction
  pub not_pending_ended : (c : Cell) → is_pending_of txn c ≡ false → ended e txn c ≡ c
  not_pending_ended c h = ap (λ b. if b then closed e c else c) h

  ended_again : (c : Cell) → ended e txn (ended e txn c) ≡ ended e txn c
  ended_again c = not_pending_ended (ended e txn c) (ended_pending c)

  pub step_same : (b : Bool) (new cur : Cell) → new ≡ (if b then ended e txn cur else cur) → ended e txn new ≡ ended e txn cur
  step_same true new cur h = ap (ended e txn) h ∙ ended_again cur
  step_same false new cur h = ap (ended e txn) h

  pub step_listed : (b rest : Bool) (new cur : Cell) → new ≡ (if b then ended e txn cur else cur) → (is_pending_of txn cur ≡ true → (b || rest) ≡ true) → is_pending_of txn new ≡ true → rest ≡ true
  step_listed true rest new cur h listed pending = cc (sym (ap (is_pending_of txn) h ∙ ended_pending cur) ∙ pending)
  step_listed false rest new cur h listed pending = listed (sym (ap (is_pending_of txn) h) ∙ pending)

  done_by : (b : Bool) (c : Cell) → is_pending_of txn c ≡ b → (b ≡ true → false ≡ true) → ended e txn c ≡ c
  done_by true c h none = cc (none refl)
  done_by false c h none = not_pending_ended c h

  -- where nothing is pending of the transaction, it has ended
  pub nothing_left : (c : Cell) → (is_pending_of txn c ≡ true → false ≡ true) → ended e txn c ≡ c
  nothing_left c none = done_by (is_pending_of txn c) c refl none

forgotten_by : (txn : ℕ) (b : Bool) (c : Cell) → forgotten (if b then closed Rollback c else c) ≡ forgotten c
forgotten_by txn true c = refl
forgotten_by txn false c = refl

-- a rollback changes nothing that is left after all are
pub forgotten_ended : (txn : ℕ) (c : Cell) → forgotten (ended Rollback txn c) ≡ forgotten c
forgotten_ended txn c = forgotten_by txn (is_pending_of txn c) c

no_pending : (committed : Option (List Value)) (pending : Option Pending) → ((u : ℕ) → is_of u pending ≡ true → false ≡ true)
    → ◌≡◌ {A = Cell} (record { committed = committed; pending = None }) (record { committed = committed; pending = pending })
no_pending committed None h = refl
no_pending committed (Some p) h = cc (h p.txn (eq-eqb p.txn p.txn refl))

-- where nothing is pending of any transaction, nothing is pending
pub nothing_pending : (c : Cell) → ((u : ℕ) → is_pending_of u c ≡ true → false ≡ true) → forgotten c ≡ c
nothing_pending c h = no_pending c.committed c.pending h
