-- A try's calls are the first of those that its block says, call by call.
use Rattle.std.proofs.Common.{◌≡◌, ℕ, ◌+◌, Bool, true, false, List, [], ◌∷◌, ◌++◌, length, refl, ap, sym, ◌∙◌, subst, arith, append-nil}
use Rattle.std.proofs.lemmas.List.{append_assoc}
use Rattle.hr_rel.specs.declared.stmt.Stmt.{Stmt}
use Rattle.hr_said.specs.declared.scenario.Block.{Block}
use Rattle.hr_history.specs.declared.entry.Event.{Event}
use Rattle.hr_history.specs.declared.entry.Event.TheVariants as event
use Rattle.hr_history.specs.declared.phase.Phase.{Phase}
use Rattle.hr_history.specs.declared.phase.Phase.TheVariants as phase
use Rattle.hr_history.specs.Transactions.{is_asked}
use Rattle.hr_records.specs.AtReplica.{Begins}
use Rattle.hr_schedule.specs.Scripts.{end_call}
use Rattle.hr_scripted.specs.Calls.{submits_from, block_calls}

-- whether the session has asked for the transaction's end
abbrev pub was_ended : Phase → Bool
was_ended phase.Active = false
was_ended (phase.Asked n) = true
was_ended (phase.Logged place) = true
was_ended phase.RolledBack = true
was_ended phase.Refused = false

-- Of transaction t of session s, of a block, and of the transaction's calls and statements: the calls are the first that the
-- block says; all of them once its end was asked for; and while it is active they are a Begin and the statements.
pub record IsCalled (s t : ℕ) (block : Block) (calls : List Event) (stmts : List Stmt) (stands : Phase) : Type 0 where
  pub front : Begins calls (block_calls s t block)
  pub active : stands ≡ phase.Active → calls ≡ event.Begin s t ∷ submits_from 1 t stmts
  pub whole : was_ended stands ≡ true → calls ≡ block_calls s t block

no : (b : Bool) → b ≡ false → b ≡ true → ⊥
no b e d = cc

never : (p : Phase) → was_ended p ≡ true → p ≡ phase.Active → ⊥
never p ended active = no (was_ended p) (ap was_ended active) ended

submits_joined : (i t : ℕ) (xs ys : List Stmt) → submits_from i t (xs ++ ys) ≡ submits_from i t xs ++ submits_from (i + length xs) t ys
submits_joined i t [] ys = ap (λ n. submits_from n t ys) (omega arith)
submits_joined i t (x ∷ xs) ys =
    ap (λ l. event.Submit t i x ∷ l) (submits_joined (i + 1) t xs ys ∙ ap (λ n. submits_from (i + 1) t xs ++ submits_from n t ys) (omega arith))

-- a Begin and the first statements of the block are the first that it says
front_of : (s t : ℕ) (block : Block) (calls : List Event) (stmts : List Stmt) → Begins stmts block.stmts → calls ≡ event.Begin s t ∷ submits_from 1 t stmts → Begins calls (block_calls s t block)
front_of s t block calls stmts front are =
    let end = end_call block.commits t ∷ [] in (
      submits_from (1 + length stmts) t front.0 ++ end,
      ap (λ (l : List Event). l ++ (submits_from (1 + length stmts) t front.0 ++ end)) are
          ∙ ap (λ (l : List Event). event.Begin s t ∷ l)
          (sym (append_assoc (submits_from 1 t stmts) (submits_from (1 + length stmts) t front.0) end)
          ∙ ap (λ (l : List Event). l ++ end) (sym (submits_joined 1 t stmts front.0) ∙ ap (λ (l : List Stmt). submits_from 1 t l) front.1)),
    )

pub called_begin : (s t : ℕ) (block : Block) (calls : List Event) (stmts : List Stmt) (p : Phase) → p ≡ phase.Active → stmts ≡ [] → calls ≡ event.Begin s t ∷ [] → IsCalled s t block calls stmts p
called_begin s t block calls stmts p active none are =
    let begun : calls ≡ event.Begin s t ∷ submits_from 1 t stmts = are ∙ ap (λ (l : List Stmt). event.Begin s t ∷ submits_from 1 t l) (sym none) in
    record { front = front_of s t block calls stmts (block.stmts, ap (λ (l : List Stmt). l ++ block.stmts) none) begun; active = λ is. begun; whole = λ ended. absurd (never p ended active) }

pub called_submit : (s t index : ℕ) (block : Block) (calls : List Event) (stmts : List Stmt) (stmt : Stmt) (p : Phase) → p ≡ phase.Active → index ≡ length stmts + 1 → Begins (stmts ++ stmt ∷ []) block.stmts → IsCalled s t block calls stmts p
    → IsCalled s t block (calls ++ event.Submit t index stmt ∷ []) (stmts ++ stmt ∷ []) p
called_submit s t index block calls stmts stmt p active at front so =
    let now : (calls ++ event.Submit t index stmt ∷ []) ≡ event.Begin s t ∷ submits_from 1 t (stmts ++ stmt ∷ []) =
    ap (λ (l : List Event). l ++ event.Submit t index stmt ∷ []) (so.active active)
    ∙ ap (λ n. event.Begin s t ∷ (submits_from 1 t stmts ++ event.Submit t n stmt ∷ [])) (omega (arith, at))
    ∙ ap (λ (l : List Event). event.Begin s t ∷ l) (sym (submits_joined 1 t stmts (stmt ∷ []))) in
    record { front = front_of s t block (calls ++ event.Submit t index stmt ∷ []) (stmts ++ stmt ∷ []) front now; active = λ is. now; whole = λ ended. absurd (never p ended active) }

pub called_end : (s t : ℕ) (block : Block) (calls : List Event) (stmts : List Stmt) (e : Event) (p q : Phase) → p ≡ phase.Active → was_ended q ≡ true → stmts ≡ block.stmts → end_call block.commits t ≡ e → IsCalled s t block calls stmts p
    → IsCalled s t block (calls ++ e ∷ []) stmts q
called_end s t block calls stmts e p q active ended all end so =
    let now : (calls ++ e ∷ []) ≡ block_calls s t block =
    ap (λ (l : List Event). l ++ e ∷ []) (so.active active)
    ∙ ap (λ (l : List Stmt). event.Begin s t ∷ (submits_from 1 t l ++ e ∷ [])) all
    ∙ ap (λ x. event.Begin s t ∷ (submits_from 1 t block.stmts ++ x ∷ [])) (sym end) in
    record { front = ([], append-nil (calls ++ e ∷ []) ∙ now); active = λ is. absurd (never q ended is); whole = λ is. now }

pub called_decide : (s t : ℕ) (block : Block) (calls : List Event) (stmts : List Stmt) (p : Phase) (place : ℕ) → is_asked p ≡ true → IsCalled s t block calls stmts p → IsCalled s t block calls stmts (phase.Logged place)
called_decide s t block calls stmts p place asked so =
    record { front = so.front; active = λ is. absurd (never (phase.Logged place) refl is); whole = λ is. so.whole (asked_ended p asked) }
  where
    asked_ended : (p : Phase) → is_asked p ≡ true → was_ended p ≡ true
    asked_ended phase.Active a = cc
    asked_ended (phase.Asked n) a = refl
    asked_ended (phase.Logged n) a = refl
    asked_ended phase.RolledBack a = refl
    asked_ended phase.Refused a = cc

pub called_refuse : (s t : ℕ) (block : Block) (calls : List Event) (stmts : List Stmt) (p : Phase) → IsCalled s t block calls stmts p → IsCalled s t block calls stmts phase.Refused
called_refuse s t block calls stmts p so =
    record { front = so.front; active = λ is. absurd (refused_not_active is); whole = λ ended. absurd (no false refl ended) }
  where
    refused_not_active : phase.Refused ≡ phase.Active → ⊥
    refused_not_active e = cc

pub called_as_before : (s t : ℕ) (block : Block) (calls calls_now : List Event) (stmts stmts_now : List Stmt) (p q : Phase) → calls_now ≡ calls → stmts_now ≡ stmts → q ≡ p → IsCalled s t block calls stmts p → IsCalled s t block calls_now stmts_now q
called_as_before s t block calls calls_now stmts stmts_now p q c e d so =
    subst (λ l. IsCalled s t block l stmts_now q) (sym c) (subst (λ l. IsCalled s t block calls l q) (sym e) (subst (λ x. IsCalled s t block calls stmts x) (sym d) so))
