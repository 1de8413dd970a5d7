-- A try's statements follow its block, call by call.
use Rattle.std.proofs.Common.{◌≡◌, ℕ, Bool, true, false, ◌||◌, Some, None, List, [], ◌∷◌, ◌++◌, length, refl, ap, sym, ◌∙◌, subst, arith, append-nil}
use Rattle.std.specs.Prelude.{slice_get}
use Rattle.hr_rel.specs.declared.stmt.Stmt.{Stmt}
use Rattle.hr_said.specs.declared.scenario.Block.{Block}
use Rattle.hr_history.specs.declared.phase.Phase.{Phase}
use Rattle.hr_history.specs.declared.phase.Phase.TheVariants as phase
use Rattle.hr_history.specs.Transactions.{is_asked, is_logged}
use Rattle.hr_records.specs.AtReplica.{Begins}
use Rattle.hr_records.proofs.Options.{same_some, some_none}

-- The statements are the first of the block, in their order, and all of them where the transaction has come to its end.
pub record OfBlock (block : Block) (stmts : List Stmt) (stands : Phase) : Type 0 where
  pub front : Begins stmts block.stmts
  pub commits : (is_asked stands || is_logged stands) ≡ true → (stmts ≡ block.stmts) × (block.commits ≡ true)
  pub rolls_back : stands ≡ phase.RolledBack → (stmts ≡ block.stmts) × (block.commits ≡ false)

-- ---- the front of a list

abbrev tail : {X : Type 0} → List X → List X
tail [] = []
tail (x ∷ xs) = xs

abbrev head : {X : Type 0} → X → List X → X
head d [] = d
head d (x ∷ xs) = x

pub longer : {X : Type 0} (xs ys : List X) (y : X) → Begins xs ys → slice_get ys (length xs) ≡ Some y → Begins (xs ++ y ∷ []) ys
longer [] [] y front at = absurd (some_none y (sym at))
longer [] (z ∷ ys) y front at = (ys, ap (λ u. u ∷ ys) (sym (same_some z y at)))
longer (x ∷ xs) [] y front at = absurd (some_none y (sym at))
longer (x ∷ xs) (z ∷ ys) y front at =
    let rest = longer xs ys y (front.0, ap tail front.1) at in
    (rest.0, ap (λ l. x ∷ l) rest.1 ∙ ap (λ u. u ∷ ys) (ap (head x) front.1))

pub whole : {X : Type 0} (xs ys : List X) → Begins xs ys → slice_get ys (length xs) ≡ None → xs ≡ ys
whole xs ys front none = by_rest front.0 front.1
  where
    past : {X : Type 0} (xs : List X) (y : X) (rest : List X) → slice_get (xs ++ y ∷ rest) (length xs) ≡ Some y
    past [] y rest = refl
    past (x ∷ xs) y rest = past xs y rest

    by_rest : (rest : List _) → xs ++ rest ≡ ys → xs ≡ ys
    by_rest [] is = sym (append-nil xs) ∙ is
    by_rest (y ∷ rest) is = absurd (some_none y (sym (past xs y rest) ∙ ap (λ l. slice_get l (length xs)) is ∙ none))

-- ---- call by call

no : (b : Bool) → b ≡ false → b ≡ true → ⊥
no b e d = cc

pub at_begin : (block : Block) (stmts : List Stmt) (p : Phase) → length stmts ≡ 0 → p ≡ phase.Active → OfBlock block stmts p
at_begin block [] p none active = record {
  front = (block.stmts, refl);
  commits = λ asked. absurd (no (is_asked p || is_logged p) (ap (λ q. is_asked q || is_logged q) active) asked);
  rolls_back = λ is. absurd (active_not_back (sym active ∙ is));
}
  where
    active_not_back : phase.Active ≡ phase.RolledBack → ⊥
    active_not_back e = cc
at_begin block (x ∷ stmts) p none active = absurd (omega (arith, none))

pub at_submit : (block : Block) (stmts : List Stmt) (p : Phase) (stmt : Stmt) → p ≡ phase.Active → slice_get block.stmts (length stmts) ≡ Some stmt → OfBlock block stmts p → OfBlock block (stmts ++ stmt ∷ []) p
at_submit block stmts p stmt active at so = record {
  front = longer stmts block.stmts stmt so.front at;
  commits = λ asked. absurd (no (is_asked p || is_logged p) (ap (λ q. is_asked q || is_logged q) active) asked);
  rolls_back = λ is. absurd (active_not_back (sym active ∙ is));
}
  where
    active_not_back : phase.Active ≡ phase.RolledBack → ⊥
    active_not_back e = cc

pub at_ask : (block : Block) (stmts : List Stmt) (p : Phase) (n : ℕ) → slice_get block.stmts (length stmts) ≡ None → block.commits ≡ true → OfBlock block stmts p → OfBlock block stmts (phase.Asked n)
at_ask block stmts p n none commits so = record {
  front = so.front;
  commits = λ asked. (whole stmts block.stmts so.front none, commits);
  rolls_back = λ is. absurd (asked_not_back is);
}
  where
    asked_not_back : phase.Asked n ≡ phase.RolledBack → ⊥
    asked_not_back e = cc

pub at_rollback : (block : Block) (stmts : List Stmt) (p : Phase) → slice_get block.stmts (length stmts) ≡ None → block.commits ≡ false → OfBlock block stmts p → OfBlock block stmts phase.RolledBack
at_rollback block stmts p none commits so = record {
  front = so.front;
  commits = λ asked. absurd (no false refl asked);
  rolls_back = λ is. (whole stmts block.stmts so.front none, commits);
}

pub at_decide : (block : Block) (stmts : List Stmt) (p : Phase) (place : ℕ) → is_asked p ≡ true → OfBlock block stmts p → OfBlock block stmts (phase.Logged place)
at_decide block stmts p place asked so = record {
  front = so.front;
  commits = λ logged. so.commits (ap (λ b. b || is_logged p) asked);
  rolls_back = λ is. absurd (logged_not_back is);
}
  where
    logged_not_back : phase.Logged place ≡ phase.RolledBack → ⊥
    logged_not_back e = cc

pub at_refuse : (block : Block) (stmts : List Stmt) (p : Phase) → OfBlock block stmts p → OfBlock block stmts phase.Refused
at_refuse block stmts p so = record {
  front = so.front;
  commits = λ asked. absurd (no false refl asked);
  rolls_back = λ is. absurd (refused_not_back is);
}
  where
    refused_not_back : phase.Refused ≡ phase.RolledBack → ⊥
    refused_not_back e = cc

pub as_before : (block : Block) (stmts now : List Stmt) (p q : Phase) → now ≡ stmts → q ≡ p → OfBlock block stmts p → OfBlock block now q
as_before block stmts now p q same_stmts same_phase so =
    subst (λ l. OfBlock block l q) (sym same_stmts) (subst (λ x. OfBlock block stmts x) (sym same_phase) so)
