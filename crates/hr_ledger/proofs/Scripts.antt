-- The statements of transactions, by their places.
use Rattle.std.proofs.Common.{◌≡◌, ℕ, zero, suc, ◌+◌, ◌-◌, ◌<◌, ◌≤◌, Bool, true, false, ◌==◌, if◌then◌else◌, Option, Some, None, List, [], ◌∷◌, ◌++◌, length, map, slice_get, slice_set, refl, ap, sym, ◌∙◌, subst, arith}
use Rattle.std.specs.Option.{option_map}
use Rattle.std.proofs.lemmas.Bool.{eq-eqb, ne_eqb, eqb-true}
use Rattle.std.proofs.lemmas.List.{map-append, length-map}
use Rattle.hr_history.specs.History.{History}
use Rattle.hr_history.specs.Transactions.{begun}
use Rattle.hr_history.specs.View.{View, view_of}
use Rattle.hr_moves.specs.Fits.{IsOpen}
use Rattle.hr_records.proofs.ViewWords.{open_seen}
use Rattle.hr_rel.specs.declared.stmt.Stmt.{Stmt}
use Rattle.hr_base.specs.Lists.{numbered}
use Rattle.hr_moves.specs.Changes.{map_from, change_at}
use Rattle.hr_progress.proofs.Changed.{changed_here, unchanged_else, got_from}
use Rattle.hr_progress.proofs.Lookups.{numbered_at}
use Rattle.hr_progress.proofs.Parts.{numbered_map}
use Rattle.hr_records.proofs.Options.{same_some}
use Rattle.hr_ledger.specs.declared.script.Script.{Script}
use Rattle.hr_ledger.specs.Kept.{PlainScript, plain_script, session_in, places_of, places_in, and_place, at_places, Extends, IsRoomy, HasRoom}
use Rattle.hr_ledger.proofs.Extended.{places_kept, last_is, extends_one}

-- ---- with one more, which has no statement

numbered_end : (xs : List PlainScript) (x : PlainScript) (n : ℕ) → (n ≡ length xs → ⊥) → slice_get (xs ++ x ∷ []) n ≡ slice_get xs n
numbered_end [] x zero h = absurd (h refl)
numbered_end [] x (suc n) h = refl
numbered_end (y ∷ xs) x zero h = refl
numbered_end (y ∷ xs) x (suc n) h = numbered_end xs x n (λ e. h (ap (λ k. suc k) e))

pub places_new : (xs : List PlainScript) (x : PlainScript) → x.places ≡ [] → places_in (xs ++ x ∷ []) (length xs + 1) ≡ []
places_new xs x none =
    let same : length xs + 1 ≡ suc (length xs) = omega arith in
    ap (places_in (xs ++ x ∷ [])) same ∙ ap places_of (last_is xs x) ∙ none

pub places_others : (xs : List PlainScript) (x : PlainScript) (t : ℕ) → (t ≡ length xs + 1 → ⊥) → places_in (xs ++ x ∷ []) t ≡ places_in xs t
places_others xs x zero h = refl
places_others xs x (suc n) h = ap places_of (numbered_end xs x n (λ e. h (omega (arith, e))))

-- ---- with one statement more

module _ (at : ℕ) (t : ℕ) (xs : List PlainScript) where
  abbrev changed : List PlainScript
  changed = map_from (change_at t (and_place at)) 1 xs

  numbered_changed : (u : ℕ) → numbered changed u ≡ option_map (change_at t (and_place at) u) (numbered xs u)
  numbered_changed zero = refl
  numbered_changed (suc n) = got_from (change_at t (and_place at)) 1 n (suc n) xs (omega arith)

  mapped_other : (u : ℕ) (o : Option PlainScript) → (u ≡ t → ⊥) → places_of (option_map (change_at t (and_place at) u) o) ≡ places_of o
  mapped_other u None h = refl
  mapped_other u (Some s) h = ap (λ (x : PlainScript). x.places) (unchanged_else t u (and_place at) s h)

  pub changed_other : (u : ℕ) → (u ≡ t → ⊥) → places_in changed u ≡ places_in xs u
  changed_other u h = ap places_of (numbered_changed u) ∙ mapped_other u (numbered xs u) h

  mapped_here : (o : Option PlainScript) (s : PlainScript) → o ≡ Some s → places_of (option_map (change_at t (and_place at) t) o) ≡ places_of o ++ at ∷ []
  mapped_here None s h = cc h
  mapped_here (Some x) s h = ap (λ (y : PlainScript). y.places) (changed_here t t (and_place at) x refl)

  there : (n : ℕ) (ys : List PlainScript) → n < length ys → (s : PlainScript) × (slice_get ys n ≡ Some s)
  there n [] h = absurd (omega (arith, h))
  there zero (y ∷ ys) h = (y, refl)
  there (suc n) (y ∷ ys) h = there n ys (omega (arith, h))

  known : (u : ℕ) → 1 ≤ u → u ≤ length xs → (s : PlainScript) × (numbered xs u ≡ Some s)
  known zero low high = absurd (omega (arith, low))
  known (suc n) low high = there n xs (omega (arith, high))

  pub changed_place : 1 ≤ t → t ≤ length xs → places_in changed t ≡ places_in xs t ++ at ∷ []
  changed_place low high = let s = known t low high in ap places_of (numbered_changed t) ∙ mapped_here (numbered xs t) s.0 s.1

  sessions_from : (n : ℕ) (ys : List PlainScript) → map session_in (map_from (change_at t (and_place at)) n ys) ≡ map session_in ys
  sessions_from n [] = refl
  sessions_from n (y ∷ ys) = λ i. by_test (n == t) y i ∷ sessions_from (n + 1) ys i
    where
      by_test : (b : Bool) (z : PlainScript) → (if b then and_place at z else z).session ≡ z.session
      by_test true z = refl
      by_test false z = refl

  pub changed_sessions : map session_in changed ≡ map session_in xs
  changed_sessions = sessions_from 1 xs

-- the statement that comes last stands where the last place says
pub place_last : (ss : List Stmt) (s : Stmt) (places : List ℕ) (stmts : List Stmt) → at_places ss places ≡ map Some stmts → at_places (ss ++ s ∷ []) (places ++ length ss ∷ []) ≡ map Some (stmts ++ s ∷ [])
place_last ss s places stmts h =
    map-append (slice_get (ss ++ s ∷ [])) places (length ss ∷ [])
    ∙ (λ i. places_kept ss (ss ++ s ∷ []) places stmts (extends_one ss s) h i ++ last_is ss s i ∷ [])
    ∙ sym (map-append Some stmts (s ∷ []))

-- ---- room

pub room_set : (xs : List Script) (i : ℕ) (y : Script) → i < length xs → IsRoomy (Some y) → HasRoom (slice_set xs i y) i
room_set [] i y h room = absurd (omega (arith, h))
room_set (x ∷ xs) zero y h room = room
room_set (x ∷ xs) (suc i) y h room = room_set xs i y (omega (arith, h)) room

-- ---- look-ups

found : (xs : List Script) (t : ℕ) (s : Script) → (t ≡ 0 → ⊥) → slice_get xs (t - 1) ≡ Some s → numbered (map plain_script xs) t ≡ Some (plain_script s)
found xs t s some at = numbered_map plain_script xs t ∙ ap (option_map plain_script) (numbered_at xs t some ∙ at)

missing : (xs : List Script) (t : ℕ) → (t ≡ 0 → ⊥) → slice_get xs (t - 1) ≡ None → numbered (map plain_script xs) t ≡ None
missing xs t some at = numbered_map plain_script xs t ∙ ap (option_map plain_script) (numbered_at xs t some ∙ at)

pub session_found : (xs : List Script) (t : ℕ) (s : Script) → (t ≡ 0 → ⊥) → slice_get xs (t - 1) ≡ Some s → Some s.session ≡ numbered (map session_in (map plain_script xs)) t
session_found xs t s some at = sym (numbered_map session_in (map plain_script xs) t ∙ ap (option_map session_in) (found xs t s some at))

pub session_missing : (xs : List Script) (t : ℕ) → (t ≡ 0 → ⊥) → slice_get xs (t - 1) ≡ None → None ≡ numbered (map session_in (map plain_script xs)) t
session_missing xs t some at = sym (numbered_map session_in (map plain_script xs) t ∙ ap (option_map session_in) (missing xs t some at))

pub place_found : (xs : List Script) (t i : ℕ) (s : Script) → (t ≡ 0 → ⊥) → (i ≡ 0 → ⊥) → slice_get xs (t - 1) ≡ Some s → slice_get s.statements.items (i - 1) ≡ numbered (places_in (map plain_script xs) t) i
place_found xs t i s some more at = sym (numbered_at s.statements.items i more) ∙ ap (λ o. numbered (places_of o) i) (sym (found xs t s some at))

none_numbered : (i : ℕ) → None ≡ numbered {X = ℕ} [] i
none_numbered zero = refl
none_numbered (suc i) = refl

pub place_missing : (xs : List Script) (t i : ℕ) → (t ≡ 0 → ⊥) → slice_get xs (t - 1) ≡ None → None ≡ numbered (places_in (map plain_script xs) t) i
place_missing xs t i some at = none_numbered i ∙ ap (λ o. numbered (places_of o) i) (sym (missing xs t some at))

-- the statement at the place of the one with this index
same_in : {X : Type 0} (x : Option X) (o : Option X) → Some x ≡ option_map (λ (y : X). Some y) o → x ≡ o
same_in x None e = cc e
same_in x (Some y) e = same_some x (Some y) e

pub placed : (ss : List Stmt) (ps : List ℕ) (stmts : List Stmt) (i p : ℕ) → at_places ss ps ≡ map Some stmts → numbered ps i ≡ Some p → slice_get ss p ≡ numbered stmts i
placed ss ps stmts i p at is =
    same_in (slice_get ss p) (numbered stmts i)
    (ap (option_map (slice_get ss)) (sym is) ∙ sym (numbered_map (slice_get ss) ps i) ∙ ap (λ xs. numbered xs i) at ∙ numbered_map (λ (s : Stmt). Some s) stmts i)

none_in : {X Y : Type 0} (g : X → Y) (o : Option X) → None ≡ option_map g o → None ≡ o
none_in g None e = refl
none_in g (Some x) e = cc e

pub unplaced : (ss : List Stmt) (ps : List ℕ) (stmts : List Stmt) (i : ℕ) → at_places ss ps ≡ map Some stmts → numbered ps i ≡ None → None ≡ numbered stmts i
unplaced ss ps stmts i at is =
    none_in (λ (s : Stmt). Some s) (numbered stmts i)
    (ap (option_map (slice_get ss)) (sym is) ∙ sym (numbered_map (slice_get ss) ps i) ∙ ap (λ xs. numbered xs i) at ∙ numbered_map (λ (s : Stmt). Some s) stmts i)

-- ---- by the calls

begin_by : (ss : List Stmt) (xs : List PlainScript) (x : PlainScript) (n t : ℕ) (stmts : List Stmt) (b : Bool) → (n == t) ≡ b → x.places ≡ [] → n ≡ length xs + 1 → at_places ss (places_in xs t) ≡ map Some stmts
    → at_places ss (places_in (xs ++ x ∷ []) t) ≡ map Some (if b then [] else stmts)
begin_by ss xs x n t stmts true same none count was =
    ap (λ u. at_places ss (places_in (xs ++ x ∷ []) u)) (sym (eqb-true n t same) ∙ count) ∙ ap (at_places ss) (places_new xs x none)
begin_by ss xs x n t stmts false apart none count was = ap (at_places ss) (places_others xs x t (λ e. wrong apart (eq-eqb n t (count ∙ sym e)))) ∙ was
  where
    wrong : {b : Bool} → b ≡ false → b ≡ true → ⊥
    wrong h k = cc

-- a transaction begins, with the next number and no statement
pub begin_scripts : (ss : List Stmt) (xs : List PlainScript) (x : PlainScript) (n t : ℕ) (stmts : List Stmt) → x.places ≡ [] → n ≡ length xs + 1 → at_places ss (places_in xs t) ≡ map Some stmts
    → at_places ss (places_in (xs ++ x ∷ []) t) ≡ map Some (if n == t then [] else stmts)
begin_scripts ss xs x n t stmts none count was = begin_by ss xs x n t stmts (n == t) refl none count was

submit_by : (ss : List Stmt) (s : Stmt) (xs : List PlainScript) (n t : ℕ) (stmts : List Stmt) (b : Bool) → (n == t) ≡ b → 1 ≤ n → n ≤ length xs → at_places ss (places_in xs t) ≡ map Some stmts
    → at_places (ss ++ s ∷ []) (places_in (map_from (change_at n (and_place (length ss))) 1 xs) t) ≡ map Some (if b then stmts ++ s ∷ [] else stmts)
submit_by ss s xs n t stmts true same low high was =
    ap (λ u. at_places (ss ++ s ∷ []) (places_in (map_from (change_at n (and_place (length ss))) 1 xs) u)) (sym (eqb-true n t same))
    ∙ ap (at_places (ss ++ s ∷ [])) (changed_place (length ss) n xs low high)
    ∙ place_last ss s (places_in xs n) stmts (ap (λ u. at_places ss (places_in xs u)) (eqb-true n t same) ∙ was)
submit_by ss s xs n t stmts false apart low high was =
    ap (at_places (ss ++ s ∷ [])) (changed_other (length ss) n xs t (λ e. wrong apart (eq-eqb n t (sym e)))) ∙ places_kept ss (ss ++ s ∷ []) (places_in xs t) stmts (extends_one ss s) was
  where
    wrong : {b : Bool} → b ≡ false → b ≡ true → ⊥
    wrong h k = cc

-- a statement is submitted, and stands last
pub submit_scripts : (ss : List Stmt) (s : Stmt) (xs : List PlainScript) (n t : ℕ) (stmts : List Stmt) → 1 ≤ n → n ≤ length xs → at_places ss (places_in xs t) ≡ map Some stmts
    → at_places (ss ++ s ∷ []) (places_in (map_from (change_at n (and_place (length ss))) 1 xs) t) ≡ map Some (if n == t then stmts ++ s ∷ [] else stmts)
submit_scripts ss s xs n t stmts low high was = submit_by ss s xs n t stmts (n == t) refl low high was

-- as many transactions as have begun
pub script_count : (xs : List Script) (sessions : List ℕ) → map session_in (map plain_script xs) ≡ sessions → length xs ≡ length sessions
script_count xs sessions same = sym (length-map xs plain_script) ∙ sym (length-map (map plain_script xs) session_in) ∙ ap length same

-- the transaction of an allowed call has begun
pub known_open : (f t : ℕ) (h : History) (v : View) → v ≡ view_of f h → IsOpen v t → (1 ≤ t) × (t ≤ length (begun h))
known_open f t h v is open_ = let born = (open_seen f t h (subst (λ (w : View). IsOpen w t) is open_)).0 in (born.0, omega (arith, born.1))
