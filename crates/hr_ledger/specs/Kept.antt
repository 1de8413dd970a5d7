-- Not to be believed: what holds of the fields of every `Ledger`, of which its proofs speak.
use Rattle.std.specs.Prelude.{◌≡◌, ℕ, ◌+◌, ◌<◌, ◌≤◌, Option, Some, None, List, [], ◌∷◌, ◌++◌, length, map, slice_get, vec_len, vec_capacity, IsTrue}
use Rattle.hr_rel.specs.declared.stmt.Stmt.{Stmt}
use Rattle.hr_base.specs.Lists.{numbered}
use Rattle.hr_history.specs.declared.entry.Entry.{Entry}
use Rattle.hr_history.specs.declared.entry.Event.{Event}
use Rattle.hr_history.specs.History.{History, history_of}
use Rattle.hr_history.specs.Transactions as history
use Rattle.hr_history.specs.Transactions.{submits, next_begun, next_asks, next_submits, next_submitted}
use Rattle.hr_history.specs.Turn.{Turn, turn_of}
use Rattle.hr_history.specs.View.{View, view_of}
use Rattle.hr_history.specs.Step.{view_step}
use Rattle.hr_history.specs.Faithful.{Begun}
use Rattle.hr_moves.specs.Measure.{room_in}
use Rattle.hr_moves.specs.TurnSteps.{turn_step}
use Rattle.hr_due.specs.Turns.{turn_in}
use Rattle.hr_entries.specs.declared.stored.Stored.{Stored}
use Rattle.hr_entries.specs.Entries.{entry_of, entries_of, is_within, are_within}
use Rattle.hr_ledger.specs.declared.ledger.Ledger.TheInside.{Inside}
use Rattle.hr_ledger.specs.declared.script.Script.{Script}
use Rattle.hr_ledger.specs.Chronicle.{Chronicle}

-- ---- the fields, without their room

pub record PlainScript : Type 0 where
  pub session : ℕ
  pub places : List ℕ

abbrev pub plain_script : Script → PlainScript
plain_script s = record { session = s.session; places = s.statements.items }

pub record PlainLedger : Type 0 where
  pub sessions : ℕ
  pub stored : List Stored
  pub statements : List Stmt
  pub scripts : List PlainScript
  pub asks : ℕ
  pub turn : Turn
  pub view : View

abbrev pub plain : Inside → PlainLedger
plain l = record {
  sessions = l.sessions;
  stored = l.stored.items;
  statements = l.statements.items;
  scripts = map plain_script l.scripts.items;
  asks = l.asks;
  turn = turn_in l.turn;
  view = l.view;
}

abbrev pub entries_kept : PlainLedger → List Entry
entries_kept p = entries_of p.statements p.view.replies p.stored

abbrev pub history_kept : PlainLedger → History
history_kept p = history_of (entries_kept p)

abbrev pub seen_plain : PlainLedger → Chronicle
seen_plain p = record { f = p.view.f; sessions = p.sessions; entries = entries_kept p }

abbrev pub seen : Inside → Chronicle
seen l = seen_plain (plain l)

abbrev pub session_in : PlainScript → ℕ
session_in s = s.session

abbrev pub places_of : Option PlainScript → List ℕ
places_of None = []
places_of (Some s) = s.places

-- where the statements of a transaction stand among all statements
abbrev pub places_in : List PlainScript → ℕ → List ℕ
places_in scripts t = places_of (numbered scripts t)

-- one statement more, which stands here
abbrev pub and_place : ℕ → PlainScript → PlainScript
and_place at s = record s { places = s.places ++ at ∷ [] }

abbrev pub IsRoomy : Option Script → Type 0
IsRoomy None = Unit {0}
IsRoomy (Some s) = vec_len s.statements < vec_capacity s.statements

-- one statement more of the transaction at this place has its place
abbrev pub HasRoom : List Script → ℕ → Type 0
HasRoom scripts at = IsRoomy (slice_get scripts at)

-- what stands at these places
abbrev pub at_places : List Stmt → List ℕ → List (Option Stmt)
at_places statements places = map (slice_get statements) places

-- ---- what is kept is what the history tells

pub record AreKept (p : PlainLedger) : Type 0 where
  pub within : IsTrue (are_within p.statements p.view.replies p.stored)
  pub begun : Begun p.view.f p.sessions (history_kept p)
  pub view : p.view ≡ view_of p.view.f (history_kept p)
  pub turn : p.turn ≡ turn_of (history_kept p)
  pub asks : p.asks ≡ history.asks (history_kept p)
  pub few : p.asks ≤ length p.stored
  pub sessions : map session_in p.scripts ≡ history.begun (history_kept p)
  pub submitted : length p.statements ≡ history.submitted (history_kept p)
  pub scripts : (t : ℕ) → at_places p.statements (places_in p.scripts t) ≡ map Some (submits t (history_kept p))

pub record IsKept (l : Inside) : Type 0 where
  pub kept : AreKept (plain l)
  -- what may follow, and the replies to what is out with what these add, has its place
  pub room : vec_len l.stored + room_in l.view ≤ vec_capacity l.stored

-- ---- one more entry

-- a list with more at its end
abbrev pub Extends : {X : Type 0} → List X → List X → Type 0
Extends {X} xs ys = (more : List X) × (ys ≡ xs ++ more)

-- Each field is then what the entry makes of it.
pub record IsStep (p q : PlainLedger) (e : Entry) : Type 0 where
  pub sessions : q.sessions ≡ p.sessions
  pub statements : Extends p.statements q.statements
  pub replies : Extends p.view.replies q.view.replies
  pub entry : Stored
  pub stored : q.stored ≡ p.stored ++ entry ∷ []
  pub is : entry_of q.statements q.view.replies entry ≡ e
  pub within : IsTrue (is_within (length q.statements) (length q.view.replies) entry.event)
  pub view : q.view ≡ view_step p.view (length p.stored) p.asks e.event
  pub turn : q.turn ≡ turn_step p.view p.turn (length p.stored) e.event
  pub asks : q.asks ≡ next_asks e.event p.asks
  pub few : q.asks ≤ p.asks + 1
  pub begun : map session_in q.scripts ≡ next_begun e.event (map session_in p.scripts)
  pub submitted : length q.statements ≡ next_submitted e.event (length p.statements)
  pub scripts : (t : ℕ) (stmts : List Stmt) → at_places p.statements (places_in p.scripts t) ≡ map Some stmts → at_places q.statements (places_in q.scripts t) ≡ map Some (next_submits t e.event stmts)
