-- Before anything happened.
use Rattle.std.proofs.Common.{◌≡◌, ℕ, zero, suc, Some, List, [], map, refl, arith}
use Rattle.hr_base.specs.Lists.{numbered}
use Rattle.hr_rel.specs.declared.stmt.Stmt.{Stmt}
use Rattle.hr_history.specs.View.{view_of}
use Rattle.hr_due.specs.Turns.{quiet_turn}
use Rattle.hr_ledger.specs.Kept.{PlainLedger, AreKept, places_of, at_places}

abbrev pub first : ℕ → ℕ → PlainLedger
first f sessions = record { sessions = sessions; stored = []; statements = []; scripts = []; asks = 0; turn = quiet_turn 0; view = view_of f [] }

no_places : (t : ℕ) → at_places [] (places_of (numbered [] t)) ≡ map {A = Stmt} Some []
no_places zero = refl
no_places (suc n) = refl

pub kept_first : (f sessions : ℕ) → AreKept (first f sessions)
kept_first f sessions = record {
  within = refl;
  begun = refl;
  view = refl;
  turn = refl;
  asks = refl;
  few = omega arith;
  sessions = refl;
  submitted = refl;
  scripts = no_places;
}
