-- At which calls a transaction stops.
use Rattle.std.proofs.Common.{◌≡◌, ℕ, Bool, true, false, cond, not, ◌==◌, List, [], ◌∷◌, ◌++◌, refl}
use Rattle.std.proofs.lemmas.Bool.{eqb-true}
use Rattle.hr_engine.specs.Journal.{Call, Journal}
use Rattle.hr_engine.specs.Effects.{Effect, effect_of}
use Rattle.hr_engine.specs.Effects as does
use Rattle.hr_engine.specs.Attempts.{RanStmt, attempt, next_attempt, IsRunning, is_running}
use Rattle.hr_base.specs.Lists.{is_empty}

-- an effect that stops transaction u, if it runs: its end, or the end of all
abbrev pub Stops : ℕ → Effect → Type 0
Stops u (does.Runs t stmt answer) = ⊥
Stops u (does.Waits t named) = ⊥
Stops u (does.Closes t cycle) = ⊥
Stops u (does.Ends t) = u ≡ t
Stops u does.EndsAll = Unit {0}
Stops u does.Nothing = ⊥

longer : (steps : List RanStmt) (s : RanStmt) → not (is_empty (steps ++ s ∷ [])) ≡ true
longer [] s = refl
longer (r ∷ steps) s = refl

still_there : (b : Bool) (steps : List RanStmt) (s : RanStmt) → not (is_empty steps) ≡ true → not (is_empty (cond b (steps ++ s ∷ []) steps)) ≡ false → ⊥
still_there true steps s runs stopped = cc (longer steps s)
still_there false steps s runs stopped = cc

was_ended : (u t : ℕ) (b : Bool) (steps : List RanStmt) → (u == t) ≡ b → not (is_empty steps) ≡ true → not (is_empty (cond b [] steps)) ≡ false → u ≡ t
was_ended u t true steps e runs stopped = eqb-true u t e
was_ended u t false steps e runs stopped = absurd (cc)

stopped_by : (u : ℕ) (effect : Effect) (steps : List RanStmt) → not (is_empty steps) ≡ true → not (is_empty (next_attempt u effect steps)) ≡ false → Stops u effect
stopped_by u (does.Runs t stmt answer) steps runs stopped = still_there (u == t) steps _ runs stopped
stopped_by u (does.Waits t named) steps runs stopped = cc
stopped_by u (does.Closes t cycle) steps runs stopped = cc
stopped_by u (does.Ends t) steps runs stopped = was_ended u t (u == t) steps refl runs stopped
stopped_by u does.EndsAll steps runs stopped = tt
stopped_by u does.Nothing steps runs stopped = cc

-- a transaction that ran and runs no more was stopped by this call
pub stop_law : (u : ℕ) (call : Call) (journal : Journal) → IsRunning u journal → is_running u (call ∷ journal) ≡ false → Stops u (effect_of call)
stop_law u call journal runs stopped = stopped_by u (effect_of call) (attempt u journal) runs stopped
