-- Histories that nothing disturbs.
use Rattle.std.specs.Prelude.{◌≡◌, ◌⊎◌, ℕ, ◌+◌, ◌*◌, ◌<◌, Bool, true, false, ◌&&◌, ◌==◌, [], ◌∷◌}
use Rattle.hr_rel.specs.Database.{Database}
use Rattle.hr_history.specs.declared.cause.CauseAt.{CauseAt}
use Rattle.hr_history.specs.declared.cause.CauseAt.TheVariants as cause
use Rattle.hr_history.specs.declared.entry.Event.{Event}
use Rattle.hr_history.specs.declared.entry.Event.TheVariants as event
use Rattle.hr_history.specs.History.{History}
use Rattle.hr_history.specs.Replicas.{tells_loss}
use Rattle.hr_history.specs.Faithful.{Correct}
use Rattle.hr_serial.specs.Serial.{LiarsAreAtMost}

-- whether by this event the replica tells that it is lost
abbrev pub is_loss_of : ℕ → Event → Bool
is_loss_of r (event.Give replica told) = tells_loss told && (replica == r)
is_loss_of r _ = false

-- whether it says that the primary is suspected
abbrev pub is_suspicion : Event → Bool
is_suspicion event.Suspect = true
is_suspicion _ = false

-- the history has no such event
abbrev pub HasNone : (Event → Bool) → History → Type 0
HasNone such [] = Unit {0}
HasNone such (e ∷ before) = HasNone such before × (such e.event ≡ false)

-- Every one of the 2f + 1 replicas is correct, from this database; none was lost; and nobody was suspected.
pub record IsUndisturbed (f : ℕ) (db : Database) (h : History) : Type 0 where
  pub correct : (r : ℕ) → r < 2 * f + 1 → Correct db h r
  pub not_lost : (r : ℕ) → HasNone (is_loss_of r) h
  pub unsuspected : HasNone is_suspicion h

-- Less: replica 0, the first primary, is correct and was never lost; nobody was suspected; and at most f replicas lie.
pub record IsLed (f : ℕ) (db : Database) (h : History) : Type 0 where
  pub correct : Correct db h 0
  pub few : LiarsAreAtMost f f db h
  pub not_lost : HasNone (is_loss_of 0) h
  pub unsuspected : HasNone is_suspicion h

-- the cause is what the primary replied: a Deadlock, or that it has no memory
abbrev pub IsPrimarysReply : CauseAt → Type 0
IsPrimarysReply c = ((at : ℕ) × (c ≡ cause.Deadlock at)) ⊎ ((at : ℕ) × (c ≡ cause.PrimaryMemory at))
