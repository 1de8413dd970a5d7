use Rattle.std.proofs.Common.{◌≡◌, ℕ, Bool, true, false, [], ◌∷◌, inl, inr, subst}
use Rattle.hr_meaning.specs.Worked.{holding, row}
use Rattle.hr_meaning.specs.Serial.{database_at}
use Rattle.hr_history_worked.specs.InsertAndSelect.{insert_and_select}
use Rattle.hr_serial.specs.Prefix.{log_statements}
use Rattle.hr_schedule.specs.Claims.{TableRows}
use Rattle.hr_schedule_worked.specs.Scenarios.{after}
use Rattle.hr_schedule_worked.proofs.choices.no_more_than_committed.Goals as goal

-- after none of the log the table is empty
pub returns : goal.returns
returns c holds = elim holds.at [
  | inl none ↦ (let rows : ◌≡◌ {A = TableRows} ((row 5 50 ∷ []) ∷ []) ([] ∷ []) =
      subst (λ (k : ℕ). ((row 5 50 ∷ []) ∷ []) ≡ (database_at (holding []) (log_statements (after 17 insert_and_select)) k).tables) none holds.shown in cc)
  | inr doubt ↦ (let never : ◌≡◌ {A = Bool} false true = doubt.0 in cc)
]
