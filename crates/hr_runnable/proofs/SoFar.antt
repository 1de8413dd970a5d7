-- What holds of what lines have said, from the first line on: as much of a scenario as was read can be run.
use Rattle.std.proofs.Common.{◌≡◌, ℕ, ◌+◌, ◌*◌, ◌<◌, ◌≤◌, Bool, true, ◌&&◌, nat_le, nat_lt, List, [], length, refl, arith}
use Rattle.std.specs.List.{list_all}
use Rattle.hr_base.specs.declared.limits.TheConstants.{MAX_F, MAX_SESSIONS}
use Rattle.hr_rel.specs.declared.value.Value.{Value}
use Rattle.hr_rel.specs.declared.catalog.Catalog.{Catalog}
use Rattle.hr_rel.specs.Holds.{IsSound, holds}
use Rattle.hr_faulty.specs.declared.script.Fault.{Fault}
use Rattle.hr_faulty.specs.Script.{names_calls}
use Rattle.hr_forms.specs.declared.line.EngineKind.{EngineKind}
use Rattle.hr_said.specs.declared.scenario.Block.{Block}
use Rattle.hr_said.specs.declared.scenario.Choice.{Choice}
use Rattle.hr_said.specs.declared.scenario.Choice.TheVariants as choice
use Rattle.hr_said.specs.declared.said.Inside.{Inside}
use Rattle.hr_said.specs.declared.said.Inside.TheVariants as inside
use Rattle.hr_said.specs.declared.said.Said.{Said}
use Rattle.hr_said.specs.Said.{nothing}

-- a choice is of one of so many sessions, numbered from 1, or of one of so many replicas, numbered from 0
abbrev pub is_of : ℕ → ℕ → Choice → Bool
is_of sessions replicas (choice.Session s) = nat_le 1 s && nat_le s sessions
is_of sessions replicas (choice.Both r) = nat_lt r replicas
is_of sessions replicas (choice.TakeJob r) = nat_lt r replicas
is_of sessions replicas (choice.GiveReply r) = nat_lt r replicas
is_of sessions replicas (choice.Rounds k) = true

-- No more replicas may lie than may be; and once the replicas are named, there are 2f + 1 engines and scripts.
pub record AreSized (part f : ℕ) (kinds : List EngineKind) (faults : List (List Fault)) : Type 0 where
  pub wrong : f ≤ MAX_F
  pub engines : 3 ≤ part → length kinds ≡ 2 * f + 1
  pub lists : 3 ≤ part → length faults ≡ 2 * f + 1

-- There are no more sessions than may be, also once the one that is being read has ended.
pub record AreFew (at : Inside) (scripts : List (List Block)) : Type 0 where
  pub few : length scripts ≤ MAX_SESSIONS
  pub room : at ≡ inside.Session → length scripts < MAX_SESSIONS

-- The catalog is sound, and the rows hold in it.
pub record AreHeld (catalog : Catalog) (rows : List (List (List Value))) : Type 0 where
  pub sound : IsSound catalog
  pub holds : holds catalog rows ≡ true

-- Choices come only once the replicas are named, and each is of a session or a replica that is there.
pub record AreChoices (part : ℕ) (at : Inside) (sessions replicas : ℕ) (choices : List Choice) : Type 0 where
  pub begun : at ≡ inside.Schedule → 3 ≤ part
  pub none : part < 3 → choices ≡ []
  pub there : list_all (is_of sessions replicas) choices ≡ true

pub record IsGood (said : Said) : Type 0 where
  pub replicas : AreSized said.part said.f said.kinds said.faults
  pub named : list_all (λ script. names_calls script) said.faults ≡ true
  pub sessions : AreFew said.inside said.scripts
  pub tables : AreHeld said.catalog said.rows
  pub schedule : AreChoices said.part said.inside (length said.scripts) (length said.faults) said.choices

-- nothing said is good
pub nothing_good : IsGood nothing
nothing_good = record {
  replicas = record { wrong = omega arith; engines = λ late. absurd (omega (arith, late)); lists = λ late. absurd (omega (arith, late)) };
  named = refl;
  sessions = record { few = omega arith; room = λ e. omega arith };
  tables = record { sound = record { keys = refl; columns = refl }; holds = refl };
  schedule = record { begun = λ e. cc; none = λ e. refl; there = refl };
}
