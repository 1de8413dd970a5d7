-- What a turn keeps beside the view, one entry later, by the view and the turn alone.
use Rattle.std.specs.Prelude.{ℕ, ◌+◌, Bool, not, ◌&&◌, ◌||◌, ◌==◌, if◌then◌else◌, Option, Some, None}
use Rattle.std.specs.Option.{option_map}
use Rattle.hr_base.specs.Counters.{shown}
use Rattle.hr_base.specs.Lists.{when}
use Rattle.hr_history.specs.declared.entry.Event.{Event}
use Rattle.hr_history.specs.declared.entry.Event.TheVariants as event
use Rattle.hr_history.specs.declared.cause.Why.TheVariants as why
use Rattle.hr_history.specs.History.{is_call}
use Rattle.hr_history.specs.Replicas.{tells_loss}
use Rattle.hr_history.specs.Primary.{is_some_of}
use Rattle.hr_history.specs.Turn.{Turn, Gone, gone_if, Counted, owed_after}
use Rattle.hr_history.specs.View.{View, Progress}
use Rattle.hr_history.specs.Processed.{replica_in}

-- whether a replica may tell this count at a restart: as many as its commits or, while a commit is in doubt, one more
abbrev pub is_sound_at : ℕ → Progress → Bool
is_sound_at told p = (told == shown p.position) || (p.doubt && (told == shown (p.position + 1)))

module _ (v : View) where
  -- the primary that went in the turn, where so many entries stood before
  abbrev pub went_after : ℕ → Event → Option Gone → Option Gone
  went_after place (event.Give replica told) went = gone_if (tells_loss told && is_some_of replica v.primary) replica why.Lost place
  went_after place event.Suspect went = option_map (λ (p : ℕ). record { from = p; why = why.Suspected; at = place }) v.primary
  went_after place (event.Convict replica evidence) went = if is_some_of replica v.primary then Some record { from = replica; why = why.Convicted; at = place } else went
  went_after place e went = if is_call e then None else went

  -- the count that the turn's call told, if it can't be right
  abbrev pub bad_count_after : Event → Option Counted → Option Counted
  bad_count_after (event.Restarted replica count) bad = when (not (is_sound_at count (replica_in v replica))) record { replica = replica; count = count }
  bad_count_after e bad = if is_call e then None else bad

-- the turn after one more entry, where so many entries stood before
abbrev pub turn_step : View → Turn → ℕ → Event → Turn
turn_step v turn place e = record {
  start = if is_call e then place else turn.start;
  went = went_after v place e turn.went;
  bad_count = bad_count_after v e turn.bad_count;
  owed = owed_after e;
}
