-- Suspicions.
use Rattle.std.specs.Prelude.{ℕ, ◌+◌, [], ◌∷◌}
use Rattle.hr_history.specs.declared.entry.Event.{Event}
use Rattle.hr_history.specs.declared.entry.Event.TheVariants as event
use Rattle.hr_history.specs.History.{History}

abbrev pub next_suspects : Event → ℕ → ℕ
next_suspects event.Suspect n = n + 1
next_suspects _ n = n

-- how often the primary was suspected
abbrev pub suspects : History → ℕ
suspects [] = 0
suspects (e ∷ before) = next_suspects e.event (suspects before)
