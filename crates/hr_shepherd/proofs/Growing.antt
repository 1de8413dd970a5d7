-- How the stored list grows.
use Rattle.std.proofs.Common.{◌≡◌, ℕ, sym, subst}
use Rattle.hr_history.specs.declared.entry.Event.{Event}
use Rattle.hr_moves.specs.Callers.{Grows}
use Rattle.hr_sane.proofs.Growth.{turn_grows, grows_none}
use Rattle.hr_ledger.specs.Chronicle.{Chronicle}
use Rattle.hr_core.specs.Turns.{HasTurn}

pub by_turn : (caller : ℕ) (call : Event) (before after : Chronicle) → HasTurn caller call before after → Grows caller before.entries after.entries
by_turn caller call before after t = turn_grows caller before.f call before.entries after.entries t.turn

pub by_nothing : (caller : ℕ) (before after : Chronicle) → after ≡ before → Grows caller before.entries after.entries
by_nothing caller before after same = subst (λ (s : Chronicle). Grows caller before.entries s.entries) (sym same) (grows_none caller before.entries)
