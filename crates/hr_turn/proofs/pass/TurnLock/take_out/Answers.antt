use Rattle.std.proofs.Common.{Some, ◌∷◌, sym, ◌∙◌}
use Rattle.atomic_table.specs.Table.{rest}
use Rattle.hr_turn.proofs.pass.TurnLock.take_out.Goals as goal

pub exchange-held-requires : goal.exchange-held-requires
exchange-held-requires g c = let s = c.requires.slot in (c.requires.lock, (Some s.0, s.1 ∙ (λ i. (0, Some s.0) ∷ rest (sym s.1 i))))
