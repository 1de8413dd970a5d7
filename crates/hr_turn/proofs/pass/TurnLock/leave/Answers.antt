use Rattle.std.proofs.Common.{◌≡◌, ◌+◌, ◌%◌, ◌^◌, Option, Some, [], ◌∷◌, refl, sym, ◌∙◌, subst, rules}
use Rattle.atomic_table.specs.Table.{Me, step, rest, Allows}
use mathlib.Core.Option as m
use Rattle.hr_turn.specs.declared.view.View.{View}
use Rattle.hr_turn.specs.Turns.{InTurns}
use Rattle.hr_turn.specs.Steps.{Serves}
use Rattle.hr_turn.proofs.WordSteps.{serves}
use Rattle.hr_turn.proofs.pass.TurnLock.leave.Goals as goal

pub fetch_add-requires : goal.fetch_add-requires
fetch_add-requires g c =
    let h = c.exchange-held.ensures in
    let q = c.requires in
    let now : Me (Option g.row.S.Denot) (View g.row.S-Entry.Denot) = (c.args.pass.now.seat.me.0, (0, Some c.args.value) ∷ []) in
    let is : c.exchange-held.new.seat.me ≡ now = h.3 ∙ (λ i. (c.args.pass.now.seat.me.0, (0, Some c.args.value) ∷ rest (q.inside.0 i))) in (
      h.0 ∙ q.lock,
      search rules,
      subst
          (λ (me : Me (Option g.row.S.Denot) (View g.row.S-Entry.Denot)). Allows (InTurns g.S.Kept.entries g.S.Kept.caller g.S.Kept.fixed (g.S.Kept.fixed c.args.self.now.table.shared.key.value))
          c.args.self.now.table.shared.table_id.slots c.exchange-held.new.seat.id me 1 (λ n. (n + 1) % 2 ^ 64)
          (Serves g.S.Kept.entries g.S.Kept.caller g.S.Kept.fixed (step c.args.self.now.table.shared.table_id.slots 1 1 0 m.none) me))
          (sym is)
          (serves g.S.Kept.entries g.S.Kept.caller g.S.Kept.fixed _ _ _ now c.args.value q.grown.0 refl q.inside.1 q.inside.2 q.grown.1 q.grown.2 q.fixed),
    )
