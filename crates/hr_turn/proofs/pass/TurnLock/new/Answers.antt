use Rattle.std.proofs.Common.{◌≡◌, Option, Some, List, [], ◌∷◌, ◌++◌, sym, ap, ◌∙◌, subst}
use Rattle.atomic_table.specs.Table.{opening}
use Rattle.hr_turn.specs.Views.{first_view}
use Rattle.hr_turn.specs.Turns.{InTurns}
use Rattle.hr_turn.proofs.Ends.{opens}
use Rattle.hr_turn.proofs.pass.TurnLock.new.Goals as goal

pub new-requires : goal.new-requires
new-requires g c =
    let slots : c.push.new.self.items ≡ Some c.args.value ∷ [] = c.in_ok-push.ensures.items ∙ ap (λ (l : List (Option g.row.S.Denot)). l ++ Some c.args.value ∷ []) c.in_ok-slots.ensures.items in
    subst
    (λ (p : g.row.S.Denot × List (Option g.row.S.Denot)). InTurns g.S.Kept.entries g.S.Kept.caller g.S.Kept.fixed (g.S.Kept.fixed p.0) (opening (0 ∷ 0 ∷ []) p.1 (first_view (g.S.Kept.fixed p.0))))
    (λ i. (sym c.of-about.ensures i, sym slots i))
    (opens g.S.Kept.entries g.S.Kept.caller g.S.Kept.fixed c.args.value c.requires)
