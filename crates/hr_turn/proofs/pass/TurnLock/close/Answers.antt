use Rattle.std.proofs.Common.{◌≡◌, Some, sym, ap, ◌∙◌}
use Rattle.hr_turn.proofs.Ends.{closes, same_value}
use Rattle.hr_turn.proofs.pass.TurnLock.close.Goals as goal

pub unreachable-requires : goal.unreachable-requires
unreachable-requires g c =
    let left = closes g.S.Kept.entries g.S.Kept.caller g.S.Kept.fixed _ _ _ _ _ _ c.requires.root c.requires.all c.requires.free.3 c.requires.free.2 c.close_with-closed.ensures.values.2 c.take-kept.ensures.value in
    c.in_default.not-Some left.value left.is

pub returns : goal.returns
returns g c =
    let left = closes g.S.Kept.entries g.S.Kept.caller g.S.Kept.fixed _ _ _ _ _ _ c.requires.root c.requires.all c.requires.free.3 c.requires.free.2 c.close_with-closed.ensures.values.2 c.take-kept.ensures.value in
    let same = same_value _ _ (sym c.in-Some.is ∙ left.is) in
    record {
      seen = ap g.S.Kept.entries same ∙ left.list;
      fixed = ap g.S.Kept.fixed same ∙ left.same;
      mine = left.mine;
      back = left.back;
      nobody = left.nobody;
    }
