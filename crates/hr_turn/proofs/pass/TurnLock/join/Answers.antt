use Rattle.std.proofs.Common.{sym, ap, ◌∙◌, subst, rules}
use Rattle.hr_turn.specs.Steps.{AreBack}
use Rattle.hr_turn.proofs.WordSteps.{settles}
use Rattle.hr_turn.proofs.Joining.{joins}
use Rattle.hr_turn.proofs.pass.TurnLock.join.Goals as goal

pub join_seat-requires : goal.join_seat-requires
join_seat-requires g c = let mine = c.requires.free.0 in let theirs = c.requires.free.1 in (
  c.requires.lock.0,
  c.requires.lock.1,
  theirs.0,
  search rules,
  joins g.S.Kept.entries g.S.Kept.caller g.S.Kept.fixed _ _ _ _ _ c.requires.root mine.3 mine.2 theirs.3 theirs.2 theirs.1,
)

pub load-requires : goal.load-requires
load-requires g c = let j = c.join_seat.ensures in (
  j.0 ∙ c.requires.lock.0,
  search rules,
  settles g.S.Kept.entries g.S.Kept.caller g.S.Kept.fixed _ _ _ _ (ap (λ m. m.0.number) j.2 ∙ c.requires.root) (ap (λ m. m.0.spent) j.2 ∙ c.requires.free.0.3),
)

pub returns-clause-back : goal.returns-clause-back
returns-clause-back g c = let l = c.load.ensures.2 in subst (AreBack g.S.Kept.caller) (sym (ap (λ m. m.0) l.0)) l.3
