use Rattle.hr_parts.proofs.Together.{agree_itself, in_any_order, seen_by_others}
use Rattle.hr_parts.proofs.laws.alone_on_the_base.Goals as goal

pub returns-clause-answers : goal.returns-clause-answers
returns-clause-answers c a apart db order ts some = in_any_order a apart db db order order ts some.run some.distinct (λ u h. agree_itself (a.parts u) db)

pub returns-clause-seen : goal.returns-clause-seen
returns-clause-seen c a apart db order ts some u runs out = seen_by_others a apart db order u runs ts some.run out
