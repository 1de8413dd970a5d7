use Rattle.std.proofs.Common.{not, ◌==◌, ℕ, length, ap, arith, rules}
use Rattle.std.proofs.lemmas.Fn.{filter_same}
use Rattle.hr_progress.proofs.Ranges.{one_fewer}
use Rattle.hr_progress.proofs.txn.close.Goals as goal

pub returns-clause-others : goal.returns-clause-others
returns-clause-others c = filter_same _ _ _ (λ x b f k. search rules) _ _ c.retain.ensures.filtered

pub returns-clause-one : goal.returns-clause-one
returns-clause-one c = λ had.
    let others = filter_same _ (λ (t : ℕ). not (t == c.args.txn)) _ (λ x b f k. search rules) _ _ c.retain.ensures.filtered in
    omega (arith, c.retain.new.self.ok.0, c.args.opened.now.ok.0, ap length others, one_fewer c.args.txn c.args.opened.now.items had)
