use Rattle.std.proofs.Common.{suc, ◌+◌, [], ◌∷◌, ◌++◌, drop, drop-cons, ap}
use Rattle.hr_votes.proofs.waits.one_behind.Goals as goal

pub returns-then-place-path : goal.returns-then-place-path
returns-then-place-path c =
    let xs = c.args.path.now in
    (drop (suc (c.args.place + 1)) xs ++ c.args.last ∷ [], ap (λ ys. ys ++ c.args.last ∷ []) (drop-cons xs (c.args.place + 1) 0 c.if-place-path.true))
