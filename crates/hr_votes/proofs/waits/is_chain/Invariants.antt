use Rattle.std.proofs.Common.{◌≡◌, [], ◌∷◌, ◌++◌, drop}
use Rattle.hr_engine.specs.Waits.{is_chain}
use Rattle.hr_history.specs.Processed.{wait_in}
use Rattle.hr_votes.proofs.waits.is_chain.Given as goal

abbrev pub invariant-path : goal.invariant-path
invariant-path l = is_chain (wait_in l.view l.replica) (drop l.place l.path ++ l.last ∷ []) ≡ is_chain (wait_in l.view l.replica) (l.path ++ l.last ∷ [])
