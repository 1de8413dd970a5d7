use Rattle.std.proofs.Common.{◌≡◌, All}
use Rattle.hr_turn.specs.Passes.{id_of, lock_of, view_of, IsFree}
use Rattle.hr_figures.proofs.turns.split_off.Given as goal

abbrev pub invariant-splits : goal.invariant-splits
invariant-splits g l = record {
  lock : lock_of l.root ≡ lock_of l.fn.root;
  number : (view_of l.root).number ≡ 0;
  splits : (view_of l.root).splits ≡ l._index;
  free : IsFree l.root;
  passes : All (λ pass. (lock_of pass ≡ id_of l.lock) × IsFree pass) l.passes.items;
}
