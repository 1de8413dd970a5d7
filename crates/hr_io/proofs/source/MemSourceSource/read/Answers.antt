use Rattle.std.proofs.Common.{◌+◌, ◌≤◌, length, sym, ap, arith}
use Rattle.std.proofs.lemmas.Grind.{common_steps}
use Rattle.hr_io.proofs.Streams.{next_bytes}
use Rattle.hr_io.proofs.source.MemSourceSource.read.Goals as goal

pub returns-clause-bytes : goal.returns-clause-bytes
returns-clause-bytes c =
    let fits : c.self.inside.at + c.min-count.result ≤ length c.self.inside.bytes.items = grind (arith, common_steps) in (
      next_bytes _ _ _ _ _ _ (sym (ap (λ s. s.left) c.self.view_is)) (rw c.deref.ensures.value at c.copy_from_slice.ensures.after) fits,
      grind (arith, common_steps),
    )
