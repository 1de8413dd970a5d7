use Rattle.std.proofs.Common.{◌≡◌, ℕ, List, [], ◌++◌, sym, ◌∙◌, ap}
use Rattle.hr_parse.specs.declared.ast.Ast.{Ast}
use Rattle.hr_print.specs.Print.{text}
use Rattle.hr_print.proofs.OneText.{one_text}
use Rattle.hr_print.proofs.RoundTrip.{reread_bytes, fewest_bytes}
use Rattle.hr_print.proofs.printing.print.Goals as goal

-- what was written into an empty vector is the tree's text
shown : (a : Ast) (old new : List ℕ) → old ≡ [] → new ≡ old ++ text a → new ≡ text a
shown a old new e h = h ∙ ap (λ z. z ++ text a) e

pub returns-clause-reread : goal.returns-clause-reread
returns-clause-reread c = reread_bytes _ _ (shown _ _ _ c.new-out.ensures.items c.in_ok-statement.ensures)

pub returns-clause-canonical : goal.returns-clause-canonical
returns-clause-canonical c = λ b e. one_text b _ e ∙ sym (shown _ _ _ c.new-out.ensures.items c.in_ok-statement.ensures)

pub returns-clause-fewest : goal.returns-clause-fewest
returns-clause-fewest c = fewest_bytes _ _ (shown _ _ _ c.new-out.ensures.items c.in_ok-statement.ensures)
