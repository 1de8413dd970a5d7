use Rattle.std.proofs.Common.{List, map, slice_get, ap, sym, ◌∙◌}
use Rattle.hr_rel.specs.declared.stmt.Stmt.{Stmt}
use Rattle.hr_base.specs.Lists.{numbered}
use Rattle.hr_history.specs.Transactions.{submits}
use Rattle.hr_ledger.specs.declared.script.Script.{Script}
use Rattle.hr_ledger.specs.Chronicle.{Chronicle, history_in}
use Rattle.hr_ledger.specs.Kept.{plain, history_kept, plain_script, places_in}
use Rattle.hr_ledger.proofs.Scripts.{placed, unplaced}
use Rattle.hr_ledger.proofs.ledger.Ledger.statement.Goals as goal

pub returns-in-Some : goal.returns-in-Some
returns-in-Some c =
    let l = c.self.inside in
    let t = c.args.txn in
    let i = c.args.index in
    let scripts = map plain_script l.scripts.items in
    let place = ap (λ (xs : List Script). numbered (places_in (map plain_script xs) t) i) (sym c.deref.ensures.value) ∙ sym c.statement_place.ensures ∙ c.in-Some.is in
    c.statement_at.ensures ∙ ap (λ (ss : List Stmt). slice_get ss c.in-Some.place) c.deref-in-Some.ensures.value
    ∙ placed l.statements.items (places_in scripts t) (submits t (history_kept (plain l))) i c.in-Some.place (c.self.invariant.kept.scripts t) place
    ∙ ap (λ (s : Chronicle). numbered (submits t (history_in s)) i) c.self.view_is

pub returns-in-None : goal.returns-in-None
returns-in-None c =
    let l = c.self.inside in
    let t = c.args.txn in
    let i = c.args.index in
    let scripts = map plain_script l.scripts.items in
    let place = ap (λ (xs : List Script). numbered (places_in (map plain_script xs) t) i) (sym c.deref.ensures.value) ∙ sym c.statement_place.ensures ∙ c.in-None.is in
    unplaced l.statements.items (places_in scripts t) (submits t (history_kept (plain l))) i (c.self.invariant.kept.scripts t) place
    ∙ ap (λ (s : Chronicle). numbered (submits t (history_in s)) i) c.self.view_is
