use Rattle.std.proofs.Common.{◌≡◌, ℕ, ℤ, true, List, ap, sym, subst, ◌∙◌}
use Rattle.hr_rel.specs.declared.catalog.Catalog.{Catalog}
use Rattle.hr_parts.specs.Parts.{Part, covers, row_at}
use Rattle.hr_parts.specs.Keys.{key_parts}
use Rattle.hr_store.specs.Cells.{is_pending_of, seen_in}
use Rattle.hr_range_engine.specs.Shown.{IsOf, committed_base, seen_by}
use Rattle.hr_range_engine.proofs.Ends.{whole_same, base_same}
use Rattle.hr_range_engine.proofs.Runs.{run_answer, read_after}
use Rattle.hr_range_engine.proofs.statement.read.Goals as goal

pub returns-clause-whole : goal.returns-clause-whole
returns-clause-whole c =
    let a = c.args in
    subst (λ (catalog : Catalog). IsOf catalog c.look_all.new.store) (sym (c.run_on.ensures.catalog ∙ c.look_all.ensures.catalog))
    (whole_same a.machine.now.catalog a.store.now c.look_all.new.store c.requires.whole c.look_all.ensures.tables c.look_all.ensures.same)

pub returns-clause-answer : goal.returns-clause-answer
returns-clause-answer c db view =
    let a = c.args in
    let looked : (t : ℕ) (k : ℤ) → covers (key_parts a.stmt.now) t k ≡ true → row_at c.look_all.new.machine t k ≡ seen_by a.store.now a.txn t k =
    λ t k h. c.in_ok-look_all.ensures.looked t k (ap (λ (l : List Part). covers l t k) c.requires.needs ∙ h) in
    run_answer a.machine.now.catalog a.store.now c.requires.whole a.txn a.stmt.now c.look_all.new.machine c.look_all.ensures.ordered c.look_all.ensures.catalog looked db view
    c.in_ok-answer.answer c.in_ok-answer.ensures.answer

pub returns-clause-after : goal.returns-clause-after
returns-clause-after c db view t k =
    let a = c.args in
    let looked : (t : ℕ) (k : ℤ) → covers (key_parts a.stmt.now) t k ≡ true → row_at c.look_all.new.machine t k ≡ seen_by a.store.now a.txn t k =
    λ t k h. c.in_ok-look_all.ensures.looked t k (ap (λ (l : List Part). covers l t k) c.requires.needs ∙ h) in
    ap (seen_in a.txn) (c.look_all.ensures.same t k)
    ∙ read_after a.machine.now.catalog a.store.now c.requires.whole a.txn a.stmt.now c.look_all.new.machine c.look_all.ensures.ordered c.look_all.ensures.catalog looked db view
    c.requires.none t k

pub returns-clause-wrote : goal.returns-clause-wrote
returns-clause-wrote c u t k w = sym (ap (is_pending_of u) (c.look_all.ensures.same t k)) ∙ w

pub returns-clause-seen : goal.returns-clause-seen
returns-clause-seen c u t k = ap (seen_in u) (c.look_all.ensures.same t k)

pub returns-clause-base : goal.returns-clause-base
returns-clause-base c =
    let a = c.args in
    ap (λ (catalog : Catalog). committed_base catalog c.look_all.new.store) (c.run_on.ensures.catalog ∙ c.look_all.ensures.catalog)
    ∙ base_same a.machine.now.catalog a.store.now c.look_all.new.store c.requires.whole c.look_all.ensures.tables c.look_all.ensures.same

pub returns-in_err-look_all-clause-base : goal.returns-in_err-look_all-clause-base
returns-in_err-look_all-clause-base c =
    let a = c.args in
    ap (λ (catalog : Catalog). committed_base catalog c.look_all.new.store) c.look_all.ensures.catalog
    ∙ base_same a.machine.now.catalog a.store.now c.look_all.new.store c.requires.whole c.look_all.ensures.tables c.look_all.ensures.same

pub returns-in_err-answer-clause-base : goal.returns-in_err-answer-clause-base
returns-in_err-answer-clause-base c =
    let a = c.args in
    ap (λ (catalog : Catalog). committed_base catalog c.look_all.new.store) (c.run_on.ensures.catalog ∙ c.look_all.ensures.catalog)
    ∙ base_same a.machine.now.catalog a.store.now c.look_all.new.store c.requires.whole c.look_all.ensures.tables c.look_all.ensures.same
