use Rattle.std.proofs.Common.{rules, ◌≡◌, ℤ, [], ◌∷◌, ◌++◌, cond, pos, get_or, take, to_z, of_z, w64, ap, sym, ◌∙◌}
use Rattle.std.specs.List.{list_any}
use Rattle.hr_meaning.specs.Insert.{has_key}
use Rattle.hr_range_engine.specs.Changed.{gone_keys}
use Rattle.hr_range_engine.proofs.Changed.{gone_more}
use Rattle.hr_range_engine.proofs.write.gone_keys.Goals as goal

pub keys-preserved : goal.keys-preserved
keys-preserved c =
    let i = c.keys.key-index in
    let keys = c.args.keys.now in
    let rows = c.args.rows.now in
    let same : to_z w64 (of_z w64 (get_or keys i (pos 0))) ≡ get_or keys i (pos 0) = search rules in
    let pushed : c.push_unless.new.gone.items ≡ cond c.is_left.result c.keys.gone.items (c.keys.gone.items ++ to_z w64 (of_z w64 (get_or keys i (pos 0))) ∷ []) = search rules in
    pushed
    ∙ (λ j. cond (c.is_left.ensures j) (c.keys.invariant j) (c.keys.invariant j ++ to_z w64 (of_z w64 (get_or keys i (pos 0))) ∷ []))
    ∙ ap (λ (key : ℤ). cond (list_any (has_key key) rows) (gone_keys rows (take i keys)) (gone_keys rows (take i keys) ++ key ∷ [])) same
    ∙ sym (gone_more rows keys i c.keys-test.true)
