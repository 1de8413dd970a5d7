-- Needs conflict as their parts do.
use Rattle.std.proofs.Common.{◌≡◌, ℕ, ◌==◌, Bool, true, false, ◌&&◌, ◌||◌, not, List, [], ◌∷◌, map, refl, ap, sym, ◌∙◌}
use Rattle.std.specs.Prelude.{int_le}
use Rattle.std.specs.List.{list_all, list_any}
use Rattle.hr_locks.specs.declared.need.Need.{Need}
use Rattle.hr_locks.specs.Locks.{is_conflict}
use Rattle.hr_parts.specs.Parts.{Part, Apart, conflict, are_apart}
use Rattle.hr_parts.proofs.Cover.{apart_by_test}
use Rattle.hr_plan.specs.declared.span.Span.{Span}
use Rattle.hr_plan.specs.Needs.{spans_meet, part_of, parts_of, no_conflict}

any_part : (need : Need Span) (others : List (Need Span)) → list_any (is_conflict spans_meet need) others ≡ list_any (conflict (part_of need)) (parts_of others)
any_part need [] = refl
any_part need (other ∷ others) = ap (λ (b : Bool). conflict (part_of need) (part_of other) || b) (any_part need others)

same_test : (needs others : List (Need Span)) → no_conflict needs others ≡ are_apart (parts_of needs) (parts_of others)
same_test [] others = refl
same_test (need ∷ needs) others =
    let first = any_part need others in
    let rest = same_test needs others in
    λ i. not (first i) && rest i

pub needs_apart : (needs others : List (Need Span)) → no_conflict needs others ≡ true → Apart (parts_of needs) (parts_of others)
needs_apart needs others h = apart_by_test (parts_of needs) (parts_of others) (sym (same_test needs others) ∙ h)
