-- Not to be believed: proofs that spans meet both ways, and that needs of them conflict where their rows do, which the traits' laws cite.
use Rattle.std.proofs.Common.{◌≡◌, ℕ, ◌==◌, Bool, true, false, ◌&&◌, refl, ap, sym, ◌∙◌}
use Rattle.std.specs.Prelude.{int_le}
use Rattle.hr_base.proofs.Tests.{eq_turn}
use Rattle.hr_plan.specs.declared.span.Span.{Span}
use Rattle.hr_locks.specs.declared.need.Need.{Need}
use Rattle.hr_locks.specs.Locks.{is_conflict}
use Rattle.hr_parts.specs.Parts.{conflict}
use Rattle.hr_plan.specs.Needs.{spans_meet, part_of}

swap_tests : (x y z : Bool) → ((x && y) && z) ≡ ((x && z) && y)
swap_tests true true true = refl
swap_tests true true false = refl
swap_tests true false true = refl
swap_tests true false false = refl
swap_tests false y z = refl

pub meet_back : (a b : Span) → spans_meet a b ≡ spans_meet b a
meet_back a b =
    ap (λ (t : Bool). (t && int_le a.low b.high) && int_le b.low a.high) (eq_turn a.table b.table) ∙ swap_tests (b.table == a.table) (int_le a.low b.high) (int_le b.low a.high)

pub spans_conflict : (a b : Need Span) → is_conflict spans_meet a b ≡ conflict (part_of a) (part_of b)
spans_conflict a b = refl
