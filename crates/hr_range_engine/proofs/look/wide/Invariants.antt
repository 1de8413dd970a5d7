use Rattle.std.proofs.Common.{◌≡◌, ℤ, true, take}
use Rattle.hr_parts.specs.Parts.{covers}
use Rattle.hr_plan.specs.Needs.{parts_of}
use Rattle.hr_range_engine.specs.Shown.{is_within}
use Rattle.hr_range_engine.proofs.look.wide.Given as goal

abbrev pub invariant-needs : goal.invariant-needs
invariant-needs l = record {
  table : l.span.table ≡ l.table;
  wide : (k : ℤ) → covers (parts_of (take l.need-index l.needs)) l.table k ≡ true → is_within l.span.low l.span.high k ≡ true;
}
