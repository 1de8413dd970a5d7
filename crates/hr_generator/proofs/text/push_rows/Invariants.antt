use Rattle.std.proofs.Common.{◌≡◌, ◌++◌, string_bytes}
use Rattle.std.specs.List.{flat_map}
use Rattle.hr_base.specs.Lists.{one_to}
use Rattle.hr_generator.specs.Made.{row_text}
use Rattle.hr_generator.proofs.text.push_rows.Given as goal

abbrev pub invariant-rows : goal.invariant-rows
invariant-rows l = string_bytes l.out ≡ string_bytes l.fn.out ++ flat_map row_text (one_to l.before)
