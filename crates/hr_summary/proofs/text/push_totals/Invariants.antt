use Rattle.std.proofs.Common.{◌≡◌, ◌++◌, take, string_bytes}
use Rattle.std.specs.List.{flat_map}
use Rattle.hr_summary.specs.Summary.{total_text}
use Rattle.hr_summary.proofs.text.push_totals.Given as goal

abbrev pub invariant-dumps : goal.invariant-dumps
invariant-dumps l = string_bytes l.out ≡ string_bytes l.fn.out ++ flat_map total_text (take l.rows-index l.dumps)
