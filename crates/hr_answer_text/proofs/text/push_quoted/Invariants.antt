use Rattle.std.proofs.Common.{◌≡◌, ◌++◌, take, string_bytes}
use Rattle.std.specs.List.{flat_map}
use Rattle.hr_base.specs.Texts.{quoted_byte}
use Rattle.hr_answer_text.proofs.text.push_quoted.Given as goal

abbrev pub invariant-bytes : goal.invariant-bytes
invariant-bytes l = string_bytes l.out ≡ string_bytes l.fn.out ++ flat_map quoted_byte (take l.byte-index l.bytes)
