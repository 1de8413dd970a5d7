use Rattle.std.specs.Prelude.{◌≡◌, ℕ, true, ◌≤◌, List, length}
use Rattle.std.specs.List.{list_all}
use Rattle.hr_base.specs.Bytes.{is_printable}
use Rattle.hr_base.specs.declared.limits.TheConstants.{MAX_TEXT_BYTES}

-- bytes that a text value may have: at most 64 of them, all printable
abbrev pub IsText : List ℕ → Type 0
IsText bytes = (length bytes ≤ MAX_TEXT_BYTES) × (list_all is_printable bytes ≡ true)
