-- Texts within quotes.
use Rattle.std.specs.Prelude.{ℕ, ◌+◌, Bool, true, false, ◌==◌, List, [], ◌∷◌, Result, Ok, Err, if◌then◌else◌}
use Rattle.hr_base.specs.Bytes.{is_printable}
use Rattle.hr_lex.specs.declared.quote.QuoteFault.{QuoteFault}
use Rattle.hr_lex.specs.declared.quote.QuoteFault.TheVariants.{Open, BadByte}

-- The place behind the closing quote, for bytes at a place behind the opening one. A quote closes unless it is
-- doubled: the test says that the byte before is a quote that may still be doubled.
abbrev pub closing : Bool → ℕ → List ℕ → Result ℕ QuoteFault
closing true at [] = Ok at
closing false at [] = Err Open
closing true at (b ∷ bytes) = if b == 39 then closing false (at + 1) bytes else Ok at
closing false at (b ∷ bytes) =
    if b == 39 then closing true (at + 1) bytes
    else (if is_printable b then closing false (at + 1) bytes else Err (BadByte at))
