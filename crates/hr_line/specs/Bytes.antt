-- What a line may be made of, and what of it is read.
use Rattle.std.specs.Prelude.{ℕ, ◌-◌, Bool, true, ◌||◌, ◌&&◌, nat_le, nat_lt, ◌==◌, not, List, [], ◌∷◌, length, take, drop, Option, Some, None, Result, Ok, Err, if◌then◌else◌}
use Rattle.std.specs.List.{list_all, prefix_len, suffix_len}
use Rattle.std.specs.Str.{bytes_eq}
use Rattle.hr_base.specs.Bytes.{is_printable}
use Rattle.hr_base.specs.Texts.{Text}
use Rattle.hr_lex.specs.Bytes.{is_blank}
use Rattle.hr_line.specs.declared.bytes.LineFault.{LineFault}
use Rattle.hr_line.specs.declared.bytes.LineFault.TheVariants.{TooLong, BadByte}
use Rattle.hr_line.specs.declared.bytes.TheConstants.{MAX_LINE_BYTES}

-- a line's bytes are printable ones and tabs
abbrev pub is_line_byte : ℕ → Bool
is_line_byte b = is_printable b || b == 9

-- what a line feed ends, without the one carriage return that may stand right before the line feed
abbrev pub without_return : Text → Text
without_return text =
    let front = length text - 1 in if bytes_eq (drop front text) (13 ∷ []) then take front text else text

-- a text without the blanks at its end
abbrev pub end_trimmed : Text → Text
end_trimmed text = take (length text - suffix_len is_blank text) text

-- a text without the blanks at both ends
abbrev pub trimmed : Text → Text
trimmed text = end_trimmed (drop (prefix_len is_blank text) text)

-- what a line holds: it without the blanks at its ends, where it isn't too long and each of its bytes may stand in a line
abbrev pub content_of : Text → Result Text LineFault
content_of line =
    if nat_lt MAX_LINE_BYTES (length line) then Err TooLong
    else (if list_all is_line_byte line then Ok (trimmed line) else Err BadByte)

-- an empty line, or a comment
abbrev pub is_skipped : Text → Bool
is_skipped [] = true
is_skipped (b ∷ text) = b == 35
