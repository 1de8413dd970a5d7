-- The words by which lines without parentheses begin.
use Rattle.std.specs.Prelude.{Option, Some, None, if◌then◌else◌, codes}
use Rattle.std.specs.Option.{option_or}
use Rattle.std.specs.Str.{bytes_eq}
use Rattle.hr_base.specs.Texts.{Text}
use Rattle.hr_forms.specs.declared.heading.Heading.{Heading}
use Rattle.hr_forms.specs.declared.heading.Heading.TheVariants as heading

-- the lines that say how many replicas there are, and of what kind
abbrev pub head_of : Text → Option Heading
head_of word =
    if bytes_eq word (codes "hrdb") then Some heading.Version
    else (if bytes_eq word (codes "f") then Some heading.Liars
    else (if bytes_eq word (codes "replicas") then Some heading.Replicas
    else (if bytes_eq word (codes "retries") then Some heading.Retries
    else None)))

-- the lines behind these
abbrev pub part_of : Text → Option Heading
part_of word =
    if bytes_eq word (codes "index") then Some heading.Index
    else (if bytes_eq word (codes "lie") then Some heading.Lie
    else (if bytes_eq word (codes "lose") then Some heading.Lose
    else (if bytes_eq word (codes "suspect") then Some heading.Suspect
    else (if bytes_eq word (codes "session") then Some heading.Session
    else (if bytes_eq word (codes "schedule") then Some heading.Schedule
    else None)))))

-- what a first word is
unfoldable pub heading_of : Text → Option Heading
heading_of word = option_or (head_of word) (part_of word)
