-- The words by which the lines of a report begin.
use Rattle.std.specs.Prelude.{Option, Some, None, codes, if◌then◌else◌}
use Rattle.std.specs.Str.{bytes_eq}
use Rattle.hr_base.specs.Texts.{Text}
use Rattle.hr_report_reader.specs.declared.heading.Heading.{Heading}
use Rattle.hr_report_reader.specs.declared.heading.Heading.TheVariants as heading

abbrev pub told_first : Text → Option Heading
told_first word =
    if bytes_eq word (codes "hrdb") then Some heading.Report
    else (if bytes_eq word (codes "commits") then Some heading.Commits
    else (if bytes_eq word (codes "commit") then Some heading.Commit
    else (if bytes_eq word (codes "session") then Some heading.Session
    else (if bytes_eq word (codes "block") then Some heading.Block
    else None))))

abbrev pub told_behind : Text → Option Heading
told_behind word =
    if bytes_eq word (codes "convicted") then Some heading.Convicted
    else (if bytes_eq word (codes "replica") then Some heading.Replica
    else (if bytes_eq word (codes "table") then Some heading.Table
    else (if bytes_eq word (codes "end") then Some heading.End
    else None)))

abbrev pub or_behind : Text → Option Heading → Option Heading
or_behind word None = told_behind word
or_behind word (Some h) = Some h

unfoldable pub heading_of : Text → Option Heading
heading_of word = or_behind word (told_first word)
