-- The lines of a session.
use Rattle.std.specs.Prelude.{ℕ, ◌-◌, Option, Some, None, List, [], ◌∷◌, length, take, drop, if◌then◌else◌, codes}
use Rattle.std.specs.Str.{bytes_eq, str_eq_ignore_ascii_case}
use Rattle.hr_base.specs.Texts.{Text}
use Rattle.hr_line.specs.Words.{only, words_of}
use Rattle.hr_line.specs.declared.script.ScriptForm.{ScriptForm}
use Rattle.hr_line.specs.declared.script.ScriptForm.TheVariants as script

-- a text without the one `;` that may end it
abbrev pub without_semicolon : Text → Text
without_semicolon text =
    let front = length text - 1 in if bytes_eq (drop front text) (codes ";") then take front text else text

-- BEGIN, COMMIT and ROLLBACK in either case; another line is a statement
abbrev pub command : Option Text → ScriptForm
command None = script.Statement
command (Some word) =
    if str_eq_ignore_ascii_case word (codes "BEGIN") then script.Begin
    else (if str_eq_ignore_ascii_case word (codes "COMMIT") then script.Commit
    else (if str_eq_ignore_ascii_case word (codes "ROLLBACK") then script.Rollback
    else script.Statement))

-- what a line of a session holds
abbrev pub script_form_of : Text → ScriptForm
script_form_of line = if bytes_eq line (codes "end") then script.End else command (only (words_of (without_semicolon line)))
