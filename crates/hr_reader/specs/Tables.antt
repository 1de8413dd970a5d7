-- What the code keeps apart: rows, which have a table, from all other forms of lines.
use Rattle.std.specs.Prelude.{Option, Some, None}
use Rattle.hr_line.specs.declared.name.LineName.{LineName}
use Rattle.hr_forms.specs.declared.line.LineForm.{LineForm}
use Rattle.hr_forms.specs.declared.line.LineForm.TheVariants as form

-- the table that a row comes to
abbrev pub row_table : LineForm → Option LineName
row_table (form.Row table) = Some table
row_table _ = None
