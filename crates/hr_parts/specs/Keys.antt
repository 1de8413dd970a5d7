-- Between which keys the rows lie that a statement uses.
use Rattle.std.specs.Prelude.{ℕ, suc, ℤ, pos, ◌+ℤ◌, ◌-ℤ◌, int_le, Bool, true, false, ◌&&◌, ◌==◌, if◌then◌else◌, Option, Some, None, List, [], ◌∷◌, ◌++◌}
use Rattle.std.specs.Int.{int_max, int_min}
use Rattle.std.specs.List.{flat_map}
use Rattle.hr_rel.specs.declared.value.Value.{Value}
use Rattle.hr_rel.specs.declared.value.Value.TheVariants as value
use Rattle.hr_rel.specs.declared.expr.ColRef.{ColRef}
use Rattle.hr_rel.specs.declared.expr.Op.{Op}
use Rattle.hr_rel.specs.declared.expr.Op.TheVariants as op
use Rattle.hr_rel.specs.declared.expr.Operand.{Operand}
use Rattle.hr_rel.specs.declared.expr.Operand.TheVariants as operand
use Rattle.hr_rel.specs.declared.expr.Pred.{Pred, fold-Pred}
use Rattle.hr_rel.specs.declared.expr.Pred.TheOpen.{Pred-F}
use Rattle.hr_rel.specs.declared.stmt.Stmt.{Stmt}
use Rattle.hr_rel.specs.declared.stmt.Stmt.TheVariants as stmt
use Rattle.hr_rel.specs.declared.stmt.SelectStmt.{SelectStmt}
use Rattle.hr_rel.specs.Database.{key_of}
use Rattle.hr_parts.specs.declared.keys.Keys.{Keys}
use Rattle.hr_parts.specs.Parts.{Part}
use Rattle.hr_parts.specs.Footprints.{least_key, greatest_key}

-- ---- intervals, of which None is the empty one

abbrev pub has_in : Option Keys → ℤ → Bool
has_in None k = false
has_in (Some keys) k = int_le keys.low k && int_le k keys.high

abbrev pub all_keys : Option Keys
all_keys = Some record { low = least_key; high = greatest_key }

-- the keys from one number to another
abbrev pub from_to : ℤ → ℤ → Option Keys
from_to low high = if int_le low high then Some record { low = low; high = high } else None

-- the keys in both
abbrev pub common : Option Keys → Option Keys → Option Keys
common None b = None
common (Some a) None = None
common (Some a) (Some b) = from_to (int_max a.low b.low) (int_min a.high b.high)

-- the least interval that holds both
abbrev pub spanning : Option Keys → Option Keys → Option Keys
spanning None b = b
spanning (Some a) None = Some a
spanning (Some a) (Some b) = Some record { low = int_min a.low b.low; high = int_max a.high b.high }

-- ---- conditions

-- the keys that stand so to a number
abbrev pub keys_to : Op → ℤ → Option Keys
keys_to op.Eq n = from_to n n
keys_to op.Ne n = all_keys
keys_to op.Lt n = from_to least_key (n -ℤ pos 1)
keys_to op.Le n = from_to least_key n
keys_to op.Gt n = from_to (n +ℤ pos 1) greatest_key
keys_to op.Ge n = from_to n greatest_key

-- a comparison read from the right
abbrev pub mirrored : Op → Op
mirrored op.Eq = op.Eq
mirrored op.Ne = op.Ne
mirrored op.Lt = op.Gt
mirrored op.Le = op.Ge
mirrored op.Gt = op.Lt
mirrored op.Ge = op.Le

-- the keys for which a comparison with a literal can be true: with NULL none
abbrev pub keys_by : Op → Value → Option Keys
keys_by o value.Null = None
keys_by o (value.Int n) = keys_to o n
keys_by o (value.Text t) = all_keys

-- whether it is the key of the table entry with this place
abbrev pub is_the_key : ℕ → ColRef → Bool
is_the_key entry c = (c.entry == entry) && (c.column == 0)

-- a comparison of the key with a literal, on either side; every other one tells nothing of the key
abbrev pub compared_keys : ℕ → Op → Operand → Operand → Option Keys
compared_keys entry o (operand.Col c) (operand.Lit v) = if is_the_key entry c then keys_by o v else all_keys
compared_keys entry o (operand.Lit v) (operand.Col c) = if is_the_key entry c then keys_by (mirrored o) v else all_keys
compared_keys entry o (operand.Col c) (operand.Col d) = all_keys
compared_keys entry o (operand.Lit v) (operand.Lit w) = all_keys

abbrev pub keys_layer : ℕ → Pred-F (Option Keys) → Option Keys
keys_layer entry (Pred-F.Compare o a b) = compared_keys entry o a b
keys_layer entry (Pred-F.IsNull a) = all_keys
keys_layer entry (Pred-F.And a b) = common a b
keys_layer entry (Pred-F.Or a b) = spanning a b
keys_layer entry (Pred-F.Not a) = all_keys

-- the interval of a table entry's keys outside which a condition isn't true
abbrev pub keys_of : ℕ → Pred → Option Keys
keys_of entry p = fold-Pred (Option Keys) (keys_layer entry) p

-- where there is no condition, all
abbrev pub kept_keys : ℕ → Option Pred → Option Keys
kept_keys entry None = all_keys
kept_keys entry (Some p) = keys_of entry p

-- ---- statements

-- ON and WHERE together, as by AND
abbrev pub select_keys : ℕ → SelectStmt → Option Keys
select_keys entry s = common (kept_keys entry s.on) (kept_keys entry s.filter)

-- a key alone, where it is a number
abbrev pub one_key : Option ℤ → Option Keys
one_key None = None
one_key (Some n) = Some record { low = n; high = n }

-- the least interval that holds the keys of new rows
abbrev pub new_keys : List (List Value) → Option Keys
new_keys [] = None
new_keys (row ∷ rows) = spanning (one_key (key_of row)) (new_keys rows)

-- the part of a table with these keys; none where there are none
abbrev pub key_part : Bool → ℕ → Option Keys → List Part
key_part w t None = []
key_part w t (Some keys) = record { table = t; low = keys.low; high = keys.high; written = w } ∷ []

-- the parts of a SELECT's table entries, of which the first has this place
abbrev pub entry_parts : ℕ → SelectStmt → List ℕ → List Part
entry_parts entry s [] = []
entry_parts entry s (t ∷ ts) = key_part false t (select_keys entry s) ++ entry_parts (suc entry) s ts

-- the keys that a statement reads, or that it changes
abbrev pub key_parts : Stmt → List Part
key_parts (stmt.Select s) = entry_parts 0 s s.tables
key_parts (stmt.Insert s) = key_part true s.table (new_keys s.rows)
key_parts (stmt.Update s) = key_part true s.table (kept_keys 0 s.filter)
key_parts (stmt.Delete s) = key_part true s.table (kept_keys 0 s.filter)

-- the keys of a list of statements
abbrev pub keys_of_all : List Stmt → List Part
keys_of_all stmts = flat_map key_parts stmts
