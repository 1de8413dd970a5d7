-- Not to be believed: what of a table is seen, which the trait's law cites.
use Rattle.std.proofs.Common.{◌≡◌, ℕ, zero, suc, ℤ, Bool, false, cond, not, Option, Some, None, List, [], ◌∷◌, length, refl, ap, sym, ◌∙◌, arith}
use Rattle.std.specs.Prelude.{unwrap_or, slice_get}
use Rattle.std.specs.List.{find}
use Rattle.hr_rel.specs.declared.value.Value.{Value}
use Rattle.hr_rel.specs.Database.{Database, rows_of}
use Rattle.hr_meaning.specs.Insert.{has_key}
use Rattle.hr_parts.specs.Parts.{row_at}
use Rattle.hr_table_engine.specs.declared.before.Before.{Before}
use Rattle.hr_table_engine.specs.Undo.{slot_rows, undone, database_without, everyone, others_than, committed_in, seen_in, slot_at, is_of, wrote_in}

-- the rows of one table once changes are undone
pub undone_at : (undoes : ℕ → Bool) (slots : List (Option Before)) (tables : List (List (List Value))) (t : ℕ) → length slots ≡ length tables
    → unwrap_or (slice_get (undone undoes slots tables) t) [] ≡ slot_rows undoes (slot_at slots t) (unwrap_or (slice_get tables t) [])
undone_at undoes [] [] t e = refl
undone_at undoes [] (rows ∷ tables) t e = absurd (omega (arith, e))
undone_at undoes (slot ∷ slots) [] t e = absurd (omega (arith, e))
undone_at undoes (slot ∷ slots) (rows ∷ tables) zero e = refl
undone_at undoes (slot ∷ slots) (rows ∷ tables) (suc t) e = undone_at undoes slots tables t (omega (arith, e))

pub rows_without : (undoes : ℕ → Bool) (slots : List (Option Before)) (db : Database) (t : ℕ) → length slots ≡ length db.tables
    → rows_of (database_without undoes slots db) t ≡ slot_rows undoes (slot_at slots t) (rows_of db t)
rows_without undoes slots db t e = undone_at undoes slots db.tables t e

-- of another's table everyone sees the rows from before
same_slot : (slot : Option Before) (u : ℕ) (rows : List (List Value)) → is_of u slot ≡ false → slot_rows (others_than u) slot rows ≡ slot_rows everyone slot rows
same_slot None u rows h = refl
same_slot (Some b) u rows h = ap (λ (c : Bool). cond (not c) b.rows rows) h

pub unwritten_is_committed : (slots : List (Option Before)) (db : Database) → length slots ≡ length db.tables → (u t : ℕ) (k : ℤ) → wrote_in slots u t k ≡ false
    → seen_in slots db u t k ≡ row_at (committed_in slots db) t k
unwritten_is_committed slots db e u t k none =
    ap (find (has_key k)) (rows_without (others_than u) slots db t e ∙ same_slot (slot_at slots t) u (rows_of db t) none ∙ sym (rows_without everyone slots db t e))
