-- What transactions see of a store's rows beside each other. `seen u t k`: the row at key k of table t that transaction u
-- sees, if it sees one. `wrote u t k`: whether u has written there. Keys are numbers of 64 bits: at others there are no rows.
use Rattle.std.specs.Prelude.{◌≡◌, ◌≢◌, ◌⊎◌, ℕ, ℤ, Bool, true, false, if◌then◌else◌, Option, List}
use Rattle.hr_rel.specs.declared.value.Value.{Value}
use Rattle.hr_rel.specs.Database.{Database}
use Rattle.hr_rel.specs.Kinds.{fits_i64}
use Rattle.hr_rel.specs.Holds.{IsOrdered}
use Rattle.hr_parts.specs.Parts.{Part, covers, written, row_at}

abbrev pub Seen : Type 0
Seen = ℕ → ℕ → ℤ → Option (List Value)

abbrev pub Wrote : Type 0
Wrote = ℕ → ℕ → ℤ → Bool

-- The database that a transaction sees: one in order, of this base's catalog, with these rows.
pub record IsView (base : Database) (seen_at : ℕ → ℤ → Option (List Value)) (db : Database) : Type 0 where
  pub ordered : IsOrdered db
  pub catalog : db.catalog ≡ base.catalog
  pub rows : (t : ℕ) (k : ℤ) → seen_at t k ≡ row_at db t k

-- no other transaction has written in these parts
abbrev pub AreFree : Wrote → ℕ → List Part → Type 0
AreFree wrote txn parts = (u t : ℕ) (k : ℤ) → u ≢ txn → fits_i64 k ≡ true → covers parts t k ≡ true → wrote u t k ≡ false

-- a transaction sees the rows of a database
abbrev pub Sees : Seen → ℕ → Database → Type 0
Sees seen txn db = (t : ℕ) (k : ℤ) → seen txn t k ≡ row_at db t k

-- every transaction sees what it saw
abbrev pub SameSeen : Seen → Seen → Type 0
SameSeen before now = (u t : ℕ) (k : ℤ) → now u t k ≡ before u t k

-- every other transaction sees what it saw
abbrev pub OthersSee : ℕ → Seen → Seen → Type 0
OthersSee txn before now = (u t : ℕ) (k : ℤ) → u ≢ txn → now u t k ≡ before u t k

-- after a commit everybody sees what the transaction saw, but where they have written themselves
abbrev pub SeeCommitted : ℕ → Wrote → Seen → Seen → Type 0
SeeCommitted txn wrote before now = (u t : ℕ) (k : ℤ) → now u t k ≡ (if wrote u t k then before u t k else before txn t k)

-- the transaction has written in these parts at most, and the others nothing new
abbrev pub WroteWithin : ℕ → List Part → Wrote → Wrote → Type 0
WroteWithin txn parts before now = (u t : ℕ) (k : ℤ) → fits_i64 k ≡ true → now u t k ≡ true → (before u t k ≡ true) ⊎ ((u ≡ txn) × (covers (written parts) t k ≡ true))

-- nobody has written anything new
abbrev pub NoMoreWrote : Wrote → Wrote → Type 0
NoMoreWrote before now = (u t : ℕ) (k : ℤ) → now u t k ≡ true → before u t k ≡ true

-- what a transaction has written is forgotten
abbrev pub WroteNothing : ℕ → Wrote → Wrote → Type 0
WroteNothing txn before now = (u t : ℕ) (k : ℤ) → now u t k ≡ true → (u ≢ txn) × (before u t k ≡ true)
