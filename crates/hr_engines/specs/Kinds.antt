-- One of two engines.
use Rattle.std.proofs.Common.{◌≡◌, ℕ, Bool, true, List, ◌∷◌}
use Rattle.hr_rel.specs.Database.{Database}
use Rattle.hr_engine.specs.Journal.{Journal}
use Rattle.hr_engine.specs.Backend.{IsLegal}
use Rattle.hr_engines.specs.declared.engine.Engine.{Engine}
use Rattle.hr_engines.specs.declared.engine.Engine.TheVariants as engine

-- Not to be believed: a step of the proofs below.
behind : (n : ℕ) (xs ys : List ℕ) → n ∷ xs ≡ n ∷ ys → xs ≡ ys
behind n xs ys e = cc

module _ {T R : Type 0} where
  -- f of a table engine, or g of a range engine
  abbrev pub by_kind : {X : Type 0} → (T → X) → (R → X) → Engine T R → X
  by_kind f g (engine.Table t) = f t
  by_kind f g (engine.Range r) = g r

  -- what holds of the one or of the other
  abbrev pub MatchKind : Engine T R → (T → Type 0) → (R → Type 0) → Type 0
  MatchKind (engine.Table t) P Q = P t
  MatchKind (engine.Range r) P Q = Q r

  -- the numbers of the one or of the other, told apart by the first
  abbrev pub make_of : (T → List ℕ) → (R → List ℕ) → Engine T R → List ℕ
  make_of f g (engine.Table t) = 0 ∷ f t
  make_of f g (engine.Range r) = 1 ∷ g r

  -- The rest isn't to be believed: the proofs of the trait's laws.

  pub honest_by_make : (make_t : T → List ℕ) (make_r : R → List ℕ) (honest_t : T → Bool) (honest_r : R → Bool) → ((a b : T) → make_t a ≡ make_t b → honest_t a ≡ honest_t b)
      → ((a b : R) → make_r a ≡ make_r b → honest_r a ≡ honest_r b) → (a b : Engine T R) → make_of make_t make_r a ≡ make_of make_t make_r b → by_kind honest_t honest_r a ≡ by_kind honest_t honest_r b
  honest_by_make make_t make_r honest_t honest_r law_t law_r (engine.Table a) (engine.Table b) e = law_t a b (behind 0 (make_t a) (make_t b) e)
  honest_by_make make_t make_r honest_t honest_r law_t law_r (engine.Range a) (engine.Range b) e = law_r a b (behind 1 (make_r a) (make_r b) e)
  honest_by_make make_t make_r honest_t honest_r law_t law_r (engine.Table a) (engine.Range b) e = cc
  honest_by_make make_t make_r honest_t honest_r law_t law_r (engine.Range a) (engine.Table b) e = cc

  pub legal_by_kind : (honest_t : T → Bool) (honest_r : R → Bool) (base_t : T → Database) (base_r : R → Database) (stands_t : T → Database → Journal → Type 0) (stands_r : R → Database → Journal → Type 0)
      → ((b : T) (db : Database) (journal : Journal) → honest_t b ≡ true → stands_t b db journal → IsLegal db journal (base_t b))
      → ((b : R) (db : Database) (journal : Journal) → honest_r b ≡ true → stands_r b db journal → IsLegal db journal (base_r b))
      → (b : Engine T R) (db : Database) (journal : Journal) → by_kind honest_t honest_r b ≡ true → MatchKind b (λ t. stands_t t db journal) (λ r. stands_r r db journal)
      → IsLegal db journal (by_kind base_t base_r b)
  legal_by_kind honest_t honest_r base_t base_r stands_t stands_r law_t law_r (engine.Table t) db journal honest stands = law_t t db journal honest stands
  legal_by_kind honest_t honest_r base_t base_r stands_t stands_r law_t law_r (engine.Range r) db journal honest stands = law_r r db journal honest stands
