-- What the end of a transaction makes of what is committed and seen.
use Rattle.std.proofs.Common.{◌≡◌, ℕ, ℤ, Bool, true, false, cond, ◌==◌, Option, Some, None, List, refl, ap, sym, ◌∙◌}
use Rattle.std.specs.Prelude.{◌≢◌}
use Rattle.std.proofs.lemmas.Bool.{and_from, and_parts, both_ways, false_from_ne_true, eq-eqb, eqb-true}
use Rattle.hr_rel.specs.declared.value.Value.{Value}
use Rattle.hr_rel.specs.declared.catalog.Catalog.{Catalog}
use Rattle.hr_rel.specs.Database.{Database}
use Rattle.hr_parts.proofs.Together.{same_database}
use Rattle.hr_store.specs.declared.cell.Cell.{Cell}
use Rattle.hr_store.specs.declared.cell.Pending.{Pending}
use Rattle.hr_store.specs.declared.store.Store.{Store}
use Rattle.hr_store.specs.declared.ending.Ending.{Ending}
use Rattle.hr_store.specs.declared.ending.Ending.TheVariants.{Commit, Rollback}
use Rattle.hr_store.specs.Cells.{pending_row, is_pending_of, seen_in, closed, ended, forgotten}
use Rattle.hr_store.specs.Store.{cell_at, tables_of}
use Rattle.hr_store.proofs.ViewLaws.{commit_seen, rollback_committed}
use Rattle.hr_lock_engine.specs.Views.{IsView, Sees, OthersSee, SeeCommitted, WroteNothing}
use Rattle.hr_range_engine.specs.Shown.{stands_at, is_sound_at, IsOf, committed_base, seen_by, wrote_by}
use Rattle.hr_range_engine.specs.Laws.{base_row, base_ordered}

-- ---- one cell

module _ (committed : Option (List Value)) where
  abbrev cell_with : Option Pending → Cell
  cell_with pending = record { committed = committed; pending = pending }

  twice : {X : Type 0} (d : Bool) (x y : X) → cond d x y ≡ cond d (cond d x y) y
  twice true x y = refl
  twice false x y = refl

  either : {X : Type 0} (d : Bool) (x y : X) → x ≡ cond d (cond d x y) x
  either true x y = refl
  either false x y = refl

  see_by : (txn u : ℕ) (o : Option Pending) → seen_in u (ended Commit txn (cell_with o)) ≡ cond (is_pending_of u (cell_with o)) (seen_in u (cell_with o)) (seen_in txn (cell_with o))
  see_by txn u None = refl
  see_by txn u (Some p) = by_txn (p.txn == txn)
    where
      by_txn : (c : Bool) → seen_in u (cond c (closed Commit (cell_with (Some p))) (cell_with (Some p))) ≡ cond (p.txn == u) (cond (p.txn == u) p.row committed) (cond c p.row committed)
      by_txn true = either (p.txn == u) p.row committed
      by_txn false = twice (p.txn == u) p.row committed

  others_by : (txn u : ℕ) → u ≢ txn → (o : Option Pending) → seen_in u (ended Rollback txn (cell_with o)) ≡ seen_in u (cell_with o)
  others_by txn u differ None = refl
  others_by txn u differ (Some p) = by_txn (p.txn == txn) refl
    where
      by_txn : (c : Bool) → (p.txn == txn) ≡ c → seen_in u (cond c (closed Rollback (cell_with (Some p))) (cell_with (Some p))) ≡ cond (p.txn == u) p.row committed
      by_txn true e = ap (λ (d : Bool). cond d p.row committed)
          (sym (false_from_ne_true (p.txn == u) (λ h. differ (sym (eqb-true p.txn u h) ∙ eqb-true p.txn txn e))))
      by_txn false e = refl

  own_by : (txn : ℕ) (o : Option Pending) → seen_in txn (ended Rollback txn (cell_with o)) ≡ committed
  own_by txn None = refl
  own_by txn (Some p) = by_txn (p.txn == txn) refl
    where
      by_txn : (c : Bool) → (p.txn == txn) ≡ c → seen_in txn (cond c (closed Rollback (cell_with (Some p))) (cell_with (Some p))) ≡ committed
      by_txn true e = refl
      by_txn false e = ap (λ (d : Bool). cond d p.row committed) e

  closed_by : (e : Ending) (u : ℕ) (p : Pending) → is_pending_of u (closed e (cell_with (Some p))) ≡ false
  closed_by Commit u p = refl
  closed_by Rollback u p = refl

  wrote_by_cell : (e : Ending) (txn u : ℕ) (o : Option Pending) → is_pending_of u (ended e txn (cell_with o)) ≡ true → (u ≢ txn) × (is_pending_of u (cell_with o) ≡ true)
  wrote_by_cell e txn u None h = cc
  wrote_by_cell e txn u (Some p) h = by_txn (p.txn == txn) refl h
    where
      by_txn : (c : Bool) → (p.txn == txn) ≡ c → is_pending_of u (cond c (closed e (cell_with (Some p))) (cell_with (Some p))) ≡ true → (u ≢ txn) × ((p.txn == u) ≡ true)
      by_txn true f k = absurd (both_ways (is_pending_of u (closed e (cell_with (Some p)))) (closed_by e u p) k)
      by_txn false f k = (λ same. both_ways (p.txn == txn) f (eq-eqb p.txn txn (eqb-true p.txn u k ∙ same)), k)

  module _ (tables t : ℕ) (k : ℤ) where
    sound_closed : (e : Ending) (p : Pending) → stands_at tables t k committed ≡ true → stands_at tables t k p.row ≡ true → is_sound_at tables t k (closed e (cell_with (Some p))) ≡ true
    sound_closed Commit p h i = and_from (stands_at tables t k p.row) true i refl
    sound_closed Rollback p h i = and_from (stands_at tables t k committed) true h refl

    sound_by : (e : Ending) (txn : ℕ) (o : Option Pending) → is_sound_at tables t k (cell_with o) ≡ true → is_sound_at tables t k (ended e txn (cell_with o)) ≡ true
    sound_by e txn None h = h
    sound_by e txn (Some p) h = by_txn (p.txn == txn)
      where
        by_txn : (c : Bool) → is_sound_at tables t k (cond c (closed e (cell_with (Some p))) (cell_with (Some p))) ≡ true
        by_txn true = let both = and_parts (stands_at tables t k committed) (stands_at tables t k p.row) h in sound_closed e p both.0 both.1
        by_txn false = h

    sound_forgotten_by : (o : Option Pending) → is_sound_at tables t k (cell_with o) ≡ true → is_sound_at tables t k (forgotten (cell_with o)) ≡ true
    sound_forgotten_by o h = and_from (stands_at tables t k committed) true (and_parts (stands_at tables t k committed) (stands_at tables t k (pending_row o)) h).0 refl

-- ---- a store whose cells have changed

module _ (catalog : Catalog) (before now : Store) (whole : IsOf catalog before) (tables : tables_of now ≡ tables_of before) where
  pub with_sound : ((t : ℕ) (k : ℤ) → is_sound_at (tables_of before) t k (cell_at now t k) ≡ true) → IsOf catalog now
  with_sound rows = record {
    sound = whole.sound;
    count = tables ∙ whole.count;
    rows = λ t k. ap (λ (n : ℕ). is_sound_at n t k (cell_at now t k)) tables ∙ rows t k;
  }

  -- the base stays where what is committed in the cells does
  pub same_base : IsOf catalog now → ((t : ℕ) (k : ℤ) → (cell_at now t k).committed ≡ (cell_at before t k).committed) → committed_base catalog now ≡ committed_base catalog before
  same_base after same =
      same_database (committed_base catalog now) (committed_base catalog before) (base_ordered catalog now after.rows after.sound after.count)
      (base_ordered catalog before whole.rows whole.sound whole.count) refl (λ t k. base_row catalog now after.rows t k ∙ same t k ∙ sym (base_row catalog before whole.rows t k))

  -- ---- the same cells

  module _ (same : (t : ℕ) (k : ℤ) → cell_at now t k ≡ cell_at before t k) where
    pub whole_same : IsOf catalog now
    whole_same = with_sound (λ t k. ap (is_sound_at (tables_of before) t k) (same t k) ∙ whole.rows t k)

    pub base_same : committed_base catalog now ≡ committed_base catalog before
    base_same = same_base whole_same (λ t k. ap (λ (c : Cell). c.committed) (same t k))

  -- ---- ends

  module _ (e : Ending) (txn : ℕ) (ends : (t : ℕ) (k : ℤ) → cell_at now t k ≡ ended e txn (cell_at before t k)) where
    pub whole_ended : IsOf catalog now
    whole_ended = with_sound (λ t k. let c = cell_at before t k in
        ap (is_sound_at (tables_of before) t k) (ends t k) ∙ sound_by c.committed (tables_of before) t k e txn c.pending (whole.rows t k))

    pub wrote_ended : WroteNothing txn (wrote_by before) (wrote_by now)
    wrote_ended u t k w = let c = cell_at before t k in wrote_by_cell c.committed e txn u c.pending (sym (ap (is_pending_of u) (ends t k)) ∙ w)

  module _ (txn : ℕ) (ends : (t : ℕ) (k : ℤ) → cell_at now t k ≡ ended Commit txn (cell_at before t k)) where
    pub commit_base : (db : Database) → IsView (committed_base catalog before) (seen_by before txn) db → committed_base catalog now ≡ db
    commit_base db view =
        let after = whole_ended Commit txn ends in
        same_database (committed_base catalog now) db (base_ordered catalog now after.rows after.sound after.count) view.ordered (sym view.catalog)
        (λ t k. base_row catalog now after.rows t k ∙ ap (λ (c : Cell). c.committed) (ends t k) ∙ commit_seen txn (cell_at before t k) ∙ view.rows t k)

    pub commit_sees : SeeCommitted txn (wrote_by before) (seen_by before) (seen_by now)
    commit_sees u t k = let c = cell_at before t k in ap (seen_in u) (ends t k) ∙ see_by c.committed txn u c.pending

  module _ (txn : ℕ) (ends : (t : ℕ) (k : ℤ) → cell_at now t k ≡ ended Rollback txn (cell_at before t k)) where
    pub rollback_base : committed_base catalog now ≡ committed_base catalog before
    rollback_base = same_base (whole_ended Rollback txn ends) (λ t k. ap (λ (c : Cell). c.committed) (ends t k) ∙ rollback_committed txn (cell_at before t k))

    pub rollback_sees : Sees (seen_by now) txn (committed_base catalog before)
    rollback_sees t k = let c = cell_at before t k in ap (seen_in txn) (ends t k) ∙ own_by c.committed txn c.pending ∙ sym (base_row catalog before whole.rows t k)

    pub rollback_others : OthersSee txn (seen_by before) (seen_by now)
    rollback_others u t k differ = let c = cell_at before t k in ap (seen_in u) (ends t k) ∙ others_by c.committed txn u differ c.pending

  module _ (ends : (t : ℕ) (k : ℤ) → cell_at now t k ≡ forgotten (cell_at before t k)) where
    pub whole_forgotten : IsOf catalog now
    whole_forgotten = with_sound (λ t k. let c = cell_at before t k in
        ap (is_sound_at (tables_of before) t k) (ends t k) ∙ sound_forgotten_by c.committed (tables_of before) t k c.pending (whole.rows t k))

    pub forget_base : committed_base catalog now ≡ committed_base catalog before
    forget_base = same_base whole_forgotten (λ t k. ap (λ (c : Cell). c.committed) (ends t k))

    pub forget_sees : (u : ℕ) → Sees (seen_by now) u (committed_base catalog before)
    forget_sees u t k = ap (seen_in u) (ends t k) ∙ sym (base_row catalog before whole.rows t k)

    pub forget_wrote : (u t : ℕ) (k : ℤ) → wrote_by now u t k ≡ false
    forget_wrote u t k = ap (is_pending_of u) (ends t k)
