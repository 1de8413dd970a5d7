-- What one more call makes of what a store shows.
use Rattle.std.proofs.Common.{◌≡◌, ℕ, ℤ, Bool, true, false, cond, Ok, None, inl, inr, drop, List, [], ◌∷◌, refl, ap, ◌∙◌, sym}
use Rattle.std.specs.Prelude.{◌≢◌}
use Rattle.std.specs.List.{list_all, find, zip}
use Rattle.std.proofs.lemmas.Bool.{cases_eq, and_parts, both_ways, false_from_ne_true}
use Rattle.hr_rel.specs.declared.value.Value.{Value}
use Rattle.hr_rel.specs.declared.answer.Answer.{Answer}
use Rattle.hr_rel.specs.declared.stmt.Stmt.{Stmt}
use Rattle.hr_rel.specs.Database.{Database, rows_of}
use Rattle.hr_rel.specs.Kinds.{fits_i64}
use Rattle.hr_rel.specs.Holds.{IsOrdered, is_key, has_number_key, ascends}
use Rattle.hr_meaning.specs.Insert.{has_key}
use Rattle.hr_meaning.specs.Exec.{exec}
use Rattle.hr_meaning.specs.Serial.{play}
use Rattle.hr_engine.specs.declared.reply.RunReply.TheVariants as run
use Rattle.hr_engine.specs.declared.reply.EndReply.TheVariants as end
use Rattle.hr_engine.specs.Journal.{Ran, Committed, RolledBack, Restarted, Journal}
use Rattle.hr_engine.specs.Attempts.{RanStmt, attempt, statements}
use Rattle.hr_engine.specs.Base.{base}
use Rattle.hr_engine.proofs.AttemptLaws.{attempt-done, attempt-done_other, attempt-committed, attempt-committed_other, attempt-rolled_back, attempt-rolled_back_other}
use Rattle.hr_engine.proofs.BaseLaws.{base-committed}
use Rattle.hr_parts.specs.Parts.{Part, covers, written, row_at, Agree, Within}
use Rattle.hr_parts.proofs.Cover.{written_covered}
use Rattle.hr_parts.proofs.Rows.{key_is, found_later}
use Rattle.hr_parts.proofs.Statements.{in_order}
use Rattle.hr_parts.proofs.Lists.{play_ordered}
use Rattle.hr_parts.proofs.Together.{play_catalog, untouched}
use Rattle.hr_lock_engine.specs.Conflicts.{needed}
use Rattle.hr_lock_engine.specs.Views.{Seen, Wrote, IsView, Sees, SameSeen, OthersSee, SeeCommitted}
use Rattle.hr_lock_engine.specs.Keeps.{view_of, Tells, Stored}
use Rattle.hr_lock_engine.proofs.Tells.{after_more, within_needed, base_restarted}

-- ---- keys that are no numbers of 64 bits

other_key : (row : List Value) (k : ℤ) → has_number_key row ≡ true → fits_i64 k ≡ false → has_key k row ≡ false
other_key row k number unfit = false_from_ne_true (has_key k row) (λ h. both_ways (fits_i64 k) unfit (ap is_key (sym (key_is row k h)) ∙ number))

none_found : (rows : List (List Value)) (k : ℤ) → list_all has_number_key rows ≡ true → fits_i64 k ≡ false → find (has_key k) rows ≡ None
none_found [] k numbers unfit = refl
none_found (row ∷ rows) k numbers unfit =
    let both = and_parts (has_number_key row) (list_all has_number_key rows) numbers in
    found_later k row rows (other_key row k both.0 unfit) ∙ none_found rows k both.1 unfit

pub no_row : (db : Database) → IsOrdered db → (t : ℕ) (k : ℤ) → fits_i64 k ≡ false → row_at db t k ≡ None
no_row db ordered t k unfit =
    none_found (rows_of db t) k (and_parts (list_all has_number_key (rows_of db t)) (list_all ascends (zip (rows_of db t) (drop 1 (rows_of db t)))) (in_order db ordered t)).0 unfit

-- of two that are the same, either
either_same : {X : Type 0} (b : Bool) (x y z : X) → x ≡ z → y ≡ z → cond b x y ≡ z
either_same true x y z e f = e
either_same false x y z e f = f

module _ (parts : Stmt → List Part) (committed : Database) (seen : Seen) (start : Database) (journal : Journal) (tells : Tells parts start journal)
    (h : Stored committed seen start journal) where
  -- what a transaction sees is a database in order
  pub view_is : (t : ℕ) → IsView committed (seen t) (view_of start t journal)
  view_is t = record {
    ordered = play_ordered (statements (attempt t journal)) (base start journal) tells.ordered;
    catalog = play_catalog (statements (attempt t journal)) (base start journal) ∙ ap (λ (d : Database). d.catalog) (sym h.base);
    rows = h.seen t;
  }

  module _ (t : ℕ) (s : Stmt) where
    module _ (a : Answer) (base_now : Database) (now : Seen) (same : base_now ≡ committed) (sees : Sees now t (exec (view_of start t journal) s).after) (others : OthersSee t seen now) where
      abbrev done : Journal
      done = Ran t s (run.Done a) ∷ journal

      after_done : view_of start t done ≡ (exec (view_of start t journal) s).after
      after_done = ap (λ (l : List RanStmt). (play (base start journal) (statements l)).after) (attempt-done journal t s a) ∙ after_more (base start journal) (attempt t journal) s a

      pub stored_done : Stored base_now now start done
      stored_done = record {
        base = same ∙ h.base;
        seen = λ u x k. elim (cases_eq u t) [
          | inl e ↦
              ap (λ (y : ℕ). now y x k) e ∙ sees x k ∙ ap (λ (d : Database). row_at d x k) (sym after_done) ∙ ap (λ (y : ℕ). row_at (view_of start y done) x k) (sym e)
          | inr f ↦
              others u x k f ∙ h.seen u x k ∙ ap (λ (l : List RanStmt). row_at (play (base start journal) (statements l)).after x k) (sym (attempt-done_other journal t s a u f))
        ];
      }

    pub stored_no_memory : (base_now : Database) (now : Seen) → base_now ≡ committed → SameSeen seen now → Stored base_now now start (Ran t s run.NoMemory ∷ journal)
    stored_no_memory base_now now same sees = record { base = same ∙ h.base; seen = λ u x k. sees u x k ∙ h.seen u x k }

    pub stored_unchanged : Stored committed seen start (Ran t s run.NoMemory ∷ journal)
    stored_unchanged = record { base = h.base; seen = h.seen }

    pub stored_blocked : (named : List ℕ) → Stored committed seen start (Ran t s (run.Blocked named) ∷ journal)
    stored_blocked named = record { base = h.base; seen = h.seen }

    pub stored_deadlock : (told : List ℕ) → Stored committed seen start (Ran t s (run.Deadlock told) ∷ journal)
    stored_deadlock told = record { base = h.base; seen = h.seen }

  -- a rollback: its transaction sees what is committed
  pub stored_rolled_back : (t : ℕ) (base_now : Database) (now : Seen) → base_now ≡ committed → Sees now t committed → OthersSee t seen now → Stored base_now now start (RolledBack t end.Done ∷ journal)
  stored_rolled_back t base_now now same sees others = record {
    base = same ∙ h.base;
    seen = λ u x k. elim (cases_eq u t) [
      | inl e ↦
          ap (λ (y : ℕ). now y x k) e ∙ sees x k ∙ ap (λ (d : Database). row_at d x k) h.base
          ∙ ap (λ (l : List RanStmt). row_at (play (base start journal) (statements l)).after x k) (sym (ap (λ (y : ℕ). attempt y (RolledBack t end.Done ∷ journal)) e ∙ attempt-rolled_back journal t))
      | inr f ↦
          others u x k f ∙ h.seen u x k ∙ ap (λ (l : List RanStmt). row_at (play (base start journal) (statements l)).after x k) (sym (attempt-rolled_back_other journal t u f))
    ];
  }

  -- a restart: all see what is committed
  pub stored_restarted : (told : ℕ) (base_now : Database) (now : Seen) → base_now ≡ committed → ((u : ℕ) → Sees now u committed) → Stored base_now now start (Restarted (Ok told) ∷ journal)
  stored_restarted told base_now now same sees =
      let stays = base_restarted start journal told tells.doubt in
      record {
        base = same ∙ h.base ∙ sym stays;
        seen = λ u x k. sees u x k ∙ ap (λ (d : Database). row_at d x k) (h.base ∙ sym stays);
      }

  -- a commit: what its transaction saw is committed, and all others see it, but where they have written themselves
  module _ (footprint : (s : Stmt) → Within (parts s) (s ∷ [])) (wrote : Wrote) (writes : (u t : ℕ) (k : ℤ) → fits_i64 k ≡ true → wrote u t k ≡ true → covers (written (needed parts u journal)) t k ≡ true)
      (unwritten : (u t : ℕ) (k : ℤ) → wrote u t k ≡ false → seen u t k ≡ row_at committed t k)
      (t : ℕ) (base_now : Database) (now : Seen) (becomes : base_now ≡ view_of start t journal) (see : SeeCommitted t wrote seen now) where
    abbrev ended : Journal
    ended = Committed t end.Done ∷ journal

    abbrev left : Database
    left = view_of start t journal

    left_ordered : IsOrdered left
    left_ordered = play_ordered (statements (attempt t journal)) (base start journal) tells.ordered

    module _ (u : ℕ) (differ : u ≢ t) where
      agree : Agree (needed parts u journal) left (base start journal)
      agree = untouched (needed parts u journal) (needed parts t journal) (statements (attempt t journal)) (tells.apart t u (λ e. differ (sym e))).right (within_needed parts footprint t journal)
          (base start journal) tells.ordered

      -- in what it needs, its attempt leaves the same after the commit
      row_left : (x : ℕ) (k : ℤ) → covers (needed parts u journal) x k ≡ true → row_at (play left (statements (attempt u journal))).after x k ≡ row_at (view_of start u journal) x k
      row_left x k c = ((within_needed parts footprint u journal).results left (base start journal) left_ordered tells.ordered agree).rows x k c

      row_unwritten : (x : ℕ) (k : ℤ) (c : Bool) → covers (written (needed parts u journal)) x k ≡ c → wrote u x k ≡ false → row_at left x k ≡ row_at (play left (statements (attempt u journal))).after x k
      row_unwritten x k true e w =
          let within = written_covered x k (needed parts u journal) e in
          agree.rows x k within ∙ ap (λ (d : Database). row_at d x k) (sym h.base) ∙ sym (unwritten u x k w) ∙ h.seen u x k ∙ sym (row_left x k within)
      row_unwritten x k false e w = sym ((within_needed parts footprint u journal).frame left left_ordered x k e)

      by_writing : (x : ℕ) (k : ℤ) → fits_i64 k ≡ true → (b : Bool) → wrote u x k ≡ b → cond b (seen u x k) (seen t x k) ≡ row_at (play left (statements (attempt u journal))).after x k
      by_writing x k fit true e = h.seen u x k ∙ sym (row_left x k (written_covered x k (needed parts u journal) (writes u x k fit e)))
      by_writing x k fit false e = h.seen t x k ∙ row_unwritten x k (covers (written (needed parts u journal)) x k) refl e

      -- at a key that is no number of 64 bits there is no row
      nowhere : (x : ℕ) (k : ℤ) → fits_i64 k ≡ false → cond (wrote u x k) (seen u x k) (seen t x k) ≡ row_at (play left (statements (attempt u journal))).after x k
      nowhere x k unfit =
          either_same (wrote u x k) (seen u x k) (seen t x k) None (h.seen u x k ∙ no_row (view_of start u journal) (view_is u).ordered x k unfit) (h.seen t x k ∙ no_row left left_ordered x k unfit)
          ∙ sym (no_row (play left (statements (attempt u journal))).after (play_ordered (statements (attempt u journal)) left left_ordered) x k unfit)

      by_key : (x : ℕ) (k : ℤ) (fit : Bool) → fits_i64 k ≡ fit → cond (wrote u x k) (seen u x k) (seen t x k) ≡ row_at (play left (statements (attempt u journal))).after x k
      by_key x k true e = by_writing x k e (wrote u x k) refl
      by_key x k false e = nowhere x k e

      others_see : (x : ℕ) (k : ℤ) → now u x k ≡ row_at (view_of start u ended) x k
      others_see x k =
          see u x k ∙ by_key x k (fits_i64 k) refl
          ∙ ap (λ (d : Database). row_at (play d (statements (attempt u journal))).after x k) (sym (base-committed journal t start))
          ∙ ap (λ (l : List RanStmt). row_at (play (base start ended) (statements l)).after x k) (sym (attempt-committed_other journal t u differ))

    own_sees : (u : ℕ) → u ≡ t → (x : ℕ) (k : ℤ) → now u x k ≡ row_at (view_of start u ended) x k
    own_sees u e x k =
        see u x k ∙ either_same (wrote u x k) (seen u x k) (seen t x k) (row_at left x k) (ap (λ (y : ℕ). seen y x k) e ∙ h.seen t x k) (h.seen t x k)
        ∙ ap (λ (d : Database). row_at d x k) (sym (base-committed journal t start))
        ∙ ap (λ (l : List RanStmt). row_at (play (base start ended) (statements l)).after x k) (sym (ap (λ (y : ℕ). attempt y ended) e ∙ attempt-committed journal t))

    pub stored_committed : Stored base_now now start ended
    stored_committed = record {
      base = becomes ∙ sym (base-committed journal t start);
      seen = λ u x k. elim (cases_eq u t) [ inl e ↦ own_sees u e x k | inr f ↦ others_see u f x k ];
    }
