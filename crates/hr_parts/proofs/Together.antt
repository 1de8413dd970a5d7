-- Lists of statements whose footprints are apart.
use Rattle.std.proofs.Common.{◌≡◌, ℕ, ◌<◌, ◌==◌, ℤ, Bool, true, false, ◌&&◌, not, List, [], ◌∷◌, length, get_or, map, refl, ap, sym, ◌∙◌, IsTrue}
use Rattle.std.specs.Prelude.{◌≢◌, unwrap_or, slice_get}
use Rattle.std.specs.List.{list_all}
use Rattle.std.proofs.lemmas.Bool.{and_parts, both_ways, false_from_ne_true, not-true, eq-eqb}
use Rattle.std.proofs.lemmas.List.{ext_get_or}
use Rattle.std.proofs.lemmas.Option.{unwrap_or-slice_get}
use Rattle.hr_base.specs.Lists.{has, is_distinct}
use Rattle.hr_base.proofs.ListLaws.{has_head, has_tail, if_same, all_has}
use Rattle.hr_rel.specs.declared.value.Value.{Value}
use Rattle.hr_rel.specs.declared.answer.Answer.{Answer}
use Rattle.hr_rel.specs.declared.catalog.Catalog.{Catalog}
use Rattle.hr_rel.specs.declared.stmt.Stmt.{Stmt}
use Rattle.hr_rel.specs.Database.{Database, rows_of}
use Rattle.hr_rel.specs.Holds.{IsOrdered}
use Rattle.hr_meaning.specs.Exec.{exec}
use Rattle.hr_meaning.specs.Serial.{play, serial_answers, database_after}
use Rattle.hr_statement_laws.proofs.Shape.{keeps_catalog}
use Rattle.hr_parts.specs.Parts.{Part, covers, written, row_at, Agree, Within, Untouched, Apart}
use Rattle.hr_parts.specs.Attempts.{Attempts, ArePairwiseApart, AreSome, alone_answers, attempts_of}
use Rattle.hr_parts.proofs.Cover.{written_covered}
use Rattle.hr_parts.proofs.Rows.{same_rows}
use Rattle.hr_parts.proofs.Statements.{ascending}
use Rattle.hr_parts.proofs.Lists.{play_ordered}

-- ---- agreement

pub agree_itself : (parts : List Part) (d : Database) → Agree parts d d
agree_itself parts d = record { catalog = refl; rows = λ t k h. refl }

pub agree_back : (parts : List Part) (d e : Database) → Agree parts d e → Agree parts e d
agree_back parts d e agree = record { catalog = sym agree.catalog; rows = λ t k h. sym (agree.rows t k h) }

pub agree_on : (parts : List Part) (c d e : Database) → Agree parts c d → Agree parts d e → Agree parts c e
agree_on parts c d e first second = record { catalog = first.catalog ∙ second.catalog; rows = λ t k h. first.rows t k h ∙ second.rows t k h }

pub play_catalog : (stmts : List Stmt) (db : Database) → (play db stmts).after.catalog ≡ db.catalog
play_catalog [] db = refl
play_catalog (s ∷ stmts) db = play_catalog stmts (exec db s).after ∙ keeps_catalog db s

-- what may not be touched is as it was after the others
pub untouched : (parts others : List Part) (stmts : List Stmt) → Untouched parts others → Within others stmts → (db : Database) → IsOrdered db → Agree parts (play db stmts).after db
untouched parts others stmts apart within db order = record {
  catalog = play_catalog stmts db;
  rows = λ t k h. within.frame db order t k (false_from_ne_true (covers (written others) t k) (λ w. both_ways (covers parts t k) (apart t k w) h));
}

-- ---- a database is known by its rows

same_size : (d e : Database) → IsOrdered d → IsOrdered e → d.catalog ≡ e.catalog → length d.tables ≡ length e.tables
same_size d e order other catalog = order.tables ∙ ap (λ (c : Catalog). length c.tables) catalog ∙ sym other.tables

same_at : (d e : Database) → IsOrdered d → IsOrdered e → ((t : ℕ) (k : ℤ) → row_at d t k ≡ row_at e t k) → (t : ℕ) → get_or d.tables t [] ≡ get_or e.tables t []
same_at d e order other same t =
    sym (unwrap_or-slice_get d.tables t []) ∙ same_rows (rows_of d t) (rows_of e t) (ascending d order t) (ascending e other t) (same t) ∙ unwrap_or-slice_get e.tables t []

pub same_database : (d e : Database) → IsOrdered d → IsOrdered e → d.catalog ≡ e.catalog → ((t : ℕ) (k : ℤ) → row_at d t k ≡ row_at e t k) → d ≡ e
same_database d e order other catalog same =
    let tables = ext_get_or [] d.tables e.tables (same_size d e order other catalog) (λ t h. same_at d e order other same t) in
    λ i. record { catalog = catalog i; tables = tables i }

-- ---- either order

module _ (parts others : List Part) (a b : List Stmt) (within : Within parts a) (beside : Within others b) (apart : Apart parts others) (db : Database) (order : IsOrdered db) where
  abbrev after_a : Database
  after_a = (play db a).after

  abbrev after_b : Database
  after_b = (play db b).after

  b_sees : Agree others after_a db
  b_sees = untouched others parts a apart.right within db order

  a_sees : Agree parts after_b db
  a_sees = untouched parts others b apart.left beside db order

  order_a : IsOrdered after_a
  order_a = play_ordered a db order

  order_b : IsOrdered after_b
  order_b = play_ordered b db order

  pub same_answers_second : (play after_a b).answers ≡ (play db b).answers
  same_answers_second = beside.answers after_a db order_a order b_sees

  pub same_answers_first : (play after_b a).answers ≡ (play db a).answers
  same_answers_first = within.answers after_b db order_b order a_sees

  at_row : (t : ℕ) (k : ℤ) (v w : Bool) → covers (written parts) t k ≡ v → covers (written others) t k ≡ w → row_at (play after_a b).after t k ≡ row_at (play after_b a).after t k
  at_row t k true true e f = absurd (both_ways (covers others t k) (apart.right t k e) (written_covered t k others f))
  at_row t k true false e f = beside.frame after_a order_a t k f ∙ sym ((within.results after_b db order_b order a_sees).rows t k (written_covered t k parts e))
  at_row t k false true e f = (beside.results after_a db order_a order b_sees).rows t k (written_covered t k others f) ∙ sym (within.frame after_b order_b t k e)
  at_row t k false false e f = beside.frame after_a order_a t k f ∙ within.frame db order t k e ∙ sym (within.frame after_b order_b t k e ∙ beside.frame db order t k f)

  pub same_in_the_end : (play after_a b).after ≡ (play after_b a).after
  same_in_the_end = same_database (play after_a b).after (play after_b a).after (play_ordered b after_a order_a) (play_ordered a after_b order_b)
      (play_catalog b after_a ∙ play_catalog a db ∙ sym (play_catalog a after_b ∙ play_catalog b db)) (λ t k. at_row t k (covers (written parts) t k) (covers (written others) t k) refl refl)

-- ---- in any order

module _ (attempts : Attempts) (apart : ArePairwiseApart attempts) where
  -- not the first is another one
  differs : (t u : ℕ) (ts : List ℕ) → not (has ts t) ≡ true → has ts u ≡ true → t ≢ u
  differs t u ts out h same = both_ways (has ts t) (not-true (has ts t) out) (ap (has ts) same ∙ h)

  -- what a transaction sees after another is what it saw before
  seen_after : (t u : ℕ) → attempts.runs t ≡ true → attempts.runs u ≡ true → t ≢ u → (db : Database) → IsOrdered db → Agree (attempts.parts u) (play db (attempts.statements t)).after db
  seen_after t u runs other ne db order = untouched (attempts.parts u) (attempts.parts t) (attempts.statements t) (apart.apart t u runs other ne).right (apart.within t runs) db order

  pub in_any_order : (base db : Database) → IsOrdered base → IsOrdered db → (ts : List ℕ) → list_all attempts.runs ts ≡ true → is_distinct ts ≡ true
      → ((u : ℕ) → has ts u ≡ true → Agree (attempts.parts u) db base) → serial_answers db (attempts_of attempts ts) ≡ alone_answers attempts base ts
  in_any_order base db order now [] run distinct agree = refl
  in_any_order base db order now (t ∷ ts) run distinct agree =
      let runs = and_parts (attempts.runs t) (list_all attempts.runs ts) run in
      let new = and_parts (not (has ts t)) (is_distinct ts) distinct in
      let next = (play db (attempts.statements t)).after in
      let first = (apart.within t runs.0).answers db base now order (agree t (has_head t ts)) in
      let rest = in_any_order base next order (play_ordered (attempts.statements t) db now) ts runs.1 new.1
      (λ u h. agree_on (attempts.parts u) next db base (seen_after t u runs.0 (all_has attempts.runs ts runs.1 u h) (differs t u ts new.0 h) db now) (agree u (has_tail u t ts h))) in
      λ i. first i ∷ rest i

  pub seen_by_others : (db : Database) → IsOrdered db → (u : ℕ) → attempts.runs u ≡ true → (ts : List ℕ) → list_all attempts.runs ts ≡ true → has ts u ≡ false
      → Agree (attempts.parts u) (database_after db (attempts_of attempts ts)) db
  seen_by_others db order u runs [] all out = agree_itself (attempts.parts u) db
  seen_by_others db order u runs (t ∷ ts) all out =
      let each = and_parts (attempts.runs t) (list_all attempts.runs ts) all in
      let next = (play db (attempts.statements t)).after in
      agree_on (attempts.parts u) (database_after next (attempts_of attempts ts)) next db
      (seen_by_others next (play_ordered (attempts.statements t) db order) u runs ts each.1 (false_from_ne_true (has ts u) (λ h. both_ways (has (t ∷ ts) u) out (has_tail u t ts h))))
      (seen_after t u each.0 runs (λ same. both_ways (has (t ∷ ts) u) out (ap (has (t ∷ ts)) (sym same) ∙ has_head t ts)) db order)
