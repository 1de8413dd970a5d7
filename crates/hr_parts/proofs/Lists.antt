-- Footprints of lists of statements.
use Rattle.std.proofs.Common.{◌≡◌, ℕ, ℤ, Bool, true, false, ◌&&◌, ◌||◌, List, [], ◌∷◌, ◌++◌, filter, refl, ap, sym, ◌∙◌}
use Rattle.std.specs.List.{list_any, flat_map}
use Rattle.std.proofs.lemmas.Bool.{or_left, or_right, both_ways, false_from_ne_true}
use Rattle.std.proofs.lemmas.List.Elements.{filter-append}
use Rattle.std.proofs.lemmas.List.Folds.{list_any-append}
use Rattle.hr_rel.specs.declared.answer.Answer.{Answer}
use Rattle.hr_rel.specs.declared.stmt.Stmt.{Stmt}
use Rattle.hr_rel.specs.Database.{Database}
use Rattle.hr_rel.specs.Holds.{IsOrdered}
use Rattle.hr_meaning.specs.Exec.{exec}
use Rattle.hr_meaning.specs.Serial.{play}
use Rattle.hr_statement_laws.proofs.Ordered.{keeps_order}
use Rattle.hr_parts.specs.Parts.{Part, is_in, covers, written, row_at, Agree, Within}
use Rattle.hr_parts.specs.Footprints.{Covers}
use Rattle.hr_parts.proofs.Cover.{written_covered}
use Rattle.hr_parts.proofs.Statements.{exec_alike, exec_frame}

-- ---- one statement

pub covered_within : (parts : List Part) (s : Stmt) → Covers parts s → Within parts (s ∷ [])
covered_within parts s covered = record {
  answers = λ d e order other agree. let same = (exec_alike parts d e order other agree s covered).0 in λ i. same i ∷ [];
  results = λ d e order other agree. (exec_alike parts d e order other agree s covered).1;
  frame = λ d order t k out. exec_frame parts d order t k out s covered;
}

-- ---- more parts

-- whatever one covers the other covers too, and what it may change
pub record Wider (parts others : List Part) : Type 0 where
  pub rows : (t : ℕ) (k : ℤ) → covers parts t k ≡ true → covers others t k ≡ true
  pub changed : (t : ℕ) (k : ℤ) → covers (written parts) t k ≡ true → covers (written others) t k ≡ true

pub fewer_agree : (parts others : List Part) (d e : Database) → Wider parts others → Agree others d e → Agree parts d e
fewer_agree parts others d e wider agree = record { catalog = agree.catalog; rows = λ t k h. agree.rows t k (wider.rows t k h) }

module _ (parts others : List Part) (stmts : List Stmt) (wider : Wider parts others) (within : Within parts stmts) where
  not_changed : (t : ℕ) (k : ℤ) → covers (written others) t k ≡ false → covers (written parts) t k ≡ false
  not_changed t k out = false_from_ne_true (covers (written parts) t k) (λ h. both_ways (covers (written others) t k) out (wider.changed t k h))

  module _ (d e : Database) (order : IsOrdered d) (other : IsOrdered e) (agree : Agree others d e) where
    left_at : (t : ℕ) (k : ℤ) → covers others t k ≡ true → (b : Bool) → covers parts t k ≡ b → row_at (play d stmts).after t k ≡ row_at (play e stmts).after t k
    left_at t k h true in_parts = (within.results d e order other (fewer_agree parts others d e wider agree)).rows t k in_parts
    left_at t k h false outside =
        let out = false_from_ne_true (covers (written parts) t k) (λ w. both_ways (covers parts t k) outside (written_covered t k parts w)) in
        within.frame d order t k out ∙ agree.rows t k h ∙ sym (within.frame e other t k out)

  pub with_more : Within others stmts
  with_more = record {
    answers = λ d e order other agree. within.answers d e order other (fewer_agree parts others d e wider agree);
    results = λ d e order other agree. record {
      catalog = (within.results d e order other (fewer_agree parts others d e wider agree)).catalog;
      rows = λ t k h. left_at d e order other agree t k h (covers parts t k) refl;
    };
    frame = λ d order t k out. within.frame d order t k (not_changed t k out);
  }

-- ---- one statement after another

pub none_within : (parts : List Part) → Within parts []
none_within parts = record {
  answers = λ d e order other agree. refl;
  results = λ d e order other agree. agree;
  frame = λ d order t k out. refl;
}

first_same : (a b : Answer) → a ∷ [] ≡ b ∷ [] → a ≡ b
first_same a b e = cc

pub first_and_rest : (parts : List Part) (s : Stmt) (stmts : List Stmt) → Within parts (s ∷ []) → Within parts stmts → Within parts (s ∷ stmts)
first_and_rest parts s stmts first rest = record {
  answers = λ d e order other agree.
      let head = first_same (exec d s).answer (exec e s).answer (first.answers d e order other agree) in
      let tail = rest.answers (exec d s).after (exec e s).after (keeps_order d s order) (keeps_order e s other) (first.results d e order other agree) in
      λ i. head i ∷ tail i;
  results = λ d e order other agree. rest.results (exec d s).after (exec e s).after (keeps_order d s order) (keeps_order e s other) (first.results d e order other agree);
  frame = λ d order t k out. rest.frame (exec d s).after (keeps_order d s order) t k out ∙ first.frame d order t k out;
}

-- ---- parts put together

module _ (parts others : List Part) where
  cover_together : (t : ℕ) (k : ℤ) → covers (parts ++ others) t k ≡ covers parts t k || covers others t k
  cover_together t k = list_any-append (is_in t k) parts others

  written_together : (t : ℕ) (k : ℤ) → covers (written (parts ++ others)) t k ≡ covers (written parts) t k || covers (written others) t k
  written_together t k = ap (λ (l : List Part). covers l t k) (filter-append (λ (part : Part). part.written) parts others) ∙ list_any-append (is_in t k) (written parts) (written others)

  pub wider_left : Wider parts (parts ++ others)
  wider_left = record {
    rows = λ t k h. cover_together t k ∙ or_left (covers parts t k) (covers others t k) h;
    changed = λ t k h. written_together t k ∙ or_left (covers (written parts) t k) (covers (written others) t k) h;
  }

  pub wider_right : Wider others (parts ++ others)
  wider_right = record {
    rows = λ t k h. cover_together t k ∙ or_right (covers parts t k) (covers others t k) h;
    changed = λ t k h. written_together t k ∙ or_right (covers (written parts) t k) (covers (written others) t k) h;
  }

-- the parts of statements, put together, are a footprint of them all
pub all_within : (parts_of : Stmt → List Part) → ((s : Stmt) → Within (parts_of s) (s ∷ [])) → (stmts : List Stmt) → Within (flat_map parts_of stmts) stmts
all_within parts_of each [] = none_within []
all_within parts_of each (s ∷ stmts) =
    let rest = flat_map parts_of stmts in
    first_and_rest (parts_of s ++ rest) s stmts (with_more (parts_of s) (parts_of s ++ rest) (s ∷ []) (wider_left (parts_of s) rest) (each s))
    (with_more rest (parts_of s ++ rest) stmts (wider_right (parts_of s) rest) (all_within parts_of each stmts))

pub play_ordered : (stmts : List Stmt) (db : Database) → IsOrdered db → IsOrdered (play db stmts).after
play_ordered [] db order = order
play_ordered (s ∷ stmts) db order = play_ordered stmts (exec db s).after (keeps_order db s order)
