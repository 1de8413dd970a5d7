-- One statement more of a told transaction.
use Rattle.std.proofs.Common.{◌≡◌, ℕ, zero, suc, ◌+◌, ◌-◌, ◌≤◌, drop, take, get_or, Bool, true, false, not, List, [], ◌∷◌, length, Option, Some, None, refl, ap, sym, subst, ◌∙◌, IsTrue, ◌↔◌, arith}
use Rattle.std.specs.Prelude.{Result, Ok, Err, IfOk, IfSome, IfNone, IsPermutation}
use Rattle.std.specs.List.{AllZip, AllByRecursion}
use Rattle.std.proofs.lemmas.List.{take_all}
use Rattle.std.proofs.lemmas.List.Sorted.{IsPermutation-sym, IsPermutation-trans}
use Rattle.hr_rel.specs.declared.answer.Answer.{Answer}
use Rattle.hr_rel.specs.declared.answer.Answer.TheVariants.{Rows, Count, Failed}
use Rattle.hr_rel.specs.declared.stmt.Stmt.{Stmt}
use Rattle.hr_rel.specs.Database.{Database}
use Rattle.hr_meaning.specs.SameAnswer.{SameAnswer}
use Rattle.hr_meaning.specs.Exec.{exec}
use Rattle.hr_meaning.specs.Serial.{play}
use Rattle.hr_answer.specs.Canonical.{IsCanonical}
use Rattle.hr_audit.specs.declared.commit.Wrong.{Wrong}
use Rattle.hr_audit.specs.Wrong.{IsFirstWrong}
use Rattle.hr_audit.specs.Found.{FoundFrom, Found}

-- answers that are both the same as a third are the same
pub same_by : (d c t : Answer) → SameAnswer d c → SameAnswer t c → SameAnswer d t
same_by (Rows d) (Rows c) (Rows t) h k = IsPermutation-trans d c t h (IsPermutation-sym t c k)
same_by (Rows d) (Rows c) (Count t) h k = absurd k
same_by (Rows d) (Rows c) (Failed t) h k = absurd k
same_by (Rows d) (Count c) t h k = absurd h
same_by (Rows d) (Failed c) t h k = absurd h
same_by (Count d) (Rows c) t h k = absurd h
same_by (Count d) (Count c) (Rows t) h k = absurd k
same_by (Count d) (Count c) (Count t) h k = h ∙ sym k
same_by (Count d) (Count c) (Failed t) h k = absurd k
same_by (Count d) (Failed c) t h k = absurd h
same_by (Failed d) (Rows c) t h k = absurd h
same_by (Failed d) (Count c) t h k = absurd h
same_by (Failed d) (Failed c) (Rows t) h k = absurd k
same_by (Failed d) (Failed c) (Count t) h k = absurd k
same_by (Failed d) (Failed c) (Failed t) h k = h ∙ sym k

pub found_more : (n : ℕ) (t d : Answer) (told due : List Answer) (o : Option Wrong) → SameAnswer d t → Found (n + 1) told due o → Found n (t ∷ told) (d ∷ due) o
found_more n t d told due None same rest = (same, rest)
found_more n t d told due (Some w) same (k, place, wrong) =
    (suc k, place ∙ next n k, (same, wrong))
  where
    next : (n k : ℕ) → n + 1 + k + 1 ≡ n + suc k + 1
    next n k = omega arith

-- the first of a list that isn't empty
pub found_on : {E : Type 0} (n : ℕ) (t d c : Answer) (told due : List Answer) (r : Result (Option Wrong) E) → SameAnswer d c → SameAnswer t c
    → IfOk r (Found (n + 1) told due) → IfOk r (Found n (t ∷ told) (d ∷ due))
found_on n t d c told due (Ok o) same equal rest = found_more n t d told due o (same_by d c t same equal) rest
found_on n t d c told due (Err e) same equal rest = tt

no_same : (b : Bool) (P : Type 0) → (IsTrue b ↔ P) → b ≡ false → P → ⊥
no_same true P h e p = cc e
no_same false P h e p = cc (h.1 p)

-- the same with the statements that are due, at the first of lists that aren't empty
pub first_wrong : (n : ℕ) (told : List Answer) (stmts : List Stmt) (db : Database) (t r w : Answer) (s : Stmt) (b : Bool)
    → 1 ≤ length told → 1 ≤ length stmts → t ≡ get_or told 0 t → s ≡ get_or stmts 0 s
    → SameAnswer (exec db s).answer r → IsCanonical r → (IsTrue b ↔ SameAnswer t r) → b ≡ false → w ≡ t
    → (x : ℕ) × (n + 1 ≡ n + x + 1) × IsFirstWrong told (play db stmts).answers x w r
first_wrong n [] stmts db t r w s b some some_stmts is_t is_s same canonical tells differ is_w = absurd (omega arith)
first_wrong n (a ∷ told) [] db t r w s b some some_stmts is_t is_s same canonical tells differ is_w = absurd (omega arith)
first_wrong n (a ∷ told) (c ∷ stmts) db t r w s b some some_stmts is_t is_s same canonical tells differ is_w = (
  zero,
  first n,
  (
    sym (is_w ∙ is_t),
    subst (λ (x : Stmt). SameAnswer (exec db x).answer r) is_s same,
    canonical,
    λ e. no_same b (SameAnswer t r) tells differ (subst (λ (x : Answer). SameAnswer x r) is_w e),
  ),
)
  where
    first : (n : ℕ) → n + 1 ≡ n + 0 + 1
    first n = omega arith

pub found_later : {E : Type 0} (n : ℕ) (told : List Answer) (stmts : List Stmt) (db now : Database) (t r : Answer) (s : Stmt) (b : Bool) (res : Result (Option Wrong) E)
    → 1 ≤ length told → 1 ≤ length stmts → t ≡ get_or told 0 t → s ≡ get_or stmts 0 s
    → SameAnswer (exec db s).answer r → (IsTrue b ↔ SameAnswer t r) → b ≡ true → now ≡ (exec db s).after
    → IfOk res (Found (n + 1) (take (length told - 1) (drop 1 told)) (play now (take (length stmts - 1) (drop 1 stmts))).answers) → IfOk res (Found n told (play db stmts).answers)
found_later n [] stmts db now t r s b res some some_stmts is_t is_s same tells equal after rest = absurd (omega arith)
found_later n (a ∷ told) [] db now t r s b res some some_stmts is_t is_s same tells equal after rest = absurd (omega arith)
found_later n (a ∷ told) (c ∷ stmts) db now t r s b res some some_stmts is_t is_s same tells equal after rest =
    let t_all : take (length (a ∷ told) - 1) told ≡ told = take_all (length (a ∷ told) - 1) told (omega arith) in
    let s_all : take (length (c ∷ stmts) - 1) stmts ≡ stmts = take_all (length (c ∷ stmts) - 1) stmts (omega arith) in
    found_on n a (exec db c).answer r told (play (exec db c).after stmts).answers res
    (subst (λ (x : Stmt). SameAnswer (exec db x).answer r) is_s same)
    (subst (λ (x : Answer). SameAnswer x r) is_t (tells.0 equal))
    (subst (λ (x : Stmt). IfOk res (Found (n + 1) told (play (exec db x).after stmts).answers)) is_s
    (subst (λ (d : Database). IfOk res (Found (n + 1) told (play d stmts).answers)) after
    (subst (λ (ss : List Stmt). IfOk res (Found (n + 1) told (play now ss).answers)) s_all
    (subst (λ (ts : List Answer). IfOk res (Found (n + 1) ts (play now (take (length (c ∷ stmts) - 1) stmts)).answers)) t_all rest))))

pub if_found : (n : ℕ) (told due : List Answer) (o x : Option Wrong) → o ≡ x → Found n told due o → Found n told due x
if_found n told due o x is found = subst (λ (y : Option Wrong). Found n told due y) is found

pub none_of : (o : Option Wrong) → ((w : Wrong) → o ≡ Some w → ⊥) → o ≡ None
none_of None not = refl
none_of (Some w) not = absurd (not w refl)

pub after_none : (o : Option Wrong) (P : Type 0) → o ≡ None → IfNone o P → P
after_none None P is h = h
after_none (Some w) P is h = cc
