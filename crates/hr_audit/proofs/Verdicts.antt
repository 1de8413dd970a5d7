-- One transaction more of a told report.
use Rattle.std.proofs.Common.{◌≡◌, ℕ, zero, suc, ◌+◌, ◌<◌, List, [], ◌∷◌, length, drop, map, get_or, Option, Some, None, refl, ap, sym, subst, ◌∙◌, arith}
use Rattle.std.specs.List.{AllZip, AllByRecursion}
use Rattle.hr_rel.specs.declared.answer.Answer.{Answer}
use Rattle.hr_rel.specs.declared.stmt.Stmt.{Stmt}
use Rattle.hr_rel.specs.Database.{Database}
use Rattle.hr_meaning.specs.SameAnswer.{SameAnswer}
use Rattle.hr_meaning.specs.Serial.{play}
use Rattle.hr_said.specs.declared.scenario.Scenario.{Scenario}
use Rattle.hr_told.specs.declared.ToldCommit.{ToldCommit}
use Rattle.hr_told.specs.Blocks.{AreOf, TellsOf}
use Rattle.hr_told.specs.Serial.{told, due_from, statements_of}
use Rattle.hr_audit.specs.declared.verdict.Verdict.{Verdict}
use Rattle.hr_audit.specs.declared.verdict.Verdict.TheVariants.{Agrees, Differs}
use Rattle.hr_audit.specs.declared.commit.Wrong.{Wrong}
use Rattle.hr_audit.specs.Wrong.{IsFirstWrong, IsFirstWrongIn, IsVerdictFrom}
use Rattle.hr_audit.specs.Found.{Found}

-- the first of what is left
pub left_at : {X : Type 0} (xs : List X) (n : ℕ) (x : X) → n < length xs → x ≡ get_or xs n x → drop n xs ≡ x ∷ drop (n + 1) xs
left_at [] n x within is = absurd (omega arith)
left_at (y ∷ xs) zero x within is = ap (λ z. z ∷ xs) (sym is)
left_at (y ∷ xs) (suc n) x within is =
    let next : suc n + 1 ≡ suc (n + 1) = omega arith in
    left_at xs n x (omega (arith, within)) is ∙ ap (λ k. x ∷ drop k (y ∷ xs)) (sym next)

pub none_left : {X : Type 0} (xs : List X) (n : ℕ) → length xs ≡ n → drop n xs ≡ []
none_left [] zero is = refl
none_left [] (suc n) is = refl
none_left (x ∷ xs) zero is = absurd (omega (arith, is))
none_left (x ∷ xs) (suc n) is = none_left xs n (omega (arith, is))

-- a transaction whose answers are all the same before others
agreed_more : (n : ℕ) (t d : List Answer) (told due : List (List Answer)) (v : Verdict) → AllZip SameAnswer d t → IsVerdictFrom (n + 1) told due v → IsVerdictFrom n (t ∷ told) (d ∷ due) v
agreed_more n t d told due (Agrees m) same rest = (rest.0 ∙ more n (length told), (same, rest.1))
  where
    more : (n k : ℕ) → n + 1 + k ≡ n + suc k
    more n k = omega arith
agreed_more n t d told due (Differs commit index wrong right) same (p, k, place, number, found) =
    (suc p, k, place ∙ next n p, number, (same, found))
  where
    next : (n p : ℕ) → n + 1 + p + 1 ≡ n + suc p + 1
    next n p = omega arith

module _ (sc : Scenario) where
  -- the verdict on these commits, from this database, where so many stand before them
  abbrev pub From : ℕ → Database → List ToldCommit → Verdict → Type 0
  From n db commits v = IsVerdictFrom n (told commits) (due_from sc db commits) v

  -- what is found of the commits that are left is found of all
  abbrev pub Kept : List ToldCommit → Database → ℕ → Database → Type 0
  Kept commits db n now = AreOf sc (drop n commits) × ((v : Verdict) → From n now (drop n commits) v → From 0 db commits v)

  pub kept_next : (commits : List ToldCommit) (db now next : Database) (n : ℕ) (c : ToldCommit) → n < length commits → c ≡ get_or commits n c → Kept commits db n now
      → Found 0 c.answers (play now (statements_of sc c)).answers None → next ≡ (play now (statements_of sc c)).after → Kept commits db (n + 1) next
  kept_next commits db now next n c within is kept same after =
      let front : drop n commits ≡ c ∷ drop (n + 1) commits = left_at commits n c within is in
      let all : AreOf sc (c ∷ drop (n + 1) commits) = subst (AreOf sc) front kept.0 in (
        all.1,
        λ v rest.
            kept.1 v (subst (λ (cs : List ToldCommit). From n now cs v) (sym front)
            (agreed_more n c.answers (play now (statements_of sc c)).answers (told (drop (n + 1) commits))
            (due_from sc (play now (statements_of sc c)).after (drop (n + 1) commits)) v same
            (subst (λ (d : Database). From (n + 1) d (drop (n + 1) commits) v) after rest))),
      )

  pub kept_first : (commits : List ToldCommit) (db now : Database) (n : ℕ) (c : ToldCommit) → n < length commits → c ≡ get_or commits n c → Kept commits db n now
      → (stmts : List Stmt) × TellsOf sc c stmts
  kept_first commits db now n c within is kept =
      let front : drop n commits ≡ c ∷ drop (n + 1) commits = left_at commits n c within is in
      (subst (AreOf sc) front kept.0).0

  pub kept_end : (commits : List ToldCommit) (db now : Database) (n : ℕ) → length commits ≡ n → Kept commits db n now → From 0 db commits (Agrees n)
  kept_end commits db now n is kept =
      let none : drop n commits ≡ [] = none_left commits n is in
      kept.1 (Agrees n) (subst (λ (cs : List ToldCommit). From n now cs (Agrees n)) (sym none) (nothing_more n, tt))
    where
      nothing_more : (n : ℕ) → n ≡ n + 0
      nothing_more n = omega arith

  pub kept_whole : (commits : List ToldCommit) (db now : Database) (n : ℕ) → length commits ≡ n → Kept commits db n now → From 0 db commits (Agrees (length commits))
  kept_whole commits db now n is kept = subst (λ (m : ℕ). From 0 db commits (Agrees m)) (sym is) (kept_end commits db now n is kept)

  pub kept_wrong : (commits : List ToldCommit) (db now : Database) (n : ℕ) (c : ToldCommit) (w : Wrong) (v : Verdict) → n < length commits → c ≡ get_or commits n c → Kept commits db n now
      → Found 0 c.answers (play now (statements_of sc c)).answers (Some w) → v ≡ Differs (n + 1) w.index w.told w.due → From 0 db commits v
  kept_wrong commits db now n c w v within is kept (k, place, wrong) told_so =
      let front : drop n commits ≡ c ∷ drop (n + 1) commits = left_at commits n c within is in
      let found : From n now (c ∷ drop (n + 1) commits) (Differs (n + 1) w.index w.told w.due) = (zero, k, first n, place ∙ second k, wrong) in
      subst (λ (u : Verdict). From 0 db commits u) (sym told_so)
      (kept.1 (Differs (n + 1) w.index w.told w.due) (subst (λ (cs : List ToldCommit). From n now cs (Differs (n + 1) w.index w.told w.due)) (sym front) found))
    where
      first : (n : ℕ) → n + 1 ≡ n + 0 + 1
      first n = omega arith

      second : (k : ℕ) → 0 + k + 1 ≡ k + 1
      second k = omega arith
