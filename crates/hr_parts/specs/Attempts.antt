-- Lists of statements that are played beside each other.
use Rattle.std.specs.Prelude.{◌≡◌, ◌≢◌, ℕ, Bool, true, List, map, IsTrue}
use Rattle.std.specs.List.{list_all}
use Rattle.hr_base.specs.Lists.{has, is_distinct}
use Rattle.hr_rel.specs.declared.answer.Answer.{Answer}
use Rattle.hr_rel.specs.declared.stmt.Stmt.{Stmt}
use Rattle.hr_rel.specs.Database.{Database}
use Rattle.hr_meaning.specs.Serial.{play, serial_answers, database_after}
use Rattle.hr_parts.specs.Parts.{Part, Agree, Within, Apart}

-- Some transactions, those that run: what each has run so far, its attempt, and a footprint of that.
pub record Attempts : Type 0 where
  pub runs : ℕ → Bool
  pub statements : ℕ → List Stmt
  pub parts : ℕ → List Part

-- Each footprint is one of its attempt, and those of two transactions are apart.
pub record ArePairwiseApart (a : Attempts) : Type 0 where
  pub within : (t : ℕ) → a.runs t ≡ true → Within (a.parts t) (a.statements t)
  pub apart : (t u : ℕ) → a.runs t ≡ true → a.runs u ≡ true → t ≢ u → Apart (a.parts t) (a.parts u)

-- some of them, in some order, none twice
pub record AreSome (a : Attempts) (ts : List ℕ) : Type 0 where
  pub run : list_all a.runs ts ≡ true
  pub distinct : is_distinct ts ≡ true

-- what each of them answers alone on the database
abbrev pub alone_answers : Attempts → Database → List ℕ → List (List Answer)
alone_answers a db ts = map (λ t. (play db (a.statements t)).answers) ts

-- the attempts of these transactions
abbrev pub attempts_of : Attempts → List ℕ → List (List Stmt)
attempts_of a ts = map a.statements ts
