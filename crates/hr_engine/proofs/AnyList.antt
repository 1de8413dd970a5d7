-- In a rigorous journal the attempts of any different transactions, running or not, can be played in any order.
use Rattle.std.proofs.Common.{◌≡◌, ℕ, Bool, true, false, cond, not, IsTrue, List, [], ◌∷◌, map, refl, subst, sym}
use Rattle.std.specs.List.{filter, list_all, AllZip}
use Rattle.hr_rel.specs.Database.{Database}
use Rattle.hr_meaning.specs.Serial.{play, serial_answers}
use Rattle.hr_meaning.specs.SameAnswer.{SameAnswer}
use Rattle.hr_engine.specs.Journal.{Journal}
use Rattle.hr_engine.specs.Attempts.{RanStmt, attempt, statements, answers, is_running}
use Rattle.hr_engine.specs.Base.{base}
use Rattle.hr_engine.specs.Rigorous.{InOrder, AnyOrder, Rigorous}
use Rattle.hr_base.specs.Lists.{is_empty, is_distinct}
use Rattle.hr_base.proofs.ListLaws.{all_from_has, has-filter, filter_distinct}

nothing_done : (steps : List RanStmt) → not (is_empty steps) ≡ false → steps ≡ []
nothing_done [] h = refl
nothing_done (s ∷ steps) h = cc

module _ (journal : Journal) where
  -- played from this database, in this order
  abbrev PlaysIn : Database → List ℕ → Type 0
  PlaysIn db ts = AllZip (AllZip SameAnswer) (serial_answers db (map (λ t. statements (attempt t journal)) ts)) (map (λ t. answers (attempt t journal)) ts)

  -- who doesn't run plays nothing
  idle_plays : (db : Database) (t : ℕ) (ts : List ℕ) → attempt t journal ≡ [] → PlaysIn db ts → PlaysIn db (t ∷ ts)
  idle_plays db t ts idle rest =
      let P : List RanStmt → Type 0 = λ steps. AllZip SameAnswer (play db (statements steps)).answers (answers steps) × PlaysIn (play db (statements steps)).after ts in
      subst P (sym idle) (tt, rest)

  with_idle_step : (db : Database) (t : ℕ) (ts : List ℕ) (b : Bool) → is_running t journal ≡ b
      → ((d : Database) → PlaysIn d (filter (λ u. is_running u journal) ts) → PlaysIn d ts)
      → PlaysIn db (cond b (t ∷ filter (λ u. is_running u journal) ts) (filter (λ u. is_running u journal) ts)) → PlaysIn db (t ∷ ts)
  with_idle_step db t ts true e rest plays = (plays.0, rest (play db (statements (attempt t journal))).after plays.1)
  with_idle_step db t ts false e rest plays = idle_plays db t ts (nothing_done (attempt t journal) e) (rest db plays)

  with_idle : (ts : List ℕ) (db : Database) → PlaysIn db (filter (λ u. is_running u journal) ts) → PlaysIn db ts
  with_idle [] db plays = plays
  with_idle (t ∷ ts) db plays = with_idle_step db t ts (is_running t journal) refl (with_idle ts) plays

any_order : (start : Database) (journal : Journal) → Rigorous start journal → AnyOrder start journal
any_order start [] rigorous [] distinct running = tt
any_order start [] rigorous (t ∷ ts) distinct running = cc
any_order start (call ∷ before) rigorous ts distinct running = rigorous.2 ts distinct running

-- the attempts of any different transactions, played in the order of the list from the base, answer what they were answered
pub any_list : (start : Database) (journal : Journal) → Rigorous start journal → (ts : List ℕ) → IsTrue (is_distinct ts) → InOrder start journal ts
any_list start journal rigorous ts distinct =
    let runs = λ (t : ℕ). is_running t journal in
    let running : IsTrue (list_all runs (filter runs ts)) = all_from_has runs (filter runs ts) (λ t h. (has-filter runs ts t h).0) in
    with_idle journal ts (base start journal) (any_order start journal rigorous (filter runs ts) (filter_distinct runs ts distinct) running)
