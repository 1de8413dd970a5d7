-- What one more call makes of what a journal tells.
use Rattle.std.proofs.Common.{◌≡◌, ℕ, Bool, false, not, ◌&&◌, Ok, None, IsTrue, inl, inr, List, [], ◌∷◌, ◌++◌, map, refl, ap, subst, ◌∙◌, sym}
use Rattle.std.specs.Prelude.{◌≢◌}
use Rattle.std.specs.List.{AllZip, flat_map}
use Rattle.std.proofs.lemmas.Bool.{ne_eqb, cases_eq}
use Rattle.std.proofs.lemmas.List.{map-append}
use Rattle.hr_base.specs.Counters.{shown}
use Rattle.hr_rel.specs.declared.answer.Answer.{Answer}
use Rattle.hr_rel.specs.declared.stmt.Stmt.{Stmt}
use Rattle.hr_rel.specs.Database.{Database}
use Rattle.hr_rel.specs.Holds.{IsOrdered}
use Rattle.hr_meaning.specs.Exec.{exec}
use Rattle.hr_meaning.specs.Serial.{Played, play, database_after}
use Rattle.hr_meaning.specs.SameAnswer.{SameAnswer}
use Rattle.hr_engine.specs.declared.reply.RunReply.TheVariants as run
use Rattle.hr_engine.specs.declared.reply.EndReply.TheVariants as end
use Rattle.hr_engine.specs.Journal.{Ran, Committed, RolledBack, Restarted, Journal}
use Rattle.hr_engine.specs.Attempts.{RanStmt, attempt, statements, answers, is_running}
use Rattle.hr_engine.specs.Waits.{wait, is_sound_deadlock}
use Rattle.hr_engine.specs.Base.{settled, count, base}
use Rattle.hr_engine.specs.Rigorous.{AnyOrder}
use Rattle.hr_engine.specs.Exact.{is_in_the_way, AreHolders, IsExactBlocked, IsExactDeadlock}
use Rattle.hr_engine.proofs.SerialLaws.{play-append, then_played}
use Rattle.hr_engine.proofs.AttemptLaws.{attempt-done, attempt-done_other, attempt-committed, attempt-committed_other, attempt-rolled_back, attempt-rolled_back_other}
use Rattle.hr_engine.proofs.BaseLaws.{base-committed, commits-restarted}
use Rattle.hr_parts.specs.Parts.{Part, Within, Apart}
use Rattle.hr_parts.specs.Attempts.{Attempts, ArePairwiseApart, alone_answers}
use Rattle.hr_parts.proofs.Lists.{all_within, play_ordered}
use Rattle.hr_parts.proofs.Together.{agree_itself, in_any_order, same_answers_second}
use Rattle.hr_lock_engine.specs.Conflicts.{by_parts, needed}
use Rattle.hr_lock_engine.specs.Keeps.{view_of, Tells}
use Rattle.hr_lock_engine.proofs.Meets.{unmet_apart, apart_turn, none_apart, apart_both, meet_all, needed_more}
use Rattle.hr_lock_engine.proofs.Sound.{sound_blocked, sound_deadlock}

-- ---- one more statement of an attempt

same_more : (xs ys : List Answer) (x y : Answer) → AllZip SameAnswer xs ys → SameAnswer x y → AllZip SameAnswer (xs ++ x ∷ []) (ys ++ y ∷ [])
same_more [] [] x y all one = (one, tt)
same_more [] (b ∷ ys) x y all one = absurd all
same_more (a ∷ xs) [] x y all one = absurd all
same_more (a ∷ xs) (b ∷ ys) x y all one = (all.0, same_more xs ys x y all.1 one)

-- what an attempt was answered is what it answers on a database
abbrev AnswersAs : Database → List RanStmt → Type 0
AnswersAs db steps = AllZip SameAnswer (play db (statements steps)).answers (answers steps)

module _ (db : Database) (steps : List RanStmt) (s : Stmt) (a : Answer) where
  abbrev with_one : List RanStmt
  with_one = steps ++ record { stmt = s; answer = a } ∷ []

  played_more : play db (statements with_one) ≡ then_played (play db (statements steps)) (play (play db (statements steps)).after (s ∷ []))
  played_more = ap (play db) (map-append (λ (r : RanStmt). r.stmt) steps (record { stmt = s; answer = a } ∷ [])) ∙ play-append db (statements steps) (s ∷ [])

  pub after_more : (play db (statements with_one)).after ≡ (exec (play db (statements steps)).after s).after
  after_more = ap (λ (p : Played). p.after) played_more

  answers_more : AnswersAs db steps → SameAnswer (exec (play db (statements steps)).after s).answer a → AnswersAs db with_one
  answers_more all one =
      subst (λ (p : Played). AllZip SameAnswer p.answers (answers with_one)) (sym played_more)
      (subst (λ (l : List Answer). AllZip SameAnswer ((play db (statements steps)).answers ++ (exec (play db (statements steps)).after s).answer ∷ []) l)
      (sym (map-append (λ (r : RanStmt). r.answer) steps (record { stmt = s; answer = a } ∷ [])))
      (same_more (play db (statements steps)).answers (answers steps) _ a all one))

-- a restart leaves the base
pub base_restarted : (start : Database) (journal : Journal) (told : ℕ) → (settled journal).doubt ≡ None → base start (Restarted (Ok told) ∷ journal) ≡ base start journal
base_restarted start journal told none = ap (database_after start) (commits-restarted journal told none)

module _ (parts : Stmt → List Part) where
  -- ---- what transactions need

  -- no two of them need the same row for one of them alone
  abbrev Beside : Journal → Type 0
  Beside journal = (t u : ℕ) → t ≢ u → Apart (needed parts t journal) (needed parts u journal)

  pub needs_of : (journal now : Journal) (t u : ℕ) (steps : List RanStmt) → u ≡ t → attempt t now ≡ steps → needed parts u now ≡ flat_map parts (statements steps)
  needs_of journal now t u steps e f = ap (λ (x : ℕ). needed parts x now) e ∙ ap (λ (l : List RanStmt). flat_map parts (statements l)) f

  pub same_needs : (journal now : Journal) (u : ℕ) → attempt u now ≡ attempt u journal → needed parts u now ≡ needed parts u journal
  same_needs journal now u e = ap (λ (l : List RanStmt). flat_map parts (statements l)) e

  -- where one ends, the others stay apart
  module _ (journal now : Journal) (t : ℕ) (none : attempt t now ≡ []) (others : (u : ℕ) → u ≢ t → attempt u now ≡ attempt u journal) (beside : Beside journal) where
    no_needs : (u : ℕ) → u ≡ t → needed parts u now ≡ []
    no_needs u e = needs_of journal now t u [] e none

    apart_ended : Beside now
    apart_ended u v differ = elim (cases_eq u t) [
      | inl e ↦ subst (λ (l : List Part). Apart l (needed parts v now)) (sym (no_needs u e)) (none_apart (needed parts v now))
      | inr f ↦ elim (cases_eq v t) [
        | inl e ↦ subst (λ (l : List Part). Apart (needed parts u now) l) (sym (no_needs v e)) (apart_turn [] (needed parts u now) (none_apart (needed parts u now)))
        | inr g ↦
            subst (λ (l : List Part). Apart l (needed parts v now)) (sym (same_needs journal now u (others u f)))
            (subst (λ (l : List Part). Apart (needed parts u journal) l) (sym (same_needs journal now v (others v g))) (beside u v differ))
      ]
    ]

  -- one more statement needs its rows
  pub needs_done : (journal : Journal) (t : ℕ) (s : Stmt) (a : Answer) → needed parts t (Ran t s (run.Done a) ∷ journal) ≡ needed parts t journal ++ parts s
  needs_done journal t s a =
      ap (λ (l : List RanStmt). flat_map parts (statements l)) (attempt-done journal t s a) ∙ needed_more parts (attempt t journal) (record { stmt = s; answer = a })

  -- where nobody else holds what conflicts with it, all stay apart
  module _ (journal : Journal) (t : ℕ) (s : Stmt) (a : Answer) (free : AreHolders (by_parts parts) t s journal []) (beside : Beside journal) where
    abbrev done : Journal
    done = Ran t s (run.Done a) ∷ journal

    not_in_way : (u : ℕ) → u ≢ t → is_in_the_way (by_parts parts) s journal u ≡ false
    not_in_way u differ = sym (ap (λ (b : Bool). not b && is_in_the_way (by_parts parts) s journal u) (ne_eqb u t differ)) ∙ sym (free.all u)

    free_of : (u : ℕ) → u ≢ t → Apart (needed parts u journal) (parts s)
    free_of u differ = unmet_apart (needed parts u journal) (parts s) (meet_all parts (attempt u journal) (parts s) ∙ not_in_way u differ)

    more_apart : (u : ℕ) → u ≢ t → Apart (needed parts u done) (needed parts t done)
    more_apart u differ =
        subst (λ (l : List Part). Apart l (needed parts t done)) (sym (same_needs journal done u (attempt-done_other journal t s a u differ)))
        (subst (λ (l : List Part). Apart (needed parts u journal) l) (sym (needs_done journal t s a))
        (apart_both (needed parts u journal) (needed parts t journal) (parts s) (beside u t differ) (free_of u differ)))

    apart_done : Beside done
    apart_done u v differ = elim (cases_eq u t) [
      | inl e ↦
          subst (λ (x : ℕ). Apart (needed parts x done) (needed parts v done)) (sym e)
          (apart_turn (needed parts v done) (needed parts t done) (more_apart v (λ f. differ (e ∙ sym f))))
      | inr f ↦ elim (cases_eq v t) [
        | inl e ↦ subst (λ (x : ℕ). Apart (needed parts u done) (needed parts x done)) (sym e) (more_apart u f)
        | inr g ↦
            subst (λ (l : List Part). Apart l (needed parts v done)) (sym (same_needs journal done u (attempt-done_other journal t s a u f)))
            (subst (λ (l : List Part). Apart (needed parts u journal) l) (sym (same_needs journal done v (attempt-done_other journal t s a v g))) (beside u v differ))
      ]
    ]

  module _ (footprint : (s : Stmt) → Within (parts s) (s ∷ [])) where
    -- ---- any order

    pub within_needed : (t : ℕ) (journal : Journal) → Within (needed parts t journal) (statements (attempt t journal))
    within_needed t journal = all_within parts footprint (statements (attempt t journal))

    abbrev attempts_at : Journal → Attempts
    attempts_at journal = record { runs = λ t. is_running t journal; statements = λ t. statements (attempt t journal); parts = λ t. needed parts t journal }

    pairwise : (journal : Journal) → Beside journal → ArePairwiseApart (attempts_at journal)
    pairwise journal beside = record {
      within = λ t runs. within_needed t journal;
      apart = λ t u runs other differ. beside t u differ;
    }

    module _ (start : Database) (journal : Journal) (ordered : IsOrdered (base start journal)) (beside : Beside journal)
        (answered : (t : ℕ) → AnswersAs (base start journal) (attempt t journal)) where
      all_answered : (ts : List ℕ) → AllZip (AllZip SameAnswer) (alone_answers (attempts_at journal) (base start journal) ts) (map (λ t. answers (attempt t journal)) ts)
      all_answered [] = tt
      all_answered (t ∷ ts) = (answered t, all_answered ts)

      -- attempts that are apart, and answer alone what they were answered, do so in any order
      any_order : AnyOrder start journal
      any_order ts distinct running =
          subst (λ (l : List (List Answer)). AllZip (AllZip SameAnswer) l (map (λ t. answers (attempt t journal)) ts))
          (sym (in_any_order (attempts_at journal) (pairwise journal beside) (base start journal) (base start journal) ordered ordered ts running distinct
          (λ u h. agree_itself (needed parts u journal) (base start journal))))
          (all_answered ts)

    -- ---- calls

    module _ (start : Database) (journal : Journal) (h : Tells parts start journal) where
      module _ (t : ℕ) (s : Stmt) where
        pub tells_blocked : (named : List ℕ) → IsExactBlocked (by_parts parts) t s journal named → Tells parts start (Ran t s (run.Blocked named) ∷ journal)
        tells_blocked named exact =
            let now = Ran t s (run.Blocked named) ∷ journal in
            record {
              exact = (h.exact, exact);
              rigorous = (h.rigorous, sound_blocked (by_parts parts) t s journal named exact, any_order start now h.ordered h.apart h.answered);
              doubt = h.doubt;
              found = h.found;
              ordered = h.ordered;
              apart = h.apart;
              answered = h.answered;
            }

        pub tells_deadlock : (told path : List ℕ) → told ≡ t ∷ path → IsExactDeadlock (by_parts parts) t s journal path → Tells parts start (Ran t s (run.Deadlock told) ∷ journal)
        tells_deadlock told path e exact =
            let now = Ran t s (run.Deadlock told) ∷ journal in
            let sound : IsTrue (is_sound_deadlock (λ u. is_running u journal) (λ u. wait u journal) t told) =
            subst (λ (l : List ℕ). IsTrue (is_sound_deadlock (λ u. is_running u journal) (λ u. wait u journal) t l)) (sym e) (sound_deadlock (by_parts parts) t s journal path exact) in
            record {
              exact = (h.exact, (path, e, exact));
              rigorous = (h.rigorous, sound, any_order start now h.ordered h.apart h.answered);
              doubt = h.doubt;
              found = h.found;
              ordered = h.ordered;
              apart = h.apart;
              answered = h.answered;
            }

        pub tells_no_memory : Tells parts start (Ran t s run.NoMemory ∷ journal)
        tells_no_memory = record {
          exact = (h.exact, tt);
          rigorous = (h.rigorous, tt, any_order start (Ran t s run.NoMemory ∷ journal) h.ordered h.apart h.answered);
          doubt = h.doubt;
          found = h.found;
          ordered = h.ordered;
          apart = h.apart;
          answered = h.answered;
        }

        module _ (a : Answer) (free : AreHolders (by_parts parts) t s journal []) (same : SameAnswer (exec (view_of start t journal) s).answer a) where
          answered_done : (u : ℕ) → AnswersAs (base start journal) (attempt u (Ran t s (run.Done a) ∷ journal))
          answered_done u = elim (cases_eq u t) [
            | inl e ↦
                subst (λ (x : ℕ). AnswersAs (base start journal) (attempt x (Ran t s (run.Done a) ∷ journal))) (sym e)
                (subst (λ (l : List RanStmt). AnswersAs (base start journal) l) (sym (attempt-done journal t s a)) (answers_more (base start journal) (attempt t journal) s a (h.answered t) same))
            | inr f ↦ subst (λ (l : List RanStmt). AnswersAs (base start journal) l) (sym (attempt-done_other journal t s a u f)) (h.answered u)
          ]

          pub tells_done : Tells parts start (Ran t s (run.Done a) ∷ journal)
          tells_done =
              let now = Ran t s (run.Done a) ∷ journal in
              let beside = apart_done journal t s a free h.apart in
              record {
                exact = (h.exact, free);
                rigorous = (h.rigorous, tt, any_order start now h.ordered beside answered_done);
                doubt = h.doubt;
                found = h.found;
                ordered = h.ordered;
                apart = beside;
                answered = answered_done;
              }

      module _ (t : ℕ) where
        abbrev committed : Journal
        committed = Committed t end.Done ∷ journal

        commit_ordered : IsOrdered (base start committed)
        commit_ordered = subst IsOrdered (sym (base-committed journal t start)) (play_ordered (statements (attempt t journal)) (base start journal) h.ordered)

        answered_committed : (u : ℕ) → AnswersAs (base start committed) (attempt u committed)
        answered_committed u = elim (cases_eq u t) [
          | inl e ↦ subst (λ (l : List RanStmt). AnswersAs (base start committed) l) (sym (ap (λ (x : ℕ). attempt x committed) e ∙ attempt-committed journal t)) tt
          | inr f ↦ (
              let alone = same_answers_second (needed parts t journal) (needed parts u journal) (statements (attempt t journal)) (statements (attempt u journal))
              (within_needed t journal) (within_needed u journal) (h.apart t u (λ g. f (sym g))) (base start journal) h.ordered in
              subst (λ (d : Database). AnswersAs d (attempt u committed)) (sym (base-committed journal t start))
              (subst (λ (l : List RanStmt). AnswersAs (view_of start t journal) l) (sym (attempt-committed_other journal t u f))
              (subst (λ (l : List Answer). AllZip SameAnswer l (answers (attempt u journal))) (sym alone) (h.answered u))))
        ]

        pub tells_committed : Tells parts start committed
        tells_committed =
            let beside = apart_ended journal committed t (attempt-committed journal t) (attempt-committed_other journal t) h.apart in
            record {
              exact = (h.exact, tt);
              rigorous = (h.rigorous, tt, any_order start committed commit_ordered beside answered_committed);
              doubt = h.doubt;
              found = h.found;
              ordered = commit_ordered;
              apart = beside;
              answered = answered_committed;
            }

        abbrev rolled_back : Journal
        rolled_back = RolledBack t end.Done ∷ journal

        answered_rolled_back : (u : ℕ) → AnswersAs (base start journal) (attempt u rolled_back)
        answered_rolled_back u = elim (cases_eq u t) [
          | inl e ↦ subst (λ (l : List RanStmt). AnswersAs (base start journal) l) (sym (ap (λ (x : ℕ). attempt x rolled_back) e ∙ attempt-rolled_back journal t)) tt
          | inr f ↦ subst (λ (l : List RanStmt). AnswersAs (base start journal) l) (sym (attempt-rolled_back_other journal t u f)) (h.answered u)
        ]

        pub tells_rolled_back : Tells parts start rolled_back
        tells_rolled_back =
            let beside = apart_ended journal rolled_back t (attempt-rolled_back journal t) (attempt-rolled_back_other journal t) h.apart in
            record {
              exact = (h.exact, tt);
              rigorous = (h.rigorous, tt, any_order start rolled_back h.ordered beside answered_rolled_back);
              doubt = h.doubt;
              found = h.found;
              ordered = h.ordered;
              apart = beside;
              answered = answered_rolled_back;
            }

      pub tells_restarted : (told : ℕ) → told ≡ shown (count journal) → Tells parts start (Restarted (Ok told) ∷ journal)
      tells_restarted told e =
          let now = Restarted (Ok told) ∷ journal in
          let ordered = subst IsOrdered (sym (base_restarted start journal told h.doubt)) h.ordered in
          record {
            exact = (h.exact, e);
            rigorous = (h.rigorous, inl e, any_order start now ordered (λ t u differ. none_apart []) (λ t. tt));
            doubt = refl;
            found = refl;
            ordered = ordered;
            apart = λ t u differ. none_apart [];
            answered = λ t. tt;
          }
