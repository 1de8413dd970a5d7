-- What a view tells of the turn's reply is what the replica's journal tells.
use Rattle.std.proofs.Common.{◌≡◌, ℕ, ◌+◌, ◌*◌, ◌<◌, false, not, ◌==◌, Some, List, [], ◌∷◌, refl, ap, sym, ◌∙◌}
use Rattle.std.proofs.lemmas.Bool.{eq-eqb, ne_eqb}
use Rattle.hr_base.specs.Lists.{is_empty, last_of}
use Rattle.hr_base.proofs.Tests.{and_false}
use Rattle.hr_engine.specs.Journal.{Ran}
use Rattle.hr_engine.specs.Attempts.{RanStmt, attempt, answers, is_running}
use Rattle.hr_engine.specs.Waits.{wait}
use Rattle.hr_engine.specs.declared.reply.RunReply.{RunReply}
use Rattle.hr_history.specs.declared.entry.Event.TheVariants as event
use Rattle.hr_history.specs.declared.job.Job.TheVariants as job
use Rattle.hr_history.specs.declared.job.JobReply.TheVariants as reply
use Rattle.hr_history.specs.History.{History}
use Rattle.hr_history.specs.Replicas.{out_at, journal_of, stmt_at, call_if, call_of, next_journal}
use Rattle.hr_history.specs.Attempts.{last_told}
use Rattle.hr_history.specs.Turn.{fresh_of, replies_to_runs}
use Rattle.hr_history.specs.View.{Attempt, view_of, is_fresh}
use Rattle.hr_history.specs.Processed.{runs_in, wait_in, named_in}
use Rattle.hr_history.proofs.WaitLaws.{wait_of_last}
use Rattle.hr_history.proofs.AttemptSteps.{attempt_lookup}
use Rattle.hr_records.proofs.Options.{same_some}
use Rattle.hr_calls.proofs.PartLemmas.{follow_ups}
use Rattle.hr_causes.proofs.TurnWords.{FreshReply, fresh_shown}

no_answers : (steps : List RanStmt) → is_empty (answers steps) ≡ is_empty steps
no_answers [] = refl
no_answers (s ∷ steps) = refl

pub runs_seen : (f r u : ℕ) (h : History) → r < 2 * f + 1 → runs_in (view_of f h) r u ≡ is_running u (journal_of r h)
runs_seen f r u h lt = ap (λ (a : Attempt). not (is_empty a.answers)) (attempt_lookup f r u h lt) ∙ ap not (no_answers (attempt u (journal_of r h)))

-- the waits of all but the asker
pub waits_seen : (f r t u : ℕ) (h : History) → r < 2 * f + 1 → fresh_of h ≡ Some record { replica = r; txn = t } → (u ≡ t → ⊥) → wait_in (view_of f h) r u ≡ wait u (journal_of r h)
waits_seen f r t u h lt fresh other =
    ap (λ (a : Attempt). named_in a.last) (attempt_lookup f r u h lt)
    ∙ ap (λ b. named_in (last_told b u (journal_of r h))) (ap (λ o. is_fresh o r u) fresh ∙ and_false (r == r) (t == u) (ne_eqb t u (λ same. other (sym same))))
    ∙ wait_of_last false u (journal_of r h)

-- The journal's last call is the turn's reply.
pub record LastCall (r t : ℕ) (told : RunReply) (h : History) : Type 0 where
  pub older : History
  pub index : ℕ
  pub journal : journal_of r h ≡ Ran t (stmt_at older t index) told ∷ journal_of r older

one_more : (c r t i : ℕ) (told : RunReply) (h : History) → out_at r h ≡ Some (job.Run t i)
    → journal_of r (record { caller = c; event = event.Give r (reply.Ran told) } ∷ h) ≡ Ran t (stmt_at h t i) told ∷ journal_of r h
one_more c r t i told h out =
    ap (λ b. next_journal (call_if b r (reply.Ran told) (λ q. out_at q h) (stmt_at h)) (journal_of r h)) (eq-eqb r r refl)
    ∙ ap (λ o. next_journal (call_of o (reply.Ran told) (stmt_at h)) (journal_of r h)) out

last_by : (r t : ℕ) (told : RunReply) (h : History) → last_of (replies_to_runs h) ≡ Some told → FreshReply record { replica = r; txn = t } h → LastCall r t told h
last_by r t told h last now = record {
  older = now.older;
  index = now.index;
  journal = ap (journal_of r) (sym ((now.stands).stands).whole)
      ∙ (follow_ups r ((now.stands).stands).more (record { caller = ((now.stands).stands).caller; event = event.Give r (reply.Ran now.told) } ∷ now.older) (now.stands).last).journal
      ∙ one_more ((now.stands).stands).caller r t now.index now.told now.older now.out
      ∙ ap (λ x. Ran t (stmt_at now.older t now.index) x ∷ journal_of r now.older) (same_some now.told told (sym now.last ∙ last));
}

pub last_call : (r t : ℕ) (told : RunReply) (h : History) → fresh_of h ≡ Some record { replica = r; txn = t } → last_of (replies_to_runs h) ≡ Some told → LastCall r t told h
last_call r t told h fresh last = last_by r t told h last (fresh_shown h record { replica = r; txn = t } fresh)
