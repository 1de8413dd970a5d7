-- The statement of the run that is out, or is to be.
use Rattle.std.proofs.Common.{◌≡◌, inl, inr, ℕ, ◌*◌, ◌≤◌, Option, Some, unwrap_or, ap, sym, ◌∙◌, arith}
use Rattle.hr_base.specs.Lists.{numbered}
use Rattle.hr_rel.specs.declared.stmt.Stmt.{Stmt}
use Rattle.hr_history.specs.declared.job.Job.{Job}
use Rattle.hr_history.specs.declared.job.Job.TheVariants as job
use Rattle.hr_history.specs.History.{History}
use Rattle.hr_history.specs.Words as words
use Rattle.hr_history.specs.Transactions.{submits}
use Rattle.hr_history.specs.Replicas.{out_at, stmt_at, any_stmt}
use Rattle.hr_history.specs.View.{Progress}
use Rattle.hr_history.specs.Processed.{replica_in}
use Rattle.hr_history.proofs.StepLemmas.{replica_lookup}
use Rattle.hr_records.proofs.Places.{numbered_some}
use Rattle.hr_records.proofs.ViewWords.{txn_born, statements_seen}
use Rattle.hr_sane.proofs.Begun.{begun_sane}
use Rattle.hr_records.specs.ByRule.{IsJobOf}
use Rattle.hr_records.proofs.JobLemmas.{job_rule}
use Rattle.hr_records.proofs.JobWords.{RunTaken, run_taken}
use Rattle.hr_records.proofs.KeptLemmas.{kept}
use Rattle.hr_ledger.specs.Chronicle.{Chronicle, history_in, view_in, HasBegun}
use Rattle.hr_shepherd.specs.Taken.{HasStatement}

pub out_here : (l : Chronicle) (r : ℕ) → r ≤ 2 * l.f → (replica_in (view_in l) r).out ≡ out_at r (history_in l)
out_here l r near = ap (λ (p : Progress). p.out) (replica_lookup l.f r (history_in l) (omega (arith, near)))

-- it was submitted
pub stmt_found : (l : Chronicle) (r t i : ℕ) → HasBegun l → r ≤ 2 * l.f → out_at r (history_in l) ≡ Some (job.Run t i) → numbered (submits t (history_in l)) i ≡ Some (stmt_at (history_in l) t i)
stmt_found l r t i has near out =
    let h = history_in l in
    let sane = begun_sane l.f l.sessions h has in
    let may = sane.out r (job.Run t i) (out_here l r near ∙ out) in
    let born = txn_born l.f t h (sane.known r t may.1) in
    let got = numbered_some (submits t h) i (may.2, omega (arith, may.3, statements_seen l.f t h born)) in
    got.1 ∙ ap Some (sym (ap (λ (o : Option Stmt). unwrap_or o any_stmt) got.1))

from_one : (r t i : ℕ) (h : History) → RunTaken r t i h → 1 ≤ i
from_one r t i h is = elim is.place [ inl first ↦ omega (arith, first.2) | inr later ↦ omega (arith, later.0) ]

module _ (l : Chronicle) (r : ℕ) (has : HasBegun l) (near : r ≤ 2 * l.f) where
  run_due : (t i : ℕ) → IsJobOf (view_in l) r (job.Run t i) → HasStatement (job.Run t i) (history_in l)
  run_due t i is =
      let h = history_in l in
      let taken = run_taken l.f r h (omega (arith, near)) t i (kept l.f l.sessions h has).numbers is in
      let got = numbered_some (submits t h) i (from_one r t i h taken, taken.submitted) in
      got.1 ∙ ap Some (sym (ap (λ (o : Option Stmt). unwrap_or o any_stmt) got.1))

  -- so was that of the run that is due
  pub job_due : (j : Job) → words.job l.f (history_in l) r ≡ Some j → HasStatement j (history_in l)
  job_due (job.Run t i) due = run_due t i (job_rule (view_in l) r (job.Run t i) due)
  job_due (job.Commit t) due = tt
  job_due (job.Rollback t) due = tt
  job_due job.Restart due = tt
