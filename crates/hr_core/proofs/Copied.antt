-- How a transaction ended, as it is kept.
use Rattle.std.proofs.Common.{◌≡◌, ℕ, Option, Some, None, Result, Ok, Err, OnErr, refl, ap, sym, ◌∙◌}
use Rattle.hr_base.specs.Lists.{numbered}
use Rattle.hr_history.specs.declared.phase.Phase.{Phase}
use Rattle.hr_history.specs.History.{History}
use Rattle.hr_history.specs.Processed.{phase_in}
use Rattle.hr_history.specs.Replies.{refusal_of, ending_by, ending_of}
use Rattle.hr_history.specs.Transactions.{begun, session_of, phase_of}
use Rattle.hr_records.proofs.KeptLemmas.{kept}
use Rattle.hr_records.proofs.Options.{some_none}
use Rattle.hr_records.proofs.Places.{numbered_born, numbered_some}
use Rattle.hr_records.proofs.ViewWords.{phase_seen}
use Rattle.hr_ledger.specs.Chronicle.{Chronicle, history_in, view_in, HasBegun}

module _ (l : Chronicle) (has : HasBegun l) (t : ℕ) where
  -- one that never began hasn't ended
  pub none_ended : session_of t (history_in l) ≡ None → None ≡ ending_of t (history_in l)
  none_ended none =
      let h = history_in l in
      let k = kept l.f l.sessions h has in
      let active = (k.numbers.unborn t (λ born. let its = numbered_some (begun h) t born in some_none its.0 (sym its.1 ∙ none))).0 in
      ap (λ (p : Phase). ending_by p (refusal_of t h)) (sym active)

  pub phase_there : (s : ℕ) → session_of t (history_in l) ≡ Some s → phase_in (view_in l) t ≡ phase_of t (history_in l)
  phase_there s at = phase_seen l.f t (history_in l) (numbered_born (begun (history_in l)) t s at)

pub on_err : {T E : Type 0} (P : Type 0) (r : Result T E) → P → OnErr r P
on_err P (Ok x) p = tt
on_err P (Err x) p = p
