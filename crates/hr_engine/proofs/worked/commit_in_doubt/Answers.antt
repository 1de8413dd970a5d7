use Rattle.std.proofs.Common.{[], ◌∷◌, refl, inl, inr}
use Rattle.hr_meaning.specs.Worked.{holding}
use Rattle.hr_engine.specs.Worked.{inserts, in_doubt, restarted}
use Rattle.hr_engine.proofs.Orders.{none_run, one_runs}
use Rattle.hr_engine.proofs.WorkedLemmas.{only_first}
use Rattle.hr_engine.proofs.worked.commit_in_doubt.Goals as goal

pub returns-clause-not_made : goal.returns-clause-not_made
returns-clause-not_made c =
    let db = holding [] in
    let first = one_runs db (inserts 1 5 50 ∷ []) 1 (only_first 1 _ _) ((refl, tt), tt) in
    let lost = none_run db in_doubt (λ u. refl) in
    (((tt, tt, first), tt, lost), inl refl, none_run db (restarted 0) (λ u. refl))

pub returns-clause-made : goal.returns-clause-made
returns-clause-made c =
    let db = holding [] in
    let first = one_runs db (inserts 1 5 50 ∷ []) 1 (only_first 1 _ _) ((refl, tt), tt) in
    let lost = none_run db in_doubt (λ u. refl) in
    (((tt, tt, first), tt, lost), inr (refl, refl), none_run db (restarted 1) (λ u. refl))
