use Rattle.std.proofs.Common.{◌≡◌, true, rules, sym, subst}
use Rattle.std.proofs.lemmas.Fn.{filter_same}
use Rattle.hr_base.specs.Lists.{is_ascending}
use Rattle.hr_locks.specs.Waits.{without}
use Rattle.hr_locks.proofs.WaitLemmas.{part_ascending}
use Rattle.hr_locks.proofs.changes.drop_name.Goals as goal

pub returns-clause-names : goal.returns-clause-names
returns-clause-names c = filter_same _ _ _ (λ x b f' k. search rules) _ _ c.retain.ensures.filtered

pub invariant_of-wait : goal.invariant_of-wait
invariant_of-wait c =
    let kept : c.retain.new.self.items ≡ without c.args.txn c.args.wait.now.names.items = filter_same _ _ _ (λ x b f' k. search rules) _ _ c.retain.ensures.filtered in
    record { ascending = subst (λ v. is_ascending v ≡ true) (sym kept) (part_ascending _ c.args.wait.now.names.items c.args.wait.now.ascending) }
