use Rattle.std.proofs.Common.{nat_eq, position, sym, ap, map, ◌∙◌}
use Rattle.hr_progress.specs.Plain.{PlainProgress, key}
use Rattle.hr_progress.proofs.Entries.{keys_plain}
use Rattle.hr_progress.proofs.Lookups.{replica_found, replica_missing}
use Rattle.hr_progress.proofs.progress.entry_place.Goals as goal

pub returns-in-Some : goal.returns-in-Some
returns-in-Some c =
    c.get_index_of.ensures.index ∙ ap (position (nat_eq c.args.txn)) (sym (keys_plain c.in-Some.progress.now.attempts.entries))
    ∙ sym (ap (λ (q : PlainProgress). position (nat_eq c.args.txn) (map key q.attempts)) (replica_found c.args.replicas.now c.args.replica c.in-Some.progress.now c.in-Some.ensures.lookup.3.0 c.in-Some.ensures.lookup.1))

pub returns-in-None : goal.returns-in-None
returns-in-None c = sym (ap (λ (q : PlainProgress). position (nat_eq c.args.txn) (map key q.attempts)) (replica_missing c.args.replicas.now c.args.replica c.in-None.ensures.lookup.3))
