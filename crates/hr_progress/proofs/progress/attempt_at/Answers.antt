use Rattle.std.proofs.Common.{nat_eq, sym, ap, ◌∙◌}
use Rattle.std.specs.Map.{lookup}
use Rattle.std.specs.Option.{option_map}
use Rattle.hr_progress.specs.Plain.{PlainProgress, plain_attempt}
use Rattle.hr_progress.proofs.Entries.{lookup_plain}
use Rattle.hr_progress.proofs.Lookups.{replica_found, replica_missing}
use Rattle.hr_progress.proofs.progress.attempt_at.Goals as goal

pub returns-in-Some : goal.returns-in-Some
returns-in-Some c =
    ap (option_map plain_attempt) c.get-in-Some.ensures.value ∙ sym (lookup_plain c.args.txn c.in-Some.progress.now.attempts.entries)
    ∙ sym (ap (λ (q : PlainProgress). lookup (nat_eq c.args.txn) q.attempts) (replica_found c.args.replicas.now c.args.replica c.in-Some.progress.now c.in-Some.ensures.lookup.3.0 c.in-Some.ensures.lookup.1))

pub returns-in-None : goal.returns-in-None
returns-in-None c = sym (ap (λ (q : PlainProgress). lookup (nat_eq c.args.txn) q.attempts) (replica_missing c.args.replicas.now c.args.replica c.in-None.ensures.lookup.3))
