-- What a history tells of convictions and preemptions, from its first entry on.
use Rattle.std.specs.Prelude.{ℕ, ◌==◌, if◌then◌else◌, Bool, false, Option, Some, None, List, [], ◌++◌, filter, length, codes}
use Rattle.std.specs.List.{flat_map}
use Rattle.std.specs.Fmt.{decimal}
use Rattle.hr_base.specs.Texts.{Text, line}
use Rattle.hr_history.specs.declared.entry.Entry.{Entry}
use Rattle.hr_history.specs.declared.entry.Event.{Event}
use Rattle.hr_history.specs.declared.entry.Event.TheVariants as event
use Rattle.hr_history.specs.declared.evidence.Evidence.{Evidence}
use Rattle.hr_history.specs.declared.evidence.Evidence.TheVariants as evidence

-- what a word says of a transaction, and of a statement of it
abbrev pub of_txn : Text → ℕ → Text
of_txn word txn = word ++ codes " txn " ++ decimal txn

abbrev pub of_statement : Text → ℕ → ℕ → Text
of_statement word txn index = of_txn word txn ++ codes " statement " ++ decimal index

-- what shows that a replica isn't correct
abbrev pub evidence_text : Evidence → Text
evidence_text (evidence.Contradicted txn index) = of_statement (codes "contradicted") txn index
evidence_text (evidence.Differs txn index) = of_statement (codes "differs") txn index
evidence_text (evidence.BadBlocked txn) = of_txn (codes "blocked") txn
evidence_text (evidence.BadDeadlock txn) = of_txn (codes "deadlock") txn
evidence_text (evidence.BadRestart count) = codes "restart " ++ decimal count

-- a conviction has a line; nothing else has
abbrev pub conviction_text : Event → Text
conviction_text (event.Convict replica shown) = line (codes "convicted " ++ decimal replica ++ codes " " ++ evidence_text shown)
conviction_text _ = []

abbrev pub convictions_text : List Entry → Text
convictions_text entries = flat_map (λ (e : Entry). conviction_text e.event) entries

abbrev pub is_preempt_at : ℕ → Event → Bool
is_preempt_at r (event.Preempt replica txn) = replica == r
is_preempt_at r _ = false

-- how many preemptions at a replica an entry tells
abbrev pub preempts_in : ℕ → Option Entry → ℕ
preempts_in r None = 0
preempts_in r (Some e) = if is_preempt_at r e.event then 1 else 0

-- how often a transaction was preempted at a replica
abbrev pub preempted : ℕ → List Entry → ℕ
preempted r entries = length (filter (λ (e : Entry). is_preempt_at r e.event) entries)
