-- The summary of a run of transfers.
use Rattle.std.specs.Prelude.{ℕ, ℤ, pos, Bool, true, false, if◌then◌else◌, Option, Some, None, unwrap_or, List, [], ◌∷◌, ◌++◌, filter, length, map, slice_get, codes}
use Rattle.std.specs.List.{flat_map}
use Rattle.std.specs.Fmt.{decimal, signed_decimal}
use Rattle.hr_base.specs.Texts.{Text, line}
use Rattle.hr_rel.specs.declared.value.Value.{Value}
use Rattle.hr_rel.specs.declared.value.Value.TheVariants as value
use Rattle.hr_meaning.specs.Select.{exact_sum}
use Rattle.hr_history.specs.declared.entry.Entry.{Entry}
use Rattle.hr_history.specs.declared.entry.Event.{Event}
use Rattle.hr_history.specs.declared.entry.Event.TheVariants as event
use Rattle.hr_history.specs.Transactions.{log}
use Rattle.hr_ledger.specs.Chronicle.{Chronicle, history_in}
use Rattle.hr_generator.specs.declared.order.Order.{Order}

abbrev pub is_refuse : Event → Bool
is_refuse (event.Refuse txn cause) = true
is_refuse _ = false

-- a transaction gives way at a replica
abbrev pub is_preempt : Event → Bool
is_preempt (event.Preempt replica txn) = true
is_preempt _ = false

-- how many such events an entry tells
abbrev pub told_in : (Event → Bool) → Option Entry → ℕ
told_in test None = 0
told_in test (Some e) = if test e.event then 1 else 0

-- how many such events entries tell
abbrev pub told : (Event → Bool) → List Entry → ℕ
told test entries = length (filter (λ (e : Entry). test e.event) entries)

abbrev pub refused : List Entry → ℕ
refused entries = told is_refuse entries

abbrev pub preempted : List Entry → ℕ
preempted entries = told is_preempt entries

abbrev pub value_or_null : Option Value → Value
value_or_null found = unwrap_or found value.Null

-- an account's balance: its row's third value
abbrev pub balance : List Value → Value
balance row = value_or_null (slice_get row 2)

-- what accounts hold together
abbrev pub balances : List (List Value) → ℤ
balances accounts = exact_sum (map balance accounts)

-- what the accounts of the first table hold together
abbrev pub total : List (List (List Value)) → ℤ
total [] = pos 0
total (accounts ∷ tables) = balances accounts

unfoldable pub total_text : List (List (List Value)) → Text
total_text rows = codes " " ++ signed_decimal (total rows)

-- a number of transactions, behind its word
unfoldable pub count_text : Text → ℕ → Text
count_text word count = word ++ codes " " ++ decimal count ++ codes "\n"

abbrev pub counts_text : ℕ → ℕ → ℕ → Text
counts_text commits refused preempted =
    count_text (codes "commits") commits ++ count_text (codes "refused") refused ++ count_text (codes "preempted") preempted

-- how many transactions are committed and were refused, and how often one gave way
unfoldable pub commits_text : Chronicle → Text
commits_text c = counts_text (length (log (history_in c))) (refused c.entries) (preempted c.entries)

-- what was asked for
unfoldable pub order_text : Order → Text
order_text order =
    codes "load " ++ decimal order.seed ++ codes " " ++ decimal order.sessions ++ codes " " ++ decimal order.transactions ++ codes "\n"

-- the summary of a run of what was asked for: what became of the transactions, and the sum at each replica
abbrev pub summary_text : Order → Chronicle → List (List (List (List Value))) → Text
summary_text order c dumps = order_text order ++ commits_text c ++ line (codes "total" ++ flat_map total_text dumps)
