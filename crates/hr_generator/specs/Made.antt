-- The scenario that is made, as its text.
use Rattle.std.specs.Prelude.{ℕ, Bool, ◌+◌, ◌*◌, ◌/◌, [], ◌++◌, codes, if◌then◌else◌}
use Rattle.std.specs.List.{flat_map, range_with_len}
use Rattle.std.specs.Fmt.{decimal}
use Rattle.hr_base.specs.Texts.{Text, line}
use Rattle.hr_base.specs.Lists.{one_to}
use Rattle.hr_generator.specs.declared.order.Order.{Order}
use Rattle.hr_generator.specs.declared.draws.Transfer.{Transfer}
use Rattle.hr_generator.specs.declared.draws.TheConstants.{ACCOUNTS}
use Rattle.hr_generator.specs.Draws.{state_after, transfer_behind}

-- three replicas of two kinds, and one table of accounts
unfoldable pub head_text : Text
head_text =
    line (codes "hrdb 1") ++ line (codes "f 1") ++ line (codes "replicas range table range") ++ line (codes "retries 3")
    ++ line (codes "table acct (id int key, owner text, bal int)")

-- an account with its first balance
unfoldable pub row_text : ℕ → Text
row_text number = codes "row acct (" ++ decimal number ++ codes ", 'own" ++ decimal number ++ codes "', 1000)\n"

-- the accounts from one to another are read
unfoldable pub read_text : ℕ → ℕ → Text
read_text from last = (codes "SELECT bal FROM acct WHERE id BETWEEN " ++ decimal from) ++ (codes " AND " ++ decimal last ++ codes "\n")

-- ten accounts are read, from this one on, if any are
abbrev pub reading_text : Bool → ℕ → Text
reading_text reads from = if reads then read_text from (from + 9) else []

-- an account gives an amount
unfoldable pub giving_text : ℕ → ℕ → Text
giving_text amount from = (codes "UPDATE acct SET bal = bal - " ++ decimal amount) ++ (codes " WHERE id = " ++ decimal from ++ codes "\n")

-- an account gets an amount
unfoldable pub getting_text : ℕ → ℕ → Text
getting_text amount to = (codes "UPDATE acct SET bal = bal + " ++ decimal amount) ++ (codes " WHERE id = " ++ decimal to ++ codes "\n")

-- a transaction: one account gives what the other gets
unfoldable pub transfer_text : Transfer → Text
transfer_text t = giving_text t.amount t.from ++ getting_text t.amount t.to ++ reading_text t.reads t.from ++ line (codes "COMMIT")

-- the transaction with this number, from 0, of those that are drawn behind a state: four draws go before for each one before it
abbrev pub numbered_text : ℕ → ℕ → Text
numbered_text x j = transfer_text (transfer_behind (state_after x (4 * j)))

-- so many transactions, drawn behind a state
unfoldable pub transfers_behind : ℕ → ℕ → Text
transfers_behind x n = flat_map (numbered_text x) (range_with_len 0 n)

-- a session of so many transactions, drawn behind a state
unfoldable pub session_behind : ℕ → ℕ → Text
session_behind x n = line (codes "session") ++ transfers_behind x n ++ line (codes "end")

-- the session with this number, from 0: its draws go on behind those of the sessions before it
abbrev pub session_text : Order → ℕ → Text
session_text order s = session_behind (state_after order.seed (4 * (s * order.transactions))) order.transactions

unfoldable pub rounds_text : ℕ → Text
rounds_text rounds = codes "rounds " ++ decimal rounds ++ codes "\n"

-- as many rounds as 200,000 choices allow, for the sessions and the three replicas
unfoldable pub schedule_text : ℕ → Text
schedule_text sessions = line (codes "schedule") ++ rounds_text (200000 / (sessions + 3)) ++ line (codes "end")

-- the scenario that an order asks for
abbrev pub made : Order → Text
made order =
    head_text ++ flat_map row_text (one_to ACCOUNTS)
    ++ flat_map (session_text order) (range_with_len 0 order.sessions)
    ++ schedule_text order.sessions
