-- The report of a run: what was committed, with the accepted answers; how each try of each session ended; who was convicted;
-- and where each replica stands, with its committed rows.
use Rattle.std.specs.Prelude.{ℕ, Bool, ◌==◌, if◌then◌else◌, Option, Some, None, unwrap_or, List, [], ◌++◌, length, codes}
use Rattle.std.specs.List.{flat_map, find, zip}
use Rattle.std.specs.Option.{option_map}
use Rattle.std.specs.Fmt.{decimal}
use Rattle.hr_base.specs.Texts.{Text, line, each_from}
use Rattle.hr_base.specs.Lists.{numbered}
use Rattle.hr_engine.specs.declared.reply.RunReply.{RunReply}
use Rattle.hr_engine.specs.declared.reply.RunReply.TheVariants as run
use Rattle.hr_rel.specs.declared.value.Value.{Value}
use Rattle.hr_rel.specs.declared.answer.Answer.{Answer}
use Rattle.hr_rel.specs.declared.catalog.Catalog.{Catalog}
use Rattle.hr_rel.specs.declared.catalog.TableDef.{TableDef}
use Rattle.hr_forms.specs.declared.line.EngineKind.{EngineKind}
use Rattle.hr_forms.specs.declared.line.EngineKind.TheVariants as kind
use Rattle.hr_history.specs.Transactions.{session_of, log}
use Rattle.hr_history.specs.Replies.{ending_of}
use Rattle.hr_history.specs.Processed.{given_in, replica_in, is_primary}
use Rattle.hr_ledger.specs.Chronicle.{Chronicle, history_in, view_in}
use Rattle.hr_answer_text.specs.Answers.{answer_text, row_text}
use Rattle.hr_schedule.specs.declared.attempt.Try.{Try}
use Rattle.hr_run_report.specs.Endings.{ending_text}
use Rattle.hr_run_report.specs.Convictions.{convictions_text, preempted}

-- the number of the block that a transaction was a try of, among the tries of its session
abbrev pub block_of : ℕ → List Try → ℕ
block_of txn tries = unwrap_or (option_map (λ (x : Try). x.block) (find (λ (x : Try). x.txn == txn) tries)) 0

-- the tries of the session with this number, from 1
abbrev pub own_tries : List (List Try) → ℕ → List Try
own_tries tries session = unwrap_or (numbered tries session) []

-- the answer of a transaction's statement with this number
abbrev pub numbered_answer : ℕ → Answer → Text
numbered_answer i answer = line (codes "answer " ++ decimal i ++ codes " " ++ answer_text answer)

-- the text of an item, where there is one
abbrev pub text_if : {X : Type 0} → (ℕ → X → Text) → ℕ → Option X → Text
text_if text n None = []
text_if text n (Some x) = text n x

-- the answer of a reply, if it has one
abbrev pub answer_in : Option RunReply → Option Answer
answer_in (Some (run.Done answer)) = Some answer
answer_in _ = None

-- a transaction of this session, at its place in the log
abbrev pub commit_line : ℕ → ℕ → ℕ → ℕ → Text
commit_line place session block txn =
    line (codes "commit " ++ decimal place ++ codes " session " ++ decimal session ++ codes " block " ++ decimal block ++ codes " txn " ++ decimal txn)

-- the committed transactions, in the order of the log
abbrev pub committed : Chronicle → List ℕ
committed c = log (history_in c)

-- the number of a transaction's session
abbrev pub session_in : Chronicle → ℕ → ℕ
session_in c txn = unwrap_or (session_of txn (history_in c)) 0

-- a committed transaction, at its place in the log, with its accepted answers
abbrev pub commit_text : Chronicle → List (List Try) → ℕ → ℕ → Text
commit_text c tries place txn =
    commit_line place (session_in c txn) (block_of txn (own_tries tries (session_in c txn))) txn ++ each_from numbered_answer 1 (given_in (view_in c) txn)

-- a try of a block, and how it ended
abbrev pub try_text : Chronicle → Try → Text
try_text c tried =
    codes "block " ++ decimal tried.block ++ codes " try " ++ decimal tried.number ++ codes " txn " ++ decimal tried.txn ++ codes " "
    ++ ending_text (ending_of tried.txn (history_in c))

abbrev pub session_text : Chronicle → ℕ → List Try → Text
session_text c session tries = line (codes "session " ++ decimal session) ++ flat_map (try_text c) tries

abbrev pub kind_word : EngineKind → Text
kind_word kind.ByTable = codes "table"
kind_word kind.ByRange = codes "range"

-- a convicted replica is told as convicted, lost or not
abbrev pub state_word : Bool → Bool → Text
state_word convicted lost = if convicted then codes "convicted" else (if lost then codes "lost" else codes "live")

abbrev pub role_text : Bool → Text
role_text is_primary = if is_primary then codes " primary" else []

-- a replica's number, and what kind of engine it has
abbrev pub kind_text : ℕ → EngineKind → Text
kind_text r kind = codes "replica " ++ decimal r ++ codes " " ++ kind_word kind

-- how much a replica has committed, and how often a transaction gave way there
abbrev pub work_text : Chronicle → ℕ → Text
work_text c r = codes " position " ++ decimal (replica_in (view_in c) r).position ++ codes " preempted " ++ decimal (preempted r c.entries)

-- whether a replica is live, and the primary
abbrev pub state_text : Chronicle → ℕ → Text
state_text c r =
    line (codes " " ++ state_word (replica_in (view_in c) r).convicted (replica_in (view_in c) r).lost ++ role_text (is_primary (view_in c) r))

-- where a replica of this kind stands
abbrev pub standing_line : Chronicle → ℕ → EngineKind → Text
standing_line c r kind = kind_text r kind ++ work_text c r ++ state_text c r

-- rows, each on a line of its own
abbrev pub rows_text : List (List Value) → Text
rows_text rows = flat_map (λ row. line (row_text row)) rows

-- a table's name, the number of its rows, and the rows
abbrev pub table_text : TableDef × List (List Value) → Text
table_text t =
    line (codes "table " ++ t.0.name ++ codes " " ++ decimal (length t.1)) ++ rows_text t.1

-- a replica with the rows that it has committed
abbrev pub replica_text : Chronicle → Catalog → ℕ → EngineKind × List (List (List Value)) → Text
replica_text c catalog r replica = standing_line c r replica.0 ++ flat_map table_text (zip catalog.tables replica.1)

-- The report. `tries` are the tries of each session in the order of their Begins, and `dumps` each replica's committed rows.
abbrev pub report_text : List EngineKind → Catalog → Chronicle → List (List Try) → List (List (List (List Value))) → Text
report_text kinds catalog c tries dumps =
    line (codes "hrdb report 1")
    ++ line (codes "commits " ++ decimal (length (committed c)))
    ++ each_from (commit_text c tries) 1 (committed c)
    ++ each_from (session_text c) 1 tries
    ++ convictions_text c.entries
    ++ each_from (replica_text c catalog) 0 (zip kinds dumps)
    ++ line (codes "end")
