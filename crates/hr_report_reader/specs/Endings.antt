-- How a try ended, why a replica was convicted, and what state it is in, as the words of a line say it.
use Rattle.std.specs.Prelude.{ℕ, Bool, true, false, ◌&&◌, ◌||◌, List, Option, Some, None, is_some, codes, if◌then◌else◌}
use Rattle.std.specs.Option.{is_none}
use Rattle.std.specs.List.{list_all}
use Rattle.hr_base.specs.Texts.{Text}
use Rattle.hr_line.specs.Words.{first, others}
pub use Rattle.hr_report_reader.specs.Words.{says}
use Rattle.hr_report_reader.specs.Words.{long_in, short_in, is_long, labelled, labelled_short, past_two, is_over}

-- `N`, and no word more
abbrev pub is_long_alone : List Text → Bool
is_long_alone words = is_some (long_in (first words)) && is_over (others words)

abbrev pub is_why : Option Text → Bool
is_why word = says word (codes "lost") || says word (codes "convicted") || says word (codes "suspected")

-- `R lost`, `R convicted`, `R suspected`
abbrev pub is_change : List Text → Bool
is_change words = is_some (short_in (first words)) && is_why (first (others words)) && is_over (past_two words)

abbrev pub is_bare_ending : Option Text → Bool
is_bare_ending word = says word (codes "rolledback") || says word (codes "memory") || says word (codes "unfinished")

-- `committed P`, `deadlock T ..`, `primary R WHY`, or one word
abbrev pub is_plain_ending : Option Text → List Text → Bool
is_plain_ending word words =
    if says word (codes "committed") then is_long_alone words
    else (if says word (codes "deadlock") then list_all is_long words
    else (if says word (codes "primary") then is_change words
    else is_bare_ending word && is_over words))

-- `I`, of `differ I`
abbrev pub differing : List Text → Option Bool
differing words = if is_some (short_in (first words)) && is_over (others words) then Some true else None

-- how a try ended; and whether lines tell the answers that differ behind it
abbrev pub ending : List Text → Option Bool
ending words =
    if says (first words) (codes "differ") then differing (others words)
    else (if is_plain_ending (first words) (others words) then Some false else None)

-- `txn T statement I`
abbrev pub names_statement : List Text → Bool
names_statement words =
    is_some (labelled (codes "txn") words) && is_some (labelled_short (codes "statement") (past_two words)) && is_over (past_two (past_two words))

-- `txn T`
abbrev pub names_txn : List Text → Bool
names_txn words = is_some (labelled (codes "txn") words) && is_over (past_two words)

-- why a replica was convicted
abbrev pub is_reason : List Text → Bool
is_reason words =
    if says (first words) (codes "contradicted") || says (first words) (codes "differs") then names_statement (others words)
    else (if says (first words) (codes "blocked") || says (first words) (codes "deadlock") then names_txn (others words)
    else says (first words) (codes "restart") && is_long_alone (others words))

abbrev pub is_state_word : Option Text → Bool
is_state_word word = says word (codes "live") || says word (codes "lost") || says word (codes "convicted")

-- nothing, or `primary`
abbrev pub is_role : List Text → Bool
is_role words = is_none (first words) || (says (first words) (codes "primary") && is_over (others words))

-- a replica's state
abbrev pub is_state : List Text → Bool
is_state words = is_state_word (first words) && is_role (others words)
