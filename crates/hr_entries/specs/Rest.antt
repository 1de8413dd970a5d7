-- The entries that an iterator has still to give.
use Rattle.std.specs.Prelude.{◌≡◌, List, [], ◌∷◌, Option, Some, None}
use Rattle.hr_history.specs.declared.entry.Entry.{Entry}
use Rattle.hr_entries.specs.declared.lent.EntryRef.{EntryRef}
use Rattle.hr_entries.specs.declared.lent.EntryIter.{EntryIter}
use Rattle.hr_entries.specs.Entries.{entries_of, entry_in}

abbrev pub entries_left : EntryIter → List Entry
entries_left iter = entries_of iter.statements.now iter.replies.now iter.stored.now

-- the first of them is given, or none is left, now or later
abbrev pub GivesEntry : EntryIter → Option EntryRef → EntryIter → Type 0
GivesEntry old None new = (entries_left old ≡ []) × (entries_left new ≡ [])
GivesEntry old (Some entry) new = entries_left old ≡ entry_in entry ∷ entries_left new
