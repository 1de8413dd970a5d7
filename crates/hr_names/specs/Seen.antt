-- Not to be believed: the table entries as the code lends them.
use Rattle.std.specs.Prelude.{[], ◌∷◌}
use Rattle.hr_names.specs.declared.scope.EntryRef.{EntryRef}
use Rattle.hr_names.specs.declared.scope.ScopeRef.{ScopeRef}
use Rattle.hr_names.specs.declared.scope.ScopeRef.TheVariants as of
use Rattle.hr_names.specs.Scope.{Entry, Scope}

abbrev pub entry_seen : EntryRef → Entry
entry_seen e = record { name = e.name.now; columns = e.columns.now }

-- the one entry, or the two
abbrev pub seen : ScopeRef → Scope
seen (of.One first) = entry_seen first ∷ []
seen (of.Two first second) = entry_seen first ∷ entry_seen second ∷ []
