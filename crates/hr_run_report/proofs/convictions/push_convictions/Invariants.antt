use Rattle.std.proofs.Common.{◌≡◌, ◌++◌, string_bytes}
use Rattle.hr_entries.specs.Rest.{entries_left}
use Rattle.hr_run_report.specs.Convictions.{convictions_text}
use Rattle.hr_run_report.proofs.convictions.push_convictions.Given as goal

abbrev pub invariant-entries : goal.invariant-entries
invariant-entries l =
    (goal.iterator-entries).can_next l.entry-iterator ×
    (goal.iterator-entries).is_finite l.entry-iterator ×
    (string_bytes l.out ++ convictions_text (entries_left l.entry-iterator) ≡ string_bytes l.fn.out ++ convictions_text l.shepherd.entries)
