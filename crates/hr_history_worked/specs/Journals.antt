-- Journals beside the worked ones of `hr_engine`.
use Rattle.std.specs.Prelude.{pos, [], ◌∷◌}
use Rattle.hr_rel.specs.declared.answer.Answer.TheVariants.{Failed}
use Rattle.hr_rel.specs.declared.answer.RunError.TheVariants.{DuplicateKey}
use Rattle.hr_meaning.specs.Worked.{insert}
use Rattle.hr_engine.specs.declared.reply.RunReply.TheVariants as run
use Rattle.hr_engine.specs.declared.reply.EndReply.TheVariants as end
use Rattle.hr_engine.specs.Journal.{Ran, Committed, Journal}
use Rattle.hr_engine.specs.Worked.{in_order, inserts, finds, waits_for}

-- two transactions run, and the commit of one is answered Lost
abbrev pub lost_beside_another : Journal
lost_beside_another = in_order (inserts 1 5 50 ∷ inserts 2 6 60 ∷ Committed 1 end.Lost ∷ [])

-- there is no memory for a transaction's second statement
abbrev pub no_memory : Journal
no_memory = in_order (inserts 1 5 50 ∷ Ran 1 (insert 6 60) run.NoMemory ∷ [])

-- transaction 3 is told to wait for 1, and when it asks again for 2
abbrev pub told_again : Journal
told_again = in_order (inserts 1 5 50 ∷ inserts 2 6 60 ∷ waits_for 3 5 1 ∷ waits_for 3 6 2 ∷ [])

-- one commit counts, and the next is in doubt
abbrev pub doubt_behind_a_commit : Journal
doubt_behind_a_commit = in_order (inserts 1 5 50 ∷ Committed 1 end.Done ∷ inserts 2 6 60 ∷ Committed 2 end.Lost ∷ [])

-- the key that transaction 2 inserts was committed before
abbrev pub key_is_there : Journal
key_is_there = in_order (inserts 1 5 50 ∷ Committed 1 end.Done ∷ Ran 2 (insert 5 51) (run.Done (Failed (DuplicateKey (pos 5)))) ∷ [])

-- transaction 2 has just read a row of transaction 1
abbrev pub reads_uncommitted : Journal
reads_uncommitted = in_order (inserts 1 5 50 ∷ finds 2 5 50 ∷ [])
