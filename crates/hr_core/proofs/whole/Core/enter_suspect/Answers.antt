use Rattle.std.proofs.Common.{◌≡◌, ℕ, ◌+◌, ◌≤◌, ◌<◌, ◌++◌, [], ◌∷◌, Option, None, Some, List, length, refl, sym, ◌∙◌, ap, subst, arith, length-append}
use Rattle.hr_history.specs.declared.entry.Event.TheVariants as event
use Rattle.hr_history.specs.Primary.{is_some_of}
use Rattle.hr_history.specs.Replies.{Waiting}
use Rattle.hr_history.specs.Transactions as history
use Rattle.hr_history.specs.Turn.{replies_to_runs}
use Rattle.hr_ledger.specs.Chronicle.{Chronicle, history_in, and_entry, IsQuiet, IsAllowed}
use Rattle.hr_core.specs.Seats.{seat_in, state_kept, waiting, change_of}
use Rattle.hr_core.specs.Told.{plain}
use Rattle.hr_core.proofs.Changes.{seat_changed, seats_length, refusal_end}
use Rattle.std.proofs.lemmas.List.{length-reverse}
use Rattle.hr_core.proofs.Silent.{few_suspicions}
use Rattle.hr_core.proofs.Steps.{entered, wait_step}
use Rattle.hr_core.proofs.whole.Core.enter_suspect.Goals as goal

pub suspect-requires : goal.suspect-requires
suspect-requires c = record { quiet = subst IsQuiet (sym c.self.view_is) c.requires.quiet }

pub returns-clause-ok : goal.returns-clause-ok
returns-clause-ok c = c.in_ok-suspect.ensures.ok ∙ ap (and_entry c.args.caller (event.Suspect)) c.self.view_is

pub invariant_of-self-2 : goal.invariant_of-self-2
invariant_of-self-2 c = entered c.args.caller (event.Suspect) (plain c.self.inside) c.self.invariant c.suspect.new.self c.self.inside.seats.items c.self.inside.causes.items (c.one_more.result) (c.in_ok-suspect.ensures.ok) refl (λ q state low high was. was) c.self.invariant.causes.each (λ t o was. was) c.one_more.ensures

pub one_more-requires : goal.one_more-requires
one_more-requires c =
    let s = c.self.inside.ledger in
    omega (arith, c.self.invariant.suspects, few_suspicions (history_in s), length-reverse s.entries, c.len.ensures, ap (λ (x : Chronicle). length x.entries) c.in_ok-suspect.ensures.ok, length-append s.entries (record { caller = c.args.caller; event = event.Suspect } ∷ []))
