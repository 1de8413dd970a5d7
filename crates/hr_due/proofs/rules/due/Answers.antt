use Rattle.std.proofs.Common.{◌≡◌, Option, Some, None, List, [], ◌∷◌, sym, ◌∙◌}
use Rattle.hr_base.specs.Lists.{first_some}
use Rattle.hr_history.specs.declared.entry.Event.{Event}
use Rattle.hr_history.specs.Rules.{owed_conviction, convict, primary_gone, primary_reply, decide, differ, new_primary, preempt}
use Rattle.hr_history.specs.Turn.{Turn}
use Rattle.hr_history.specs.View.{View}
use Rattle.hr_due.specs.FollowUps.{event_of, events_of}
use Rattle.hr_due.specs.Turns.{turn_in}
use Rattle.hr_due.proofs.Orders.{rule_here, rule_past, rule_last}
use Rattle.hr_due.proofs.rules.due.Goals as goal

module _ (v : View) (turn : Turn) where
  abbrev from_differ : List (Option Event)
  from_differ = differ v turn ∷ new_primary v turn ∷ preempt v turn ∷ []

  abbrev from_reply : List (Option Event)
  from_reply = primary_reply v turn ∷ decide v turn ∷ from_differ

  -- none of the first four applies
  past_four : (e : Option Event) → None ≡ owed_conviction v turn → None ≡ convict v turn → None ≡ primary_gone v turn → None ≡ primary_reply v turn → e ≡ first_some (decide v turn ∷ from_differ)
      → e ≡ first_some (owed_conviction v turn ∷ convict v turn ∷ primary_gone v turn ∷ from_reply)
  past_four e owed convicts gone reply is =
      rule_past (owed_conviction v turn) (convict v turn ∷ primary_gone v turn ∷ from_reply) e owed
      (rule_past (convict v turn) (primary_gone v turn ∷ from_reply) e convicts
      (rule_past (primary_gone v turn) from_reply e gone (rule_past (primary_reply v turn) (decide v turn ∷ from_differ) e reply is)))

pub returns-in-Some-decide : goal.returns-in-Some-decide
returns-in-Some-decide c =
    let v = c.args.view.now in
    let t = turn_in c.args.turn.now in
    let e = event_of c.in-Some-decide.next in
    past_four v t (Some e) c.in_default.ensures c.in_default-convict.ensures c.in_default-primary_gone.ensures c.in_default-primary_reply.ensures
    (rule_here (decide v t) (from_differ v t) e (c.in-Some-decide.ensures t))

pub returns-in-Some-differ : goal.returns-in-Some-differ
returns-in-Some-differ c =
    let v = c.args.view.now in
    let t = turn_in c.args.turn.now in
    let e = event_of c.in-Some-differ.next in
    past_four v t (Some e) c.in_default.ensures c.in_default-convict.ensures c.in_default-primary_gone.ensures c.in_default-primary_reply.ensures
    (rule_past (decide v t) (from_differ v t) (Some e) (c.in_default-decide.ensures t) (rule_here (differ v t) (new_primary v t ∷ preempt v t ∷ []) e (c.in-Some-differ.ensures t)))

pub returns-in-Some-new_primary : goal.returns-in-Some-new_primary
returns-in-Some-new_primary c =
    let v = c.args.view.now in
    let t = turn_in c.args.turn.now in
    let e = event_of c.in-Some-new_primary.next in
    past_four v t (Some e) c.in_default.ensures c.in_default-convict.ensures c.in_default-primary_gone.ensures c.in_default-primary_reply.ensures
    (rule_past (decide v t) (from_differ v t) (Some e) (c.in_default-decide.ensures t)
    (rule_past (differ v t) (new_primary v t ∷ preempt v t ∷ []) (Some e) (c.in_default-differ.ensures t) (rule_here (new_primary v t) (preempt v t ∷ []) e (c.in-Some-new_primary.ensures t))))

pub returns : goal.returns
returns c =
    let v = c.args.view.now in
    let t = turn_in c.args.turn.now in
    let e = events_of c.preempt.result in
    past_four v t e c.in_default.ensures c.in_default-convict.ensures c.in_default-primary_gone.ensures c.in_default-primary_reply.ensures
    (rule_past (decide v t) (from_differ v t) e (c.in_default-decide.ensures t)
    (rule_past (differ v t) (new_primary v t ∷ preempt v t ∷ []) e (c.in_default-differ.ensures t)
    (rule_past (new_primary v t) (preempt v t ∷ []) e (c.in_default-new_primary.ensures t) (c.preempt.ensures t ∙ rule_last (preempt v t)))))
