use Rattle.std.proofs.Common.{◌≡◌, true, false, not, ◌&&◌, find, ap, sym, ◌∙◌}
use Rattle.hr_history.specs.Processed.{live_in, is_primary}
use Rattle.hr_moves.specs.Kept.{touched_in}
use Rattle.hr_pool.specs.Searched.{gives_way_here}
use Rattle.hr_pool.proofs.GiveWay.{find_agree, find_never, preempts_found}
use Rattle.hr_pool.proofs.preemption.preempts.Goals as goal

pub returns-then-is_live_secondary : goal.returns-then-is_live_secondary
returns-then-is_live_secondary c =
    let v = c.args.view.now in
    let r = c.args.replica in
    let may : (live_in v r && not (is_primary v r)) ≡ true = sym c.is_live_secondary.ensures ∙ c.if-is_live_secondary.true in
    c.first_to_give_way.ensures ∙ ap (find (gives_way_here v r)) c.touched.ensures
    ∙ find_agree (gives_way_here v r) (λ h. live_in v r && not (is_primary v r) && gives_way_here v r h) (λ h. sym (ap (λ b. b && gives_way_here v r h) may)) (touched_in v r)
    ∙ sym (preempts_found v r c.sane.ensures)

pub returns-else-is_live_secondary : goal.returns-else-is_live_secondary
returns-else-is_live_secondary c =
    let v = c.args.view.now in
    let r = c.args.replica in
    let may : (live_in v r && not (is_primary v r)) ≡ false = sym c.is_live_secondary.ensures ∙ c.if-is_live_secondary.false in
    sym (preempts_found v r c.sane.ensures ∙ find_never (λ h. live_in v r && not (is_primary v r) && gives_way_here v r h) (λ h. ap (λ b. b && gives_way_here v r h) may) (touched_in v r))
