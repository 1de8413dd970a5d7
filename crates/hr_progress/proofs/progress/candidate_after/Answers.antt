use Rattle.std.proofs.Common.{◌≡◌, ◌+◌, ◌-◌, find, map, ap, sym, ◌∙◌, arith}
use Rattle.std.specs.List.{range_with_len}
use Rattle.std.specs.Option.{option_or}
use Rattle.hr_progress.specs.Plain.{plain_progress, live_of}
use Rattle.hr_progress.proofs.Rounds.{find_round}
use Rattle.hr_progress.proofs.progress.candidate_after.Goals as goal

pub returns-in-Some : goal.returns-in-Some
returns-in-Some c =
    let live = live_of (map plain_progress c.args.replicas.now) in
    let s = c.args.start in
    ap (λ o. option_or o (find live (range_with_len 0 (s + 1)))) (sym c.in-Some.is ∙ c.first_live.ensures) ∙ sym (find_round live c.args.f s c.requires.known)

pub returns-in-None : goal.returns-in-None
returns-in-None c =
    let live = live_of (map plain_progress c.args.replicas.now) in
    let s = c.args.start in
    let count : s + 1 - 0 ≡ s + 1 = omega arith in
    c.first_live-in-None.ensures ∙ ap (λ n. find live (range_with_len 0 n)) count
    ∙ ap (λ o. option_or o (find live (range_with_len 0 (s + 1)))) (sym c.in-None.is ∙ c.first_live.ensures) ∙ sym (find_round live c.args.f s c.requires.known)
