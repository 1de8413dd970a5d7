use Rattle.std.proofs.Common.{refl, rules, ◌∙◌}
use Rattle.hr_line.proofs.WordLemmas.{words_split}
use Rattle.hr_line.proofs.words.split_word.Goals as goal

pub returns-clause-some : goal.returns-clause-some
returns-clause-some c =
    words_split c.args.text.now _ _ c.past_blanks-filled.ensures c.word_len.ensures.value (search rules)
    ∙ rw (c.split_at.ensures.front, c.split_at.ensures.back) refl
