use Rattle.hr_history.proofs.CanonicalLemmas.{canonical_exact, same_answer_exact}
use Rattle.hr_history.proofs.laws.canonical_answers.Goals as goal

pub returns-clause-test : goal.returns-clause-test
returns-clause-test c = canonical_exact

pub returns-clause-same : goal.returns-clause-same
returns-clause-same c = same_answer_exact
