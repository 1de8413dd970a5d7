use Rattle.hr_precedence.proofs.LiveVotes.{decided_by_live, refused_by_live, refused_asked}
use Rattle.hr_precedence.proofs.laws.votes_of_live_replicas.Goals as goal

pub returns-clause-decided : goal.returns-clause-decided
returns-clause-decided c f sessions caller t before begun = decided_by_live f sessions caller t before begun

pub returns-clause-refused : goal.returns-clause-refused
returns-clause-refused c f sessions caller t index by at before begun = refused_by_live f sessions caller t index by at before begun

pub returns-clause-asked : goal.returns-clause-asked
returns-clause-asked c f sessions caller t index by at before begun = refused_asked f sessions caller t index by at before begun
