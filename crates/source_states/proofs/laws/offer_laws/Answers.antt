use Rattle.source_states.proofs.Acts.{acts, only}
use Rattle.source_states.proofs.laws.offer_laws.Goals as goal

pub returns-clause-does : goal.returns-clause-does
returns-clause-does c = acts

pub returns-clause-only : goal.returns-clause-only
returns-clause-only c = only
