use Rattle.source_states.proofs.Settled.{law}
use Rattle.source_states.proofs.laws.internal_laws.Goals as goal

pub returns : goal.returns
returns c = law
