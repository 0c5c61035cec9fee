use Rattle.std.specs.Prelude.{[]}
use Rattle.std.proofs.Common.{refl}
use Rattle.meaning.specs.States.{opening}
use Rattle.proof_commutation.proofs.Behind.{begins}
use Rattle.proof_commutation.proofs.Reordering.{placed_leads}
use Rattle.proof_commutation.proofs.Same.{same_kinds}
use Rattle.proof_commutation.proofs.placing.ordering_laws.Goals as goal

pub returns-clause-same_end : goal.returns-clause-same_end
returns-clause-same_end c = λ p actions s wf marked.
    placed_leads p wf actions [] (λ t. []) (opening p) (opening p) s refl (begins p (opening p)) marked

pub returns-clause-same_actions : goal.returns-clause-same_actions
returns-clause-same_actions c = λ n t actions low high. same_kinds n t low high (λ u. []) actions
