use Rattle.proof_simulation.proofs.Tracking.{opens_deferred, tracks_deferred, tracks_stray, tracks_kill, catches_up_deferred}
use Rattle.proof_simulation.proofs.Tracking.{takes_visible_deferred}
use Rattle.proof_simulation.proofs.Finishing.{finishes}
use Rattle.proof_simulation.proofs.law.source_defers.Goals as goal

pub returns-clause-opens : goal.returns-clause-opens
returns-clause-opens c = opens_deferred

pub returns-clause-defers : goal.returns-clause-defers
returns-clause-defers c = tracks_deferred

pub returns-clause-catches_up : goal.returns-clause-catches_up
returns-clause-catches_up c = catches_up_deferred

pub returns-clause-takes_visible : goal.returns-clause-takes_visible
returns-clause-takes_visible c = takes_visible_deferred

pub returns-clause-strays : goal.returns-clause-strays
returns-clause-strays c = tracks_stray

pub returns-clause-kills : goal.returns-clause-kills
returns-clause-kills c = tracks_kill

pub returns-clause-finishes : goal.returns-clause-finishes
returns-clause-finishes c = finishes
