use Rattle.proof_simulation.proofs.Tracking.{opens_tracking, tracks, catches_up, takes_visible, tracked_output}
use Rattle.proof_simulation.proofs.Tracking.{tracked_variables}
use Rattle.proof_simulation.proofs.Tracking.{tracked_ends}
use Rattle.proof_simulation.proofs.law.source_follows.Goals as goal

pub returns-clause-opens : goal.returns-clause-opens
returns-clause-opens c = opens_tracking

pub returns-clause-tracks : goal.returns-clause-tracks
returns-clause-tracks c = tracks

pub returns-clause-catches_up : goal.returns-clause-catches_up
returns-clause-catches_up c = catches_up

pub returns-clause-takes_visible : goal.returns-clause-takes_visible
returns-clause-takes_visible c = takes_visible

pub returns-clause-output : goal.returns-clause-output
returns-clause-output c = tracked_output

pub returns-clause-variables : goal.returns-clause-variables
returns-clause-variables c = tracked_variables

pub returns-clause-ends : goal.returns-clause-ends
returns-clause-ends c = tracked_ends
