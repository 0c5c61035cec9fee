use Rattle.machine.proofs.Stepping.{opens_so, steps_so}
use Rattle.machine.proofs.Refusing.{breaks_so, refuses_so, moves_so}
use Rattle.machine.proofs.FrontRuns.{fronts_run_so}
use Rattle.machine.proofs.Outside.{strays_so, stray_refused_so}
use Rattle.machine.proofs.Killing.{kills_so, kill_refused_so}
use Rattle.machine.proofs.laws.steps_are_machine_steps.Goals as goal

pub returns-clause-opening : goal.returns-clause-opening
returns-clause-opening c = opens_so

pub returns-clause-step : goal.returns-clause-step
returns-clause-step c = steps_so

pub returns-clause-broken : goal.returns-clause-broken
returns-clause-broken c = breaks_so

pub returns-clause-cannot_move : goal.returns-clause-cannot_move
returns-clause-cannot_move c = refuses_so

pub returns-clause-can_move : goal.returns-clause-can_move
returns-clause-can_move c = moves_so

pub returns-clause-stray : goal.returns-clause-stray
returns-clause-stray c = strays_so

pub returns-clause-no_stray : goal.returns-clause-no_stray
returns-clause-no_stray c = stray_refused_so

pub returns-clause-kill : goal.returns-clause-kill
returns-clause-kill c = kills_so

pub returns-clause-no_kill : goal.returns-clause-no_kill
returns-clause-no_kill c = kill_refused_so

pub returns-clause-runs : goal.returns-clause-runs
returns-clause-runs c = fronts_run_so
