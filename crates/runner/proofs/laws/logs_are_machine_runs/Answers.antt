use Rattle.runner.proofs.Unrolling.{steps_so, runs_so, meets_so}
use Rattle.runner.proofs.OneByOne.{logs_so}
use Rattle.runner.proofs.Locally.{locally_so}
use Rattle.runner.proofs.laws.logs_are_machine_runs.Goals as goal

pub returns-clause-steps : goal.returns-clause-steps
returns-clause-steps c = steps_so

pub returns-clause-logs : goal.returns-clause-logs
returns-clause-logs c = logs_so

pub returns-clause-runs : goal.returns-clause-runs
returns-clause-runs c = runs_so

pub returns-clause-broken : goal.returns-clause-broken
returns-clause-broken c = meets_so

pub returns-clause-locally : goal.returns-clause-locally
returns-clause-locally c = locally_so
