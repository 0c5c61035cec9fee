use Rattle.machine.specs.States.{state_of as machine_state}
use Rattle.machine.specs.Views.{concrete}
use Rattle.log_simulation.proofs.Recording.{last_so}
use Rattle.log_simulation.proofs.recorder.Recorder.killed_last.Goals as goal

pub returns : goal.returns
returns c = λ p of some less few.
    last_so p c.args.self.now.follower (machine_state (concrete c.args.machine.now)).word c.args.t c.killed_last.result
    of.program of.layout (λ layout. c.killed_last.ensures layout some less few)
