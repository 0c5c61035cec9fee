use Rattle.machine.specs.States.{state_of as machine_state}
use Rattle.machine.specs.Views.{concrete}
use Rattle.log_simulation.proofs.Recording.{is_visible_so}
use Rattle.log_simulation.proofs.recorder.Recorder.is_visible.Goals as goal

pub returns : goal.returns
returns c = λ p here of some less few is.
    is_visible_so p c.args.self.now.follower (machine_state (concrete c.args.machine.now)).word c.args.t here c.args.step
    c.args.value c.is_visible.result of.program of.layout is
    (λ layout. c.is_visible.ensures layout some less few)
