use Rattle.std.proofs.Common.{Some, ap, ◌∙◌}
use Rattle.program.specs.Views.{program_of}
use Rattle.meaning.specs.Labels.{Enters, Enter}
use Rattle.meaning.specs.Processes.{goes_on, recovers}
use Rattle.source_offers.specs.Frames.{callers_of, frame_of}
use Rattle.source_table.specs.Tables.{table_of}
use Rattle.source_states.specs.Actions.{kind_of}
use Rattle.source_states.specs.States.{state_of}
use Rattle.source_states.proofs.Takes.{taken}
use Rattle.source_states.proofs.state.SourceState.enter.Goals as goal

pub returns : goal.returns
returns c =
    taken c.args.number (Enters c.args.monitor) (kind_of c.args.kind.now)
    (goes_on (Some c.args.monitor) (frame_of c.args.process.frame) (callers_of c.args.process.callers.items))
    (recovers (program_of c.args.program.now) c.args.monitor (frame_of c.args.process.frame)
    (callers_of c.args.process.callers.items))
    c.in-Some.was_abandoned (state_of c.args.self.now) (state_of c.go_in.new.self) (table_of c.enter.new.self)
    (rw c.in-Some.is at c.in_ok-was_abandoned.ensures.ok)
    (ap kind_of c.in-Enter.is ∙ ap Enter c.if-named-monitor.false) c.in_ok-go_in.ensures
