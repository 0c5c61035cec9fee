use Rattle.std.proofs.Common.{◌++◌, ◌∙◌, List, ℕ, ap, subst, sym}
use Rattle.meaning.specs.Processes.{callers_monitors, monitor_of_role}
use Rattle.source_offers.specs.Frames.{callers_of, frame_of}
use Rattle.source_offers.specs.Stages.{process_of}
use Rattle.source_offers.specs.declared.frame.Frame.{Frame as FrameOf}
use Rattle.source_search.specs.Choices.{AreHeld}
use Rattle.source_search.proofs.Kills.{held_at}
use Rattle.source_search.proofs.killing.monitors_of.Goals as goal

pub returns : goal.returns
returns c =
    let q = c.args.process.now in
    let callers = callers_of q.callers.items in
    subst (λ (ms : List ℕ). AreHeld (process_of q) ms)
    (sym (ap (λ (ms : List ℕ). ms ++ monitor_of_role q.frame.role (callers_monitors callers)) c.new-monitors.ensures.items)
    ∙ sym (c.in_ok-add_monitor.ensures (callers_monitors callers))
    ∙ ap (λ (frames : List FrameOf). c.add_monitor.new.monitors.items ++ callers_monitors (callers_of frames))
    (sym c.as_slice.ensures.value) ∙ sym c.in_ok-add_monitors.ensures)
    (held_at q.stage (frame_of q.frame) callers)
