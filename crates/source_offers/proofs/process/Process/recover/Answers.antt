use Rattle.std.proofs.Common.{ap, sym, ◌∙◌}
use Rattle.program.specs.Views.{program_of}
use Rattle.source_offers.specs.Frames.{frame_of}
use Rattle.source_offers.proofs.Frames.{recovering}
use Rattle.source_offers.proofs.process.Process.recover.Goals as goal

pub returns : goal.returns
returns c =
    recovering (program_of c.args.program.now) c.args.monitor c.in-Some.part _ c.args.self.now.frame
    c.replace-interrupted.result
    c.replace-interrupted.new.dest c.args.self.now.callers.items c.push.new.self.items c.new.result.items
    (sym c.recover_part.ensures ∙ c.in-Some.is) c.go_on.ensures
    (ap frame_of c.replace-interrupted.ensures.after ∙ c.in_ok-frame.ensures) c.new.ensures.items
    c.replace-interrupted.ensures.value c.in_ok-push.ensures.items
