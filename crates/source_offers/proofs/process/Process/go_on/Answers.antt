use Rattle.std.proofs.Common.{ap, sym, ◌∙◌}
use Rattle.source_offers.specs.Frames.{frame_of}
use Rattle.source_offers.specs.Rests.{rest_in}
use Rattle.source_offers.proofs.Frames.{goes_back}
use Rattle.source_offers.proofs.process.Process.go_on.Goals as goal

pub returns-in-Some-pop : goal.returns-in-Some-pop
returns-in-Some-pop c =
    goes_back c.args.entered (frame_of c.args.self.now.frame) c.in-Recover.field-0 c.args.self.now.callers.items
    c.pop.new.self.items c.in-Some-pop.caller c.in-Recover.is
    (ap rest_in (sym c.as_slice.ensures.value) ∙ c.in-None.ensures) c.in-Some-pop.ensures.items
