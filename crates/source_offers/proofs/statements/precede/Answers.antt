use Rattle.std.proofs.Common.{None, ap, sym, ◌∙◌}
use Rattle.meaning.specs.Labels.{Alone, Test}
use Rattle.meaning.specs.Offers.{Does, Nothing}
use Rattle.meaning.specs.Processes.{goes_on}
use Rattle.source_offers.specs.Frames.{callers_of, frame_of}
use Rattle.source_offers.specs.Rests.{rest_in}
use Rattle.source_offers.proofs.Rests.{followed_by-block, rest_pushed}
use Rattle.source_offers.proofs.statements.precede.Goals as goal

pub returns : goal.returns
returns c =
    ap (Does (Alone Test) Nothing)
    (c.go_on.ensures
    ∙ ap (λ b. goes_on None (record (frame_of c.args.process.now.frame) { rest = b })
    (callers_of c.args.process.now.callers.items))
    (rest_pushed c.args.process.now.frame.rest.items c.push.new.self.items c.args.block c.in_ok-push.ensures.items
    ∙ sym (followed_by-block c.args.block.now (rest_in c.args.process.now.frame.rest.items))))
