use Rattle.std.proofs.Common.{ap}
use Rattle.meaning.specs.Labels.{Alone, Call}
use Rattle.meaning.specs.Offers.{Does, Nothing}
use Rattle.source_offers.proofs.Frames.{calling}
use Rattle.source_offers.proofs.statements.begin_call.Goals as goal

pub returns : goal.returns
returns c =
    ap (Does (Alone Call) Nothing)
    (calling _ c.args.frame c.replace-caller.new.dest c.args.process.now.frame c.replace-caller.result
    c.args.process.now.callers.items c.push.new.self.items c.args.into c.begin.ensures
    c.replace-caller.ensures.after
    c.replace-caller.ensures.value c.in_ok-push.ensures.items)
