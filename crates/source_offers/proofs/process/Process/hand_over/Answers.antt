use Rattle.std.proofs.Common.{w64, ap, ◌∙◌}
use Rattle.std.proofs.lemmas.Int.{to_z-of_z}
use Rattle.meaning.specs.Processes.{with_result}
use Rattle.source_offers.specs.Frames.{frame_of}
use Rattle.source_offers.proofs.Frames.{hands}
use Rattle.source_offers.proofs.process.Process.hand_over.Goals as goal

pub returns-in-Some : goal.returns-in-Some
returns-in-Some c = hands _ c.args.value _ _ _ c.in-Some.caller c.go_on.ensures
    (c.put.ensures.frame
    ∙ ap (λ z. with_result c.in-Some.caller.into z (frame_of c.in-Some.caller))
    (to_z-of_z w64 c.args.value c.ranges.value))
    c.in-Some.ensures.items
