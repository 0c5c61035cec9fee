use Rattle.std.proofs.Common.{◌≡◌, ◌∙◌, ap, pos, subst, sym}
use Rattle.program.specs.Trees.{Done}
use Rattle.meaning.specs.Offers.{offer, rest_offer}
use Rattle.meaning.specs.Values.{Value}
use Rattle.source_offers.specs.Foreseen.{IsForeseen}
use Rattle.source_offers.specs.Frames.{callers_of, frame_of}
use Rattle.source_offers.specs.Rests.{rest_in}
use Rattle.source_offers.specs.Stages.{standing}
use Rattle.source_offers.proofs.foreseeing.foresee.Goals as goal

pub returns-in-None : goal.returns-in-None
returns-in-None c = λ p v.
    let q = c.args.process.now in
    let f = frame_of q.frame in
    let callers = callers_of q.callers.items in
    subst (IsForeseen c.foresee_answer.result)
    (sym (ap (λ s. offer p v (standing s f callers)) c.in-Before.is
    ∙ ap (rest_offer p v f callers) (subst (λ l. rest_in l ≡ Done) c.as_slice.ensures.value c.in-None.ensures)))
    (c.foresee_answer.ensures (Value (pos 0)) f callers)
