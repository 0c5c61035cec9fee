use Rattle.std.proofs.Common.{subst, sym}
use Rattle.std.proofs.lemmas.Result.{IfOk-weaker}
use Rattle.source_offers.specs.Offered.{effect_of, label_of, offer_with}
use Rattle.source_offers.specs.Stages.{process_of}
use Rattle.source_states.specs.Actions.{kind_of}
use Rattle.source_states.specs.States.{state_of}
use Rattle.source_states.specs.Taken.{IsAnswer, IsTakenUp}
use Rattle.source_states.proofs.Steps.{done_there}
use Rattle.source_states.proofs.state.SourceState.act_for_itself.Goals as goal

pub returns-in_ok-place-in-Does : goal.returns-in_ok-place-in-Does
returns-in_ok-place-in-Does c =
    IfOk-weaker c.act_alone.result _ _ (λ b h.
    subst (λ o. IsAnswer b (IsTakenUp c.args.number (kind_of c.args.kind.now) (offer_with o c.args.process)
    (state_of c.args.self.now)) (state_of c.act_alone.new.self)) (sym c.in-Does.is)
    (done_there c.args.number (kind_of c.args.kind.now) (label_of c.in-Does.label) (effect_of c.in-Does.effect)
    (process_of c.args.process) (state_of c.args.self.now) (state_of c.place.new.self)
    (state_of c.act_alone.new.self) b
    c.in_ok-place-in-Does.ensures h)) c.act_alone.ensures
