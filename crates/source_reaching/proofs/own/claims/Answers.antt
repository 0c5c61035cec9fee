use Rattle.std.proofs.Common.{◌∙◌, List, sym}
use Rattle.words.specs.declared.outcome.Fault.TheVariants.{HandleNotJoinable}
use Rattle.meaning.specs.Labels.{Action, Claim, Fails}
use Rattle.meaning.specs.Offers.{ClaimsOne}
use Rattle.meaning.specs.Processes.{Process}
use Rattle.source_states.specs.States.{state_of}
use Rattle.source_reaching.specs.Choices.{AllTakeUp}
use Rattle.source_reaching.proofs.Tried.{all_tried, claims_named, one_tried, refused_named}
use Rattle.source_reaching.proofs.own.claims.Goals as goal

pub returns-then-claimed : goal.returns-then-claimed
returns-then-claimed c =
    let t = (state_of c.args.state.now).table in
    all_tried c.one.result c.args.process (Fails HandleNotJoinable)
    (λ (actions : List Action). (after : Process) (refused : Process)
    → AllTakeUp c.args.process (ClaimsOne c.args.child after refused) t actions)
    (λ actions is after refused. one_tried c.args.process (ClaimsOne c.args.child after refused) t
    (Fails HandleNotJoinable) actions is
    (refused_named c.args.process c.args.child after refused t (sym c.claimed.ensures ∙ c.if-claimed.true)))
    c.one.ensures

pub returns : goal.returns
returns c =
    let t = (state_of c.args.state.now).table in
    all_tried c.one-2.result c.args.process (Claim c.args.child)
    (λ (actions : List Action). (after : Process) (refused : Process)
    → AllTakeUp c.args.process (ClaimsOne c.args.child after refused) t actions)
    (λ actions is after refused. one_tried c.args.process (ClaimsOne c.args.child after refused) t (Claim c.args.child)
    actions is
    (claims_named c.args.process c.args.child after refused t (sym c.claimed.ensures ∙ c.if-claimed.false)))
    c.one-2.ensures
