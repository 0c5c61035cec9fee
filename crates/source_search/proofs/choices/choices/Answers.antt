use Rattle.std.proofs.Common.{map}
use Rattle.std.proofs.lemmas.Option.{IfSome_then}
use Rattle.std.proofs.lemmas.Result.{IfOk-weaker}
use Rattle.program.specs.Views.{program_of}
use Rattle.source_states.specs.Actions.{action_of}
use Rattle.source_states.specs.States.{state_of}
use Rattle.source_reaching.specs.Choices.{AreOwnChoices}
use Rattle.source_search.proofs.Tried.{all_choices}
use Rattle.source_search.proofs.choices.choices.Goals as goal

pub returns : goal.returns
returns c =
    let p = program_of c.args.checked.now.tree in
    let s = state_of c.args.state.now in
    let own : AreOwnChoices p s c.args.process (map action_of c.in-Some.own.items) =
    rw c.in-Some.is at c.in_ok-own.ensures in
    IfOk-weaker c.with_kills.result _ _ (λ o h. IfSome_then o h (λ v kills.
    all_choices p c.args.outside s c.args.process (map action_of c.in-Some.own.items)
    (map action_of c.in_ok-actions.actions.items) (map action_of v.items) own c.in_ok-actions.ensures kills))
    c.with_kills.ensures
