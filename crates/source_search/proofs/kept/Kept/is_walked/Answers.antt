use Rattle.std.proofs.Common.{false, map, refl}
use Rattle.program.specs.Views.{program_of}
use Rattle.proof_exploration.proofs.Representing.{own_leads}
use Rattle.source_states.specs.Actions.{action_of}
use Rattle.source_states.specs.States.{state_of}
use Rattle.source_search.specs.Packed.{IsPackedOf}
use Rattle.source_search.proofs.Lively.{walked}
use Rattle.source_search.proofs.Searched.{are_own}
use Rattle.source_search.proofs.kept.Kept.is_walked.Goals as goal

pub returns-clause-comes : goal.returns-clause-comes
returns-clause-comes c = λ e.
    let p = program_of c.args.checked.now.tree in
    let s = state_of c.args.state.now in
    let end = state_of c.walk.new.state in
    let actions = map action_of c.args.actions.now in
    let from = c.are_from.ensures c.if-not-are_from.false in
    let are : IsPackedOf c.pack.new.self c.in-Some.packed end = rw c.in-Some.is at c.in_ok-packed.ensures.packed in
    walked p c.args.self.now.parts c.pack.new.self c.in_ok-packed.ensures.grown c.args.self.now.states.items
    c.requires.sound c.in-Some.packed s end actions
    (own_leads p s end actions (c.in_ok-walk.ensures c.if-not-branch.false)
    (are_own (record { strays = false; kills = 0 }) actions refl from.0 from.1)) are (c.is_noted.ensures e)
