use Rattle.std.proofs.Common.{◌∙◌, subst}
use Rattle.program.specs.Views.{program_of}
use Rattle.source_search.specs.Ending.{IsEndLookedFor}
use Rattle.source_search.specs.Kept.{states_in}
use Rattle.source_search.proofs.Lively.{items_of, sound_same, states_same}
use Rattle.source_search.proofs.Remembered.{fit_known, nothing_known}
use Rattle.source_search.proofs.ending.lost_in.Goals as goal

pub look_for_lost-requires-clause-known : goal.look_for_lost-requires-clause-known
look_for_lost-requires-clause-known c =
    let p = program_of c.args.checked.now.tree in
    fit_known p c.args.kept.now.parts c.new-memo.result
    (nothing_known p c.args.kept.now.parts c.new-memo.result c.new-memo.ensures) c.fit.new.self c.in_ok-fit.ensures

pub returns-clause-sound : goal.returns-clause-sound
returns-clause-sound c =
    sound_same c.args.kept.now.parts c.look_for_lost.new.self.parts c.in_ok-found.ensures.grown
    c.args.kept.now.states.items c.replace-states.result.items
    (items_of c.replace-states.result c.args.kept.now c.replace-states.ensures.value) c.requires.sound

pub returns-clause-same : goal.returns-clause-same
returns-clause-same c =
    states_same c.args.kept.now.parts c.look_for_lost.new.self.parts c.in_ok-found.ensures.grown
    c.args.kept.now.states.items c.replace-states.result.items
    (items_of c.replace-states.result c.args.kept.now c.replace-states.ensures.value) c.requires.sound

pub returns-clause-found : goal.returns-clause-found
returns-clause-found c =
    subst (λ xs. IsEndLookedFor (program_of c.args.checked.now.tree) (states_in c.args.kept.now.parts xs)
    c.in_ok-found.found)
    (c.as_slice.ensures.value ∙ items_of c.replace-states.result c.args.kept.now c.replace-states.ensures.value)
    c.in_ok-found.ensures.found
