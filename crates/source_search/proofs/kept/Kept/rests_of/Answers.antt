use Rattle.std.proofs.Common.{Some, subst}
use Rattle.std.specs.Prelude.{IfOk, MatchOption}
use Rattle.program.specs.Views.{program_of}
use Rattle.source_search.specs.Living.{AreLiveFor, RestsInOne}
use Rattle.source_search.proofs.Packing.{sound_still, states_still}
use Rattle.source_search.proofs.kept.Kept.rests_of.Goals as goal

pub first_rest-requires-clause-within : goal.first_rest-requires-clause-within
first_rest-requires-clause-within c = sound_still c.args.self.now.parts c.find_live.new.self.parts
    c.in_ok-find_live.ensures.grown c.args.states.now c.requires.within

pub returns-clause-found : goal.returns-clause-found
returns-clause-found c =
    let p = program_of c.args.checked.now.tree in
    subst (λ states. IfOk c.first_rest.result (λ o. MatchOption o (AreLiveFor p (Some c.args.process) states)
    (λ place. RestsInOne p states c.args.process)))
    (states_still c.args.self.now.parts c.find_live.new.self.parts c.in_ok-find_live.ensures.grown c.args.states.now
    c.requires.within) c.first_rest.ensures
