use Rattle.std.proofs.Common.{None, subst}
use Rattle.program.specs.Views.{program_of}
use Rattle.source_search.specs.Living.{AreLiveFor, IsLookedFor}
use Rattle.source_search.specs.declared.living.Aim.TheVariants.{Act}
use Rattle.source_search.proofs.Lively.{all_live}
use Rattle.source_search.proofs.Packing.{grown_twice, sound_still, states_still}
use Rattle.source_search.proofs.kept.Kept.look_for_resting.Goals as goal

pub returns-then-has_all-clause-found : goal.returns-then-has_all-clause-found
returns-then-has_all-clause-found c =
    let p = program_of c.args.checked.now.tree in
    let b = c.find_live.new.self.parts in
    subst (AreLiveFor p None)
    (states_still c.args.self.now.parts b c.in_ok-find_live.ensures.grown c.args.states.now c.requires.within)
    (all_live p (Act None) b c.find_live.new.self.states.items c.args.states.now c.in_ok-find_live.ensures.live
    (c.has_all.ensures c.if-has_all.true))

pub first_resting-requires-clause-within : goal.first_resting-requires-clause-within
first_resting-requires-clause-within c = sound_still c.args.self.now.parts c.find_live.new.self.parts
    c.in_ok-find_live.ensures.grown c.args.states.now c.requires.within

pub returns-clause-grown : goal.returns-clause-grown
returns-clause-grown c = grown_twice c.args.self.now.parts c.find_live.new.self.parts c.first_resting.new.self.parts
    c.in_ok-find_live.ensures.grown c.in_ok-resting.ensures.grown

pub returns-clause-found : goal.returns-clause-found
returns-clause-found c =
    subst (λ states. IsLookedFor (program_of c.args.checked.now.tree) states c.in_ok-resting.resting)
    (states_still c.args.self.now.parts c.find_live.new.self.parts c.in_ok-find_live.ensures.grown c.args.states.now
    c.requires.within) c.in_ok-resting.ensures.found
