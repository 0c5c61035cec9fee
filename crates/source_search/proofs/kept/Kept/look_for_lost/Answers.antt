use Rattle.std.proofs.Common.{subst}
use Rattle.program.specs.Views.{program_of}
use Rattle.source_search.specs.Ending.{IsEndLookedFor}
use Rattle.source_search.proofs.Endable.{endable_found}
use Rattle.source_search.proofs.Packing.{states_still}
use Rattle.source_search.proofs.kept.Kept.look_for_lost.Goals as goal

pub returns-clause-found : goal.returns-clause-found
returns-clause-found c =
    let p = program_of c.args.checked.now.tree in
    let b = c.find_live.new.self.parts in
    subst (λ states. IsEndLookedFor p states c.first_lost.result)
    (states_still c.args.self.now.parts b c.in_ok-find_live.ensures.grown c.args.states.now c.requires.within)
    (endable_found p b c.find_live.new.self.states.items c.args.states.now c.in_ok-find_live.ensures.live
    c.first_lost.result c.first_lost.ensures)
