use Rattle.std.proofs.Common.{All, subst}
use Rattle.program.specs.Views.{program_of}
use Rattle.source_states.specs.States.{state_of}
use Rattle.source_search.specs.Ends.{IsEnded}
use Rattle.source_search.specs.Kept.{states_in, states_of}
use Rattle.source_search.proofs.Ended.{lost_here}
use Rattle.source_search.proofs.Lively.{closed_like}
use Rattle.source_search.proofs.lost.is_lost_from.Goals as goal

pub returns : goal.returns
returns c = λ e.
    let p = program_of c.args.checked.now.tree in
    let s = state_of c.args.state.now in
    lost_here p c.program-program.ensures.well_formed (states_of c.search_from.new.kept) s
    (closed_like p (states_of c.search_from.new.kept) (state_of c.in_ok-copied.copied) s c.in_ok-copied.ensures
    (c.in_ok-search_from.ensures c.if-not-branch.false))
    (subst (λ xs. All (λ r. IsEnded r → ⊥) (states_in c.search_from.new.kept.parts xs)) c.as_slice.ensures.value
    (c.none_ended.ensures e))
