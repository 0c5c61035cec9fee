use Rattle.std.proofs.Common.{ap, sym}
use Rattle.std.specs.Prelude.{is_some}
use Rattle.program.specs.Views.{program_of}
use Rattle.source_reaching.specs.Among.{IsAheadAmong}
use Rattle.source_states.specs.States.{state_of}
use Rattle.source_search.proofs.Coverage.{denied}
use Rattle.source_search.proofs.making.follow_made.Goals as goal

pub returns : goal.returns
returns g c = λ known others.
    let p = program_of c.args.checked.now.tree in
    let s = state_of c.args.state.now in
    let s' = state_of c.follow_own.new.state in
    let t = c.made-child.result in
    let ahead : IsAheadAmong p t s s' =
    c.is_lost.ensures.ahead (denied c.is_lost.result known) p t s s' c.in_ok-followed.ensures in
    (ahead (ap is_some (sym c.in-Some.ensures))).1 others
