use Rattle.program.specs.Views.{program_of}
use Rattle.source_states.specs.States.{state_of}
use Rattle.source_reaching.specs.Among.{IsAheadAmong}
use Rattle.source_reaching.proofs.Following.{ahead_among_none, ahead_among_then, followed_among_then}
use Rattle.source_reaching.proofs.follow.follow_own.Goals as goal

pub loop-init : goal.loop-init
loop-init g c = ahead_among_none (program_of c.args.checked.now.tree) c.args.process (state_of c.args.state.now)

pub loop-preserved : goal.loop-preserved
loop-preserved g c =
    let p = program_of c.args.checked.now.tree in
    let s = state_of c.loop.state in
    let next = state_of c.follow_one.new.state in
    let second : IsAheadAmong p c.args.process s next = rw c.in-Went.is at c.in_ok-followed.ensures in
    ahead_among_then p c.args.process (state_of c.args.state.now) s next c.loop.invariant second

pub returns-in_default : goal.returns-in_default
returns-in_default g c =
    followed_among_then (program_of c.args.checked.now.tree) c.args.process (state_of c.args.state.now)
    (state_of c.loop.state) (state_of c.follow_one.new.state) c.in_ok-followed.followed c.loop.invariant
    c.in_ok-followed.ensures
