use Rattle.std.proofs.Common.{None, Some, subst}
use Rattle.std.specs.Prelude.{IfOk}
use Rattle.program.specs.Views.{program_of}
use Rattle.source_states.specs.Actions.{kind_of}
use Rattle.source_states.specs.Own.{IsOwnTaken}
use Rattle.source_states.specs.States.{state_of}
use Rattle.source_reaching.specs.Followed.{IsFollowedAmong}
use Rattle.source_reaching.proofs.Following.{own_among}
use Rattle.source_reaching.proofs.follow.go_calmly.Goals as goal

pub returns-in_default : goal.returns-in_default
returns-in_default g c =
    let p = program_of c.args.checked.now.tree in
    let s = state_of c.args.state.now in
    let s' = state_of c.take_own.new.self in
    let after = state_of c.go_by_choices.new.state in
    let same : IsOwnTaken p c.args.process None s s' =
    subst (λ t. IsOwnTaken (program_of t) c.args.process None s s') c.program.ensures.is
    (rw c.in_default.is at c.in_ok-kind.ensures) in
    subst (λ r. IfOk c.go_by_choices.result (IsFollowedAmong p c.args.process r after)) same c.go_by_choices.ensures

pub returns : goal.returns
returns g c =
    let s = state_of c.args.state.now in
    let s' = state_of c.take_own.new.self in
    let kind = kind_of c.in-Some.kind in
    own_among (program_of c.args.checked.now.tree) c.args.process s s' kind
    (subst (λ t. IsOwnTaken (program_of t) c.args.process (Some kind) s s') c.program.ensures.is
    (rw c.in-Some.is at c.in_ok-kind.ensures))
    (c.is_calm.ensures.calm c.if-not-is_calm.false)
