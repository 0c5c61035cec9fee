use Rattle.std.proofs.Common.{ap, subst}
use Rattle.program.specs.Views.{program_of}
use Rattle.program.specs.Names.{said_by}
use Rattle.meaning.specs.Runs.{IsStep}
use Rattle.source_states.specs.declared.action.Action.{Action}
use Rattle.source_states.specs.Actions.{kind_of, action_of}
use Rattle.source_states.specs.States.{state_of}
use Rattle.source_states.specs.Taken.{IsAnswer}
use Rattle.proof_simulation.specs.Ordering.{act}
use Rattle.log_simulation.specs.declared.follower.Follower.{Follower}
use Rattle.log_simulation.proofs.Taking.{took, possible}
use Rattle.log_simulation.proofs.Versions.{step_same}
use Rattle.log_simulation.proofs.follower.Follower.take.Goals as goal

pub returns-in_ok-push-clause-takes : goal.returns-in_ok-push-clause-takes
returns-in_ok-push-clause-takes c = λ g after matches step.
    let v = c.args.self.now.layout.version in
    let p = said_by c.args.self.now.checked.now in
    let s = state_of c.args.self.now.state in
    let a : Action = record { process = c.from.result; kind = c.args.kind } in
    let x = act c.args.t (kind_of c.args.kind) in
    let f' : Follower = record (c.args.self.now) { state = c.advance.new.self; actions = c.push.new.self } in
    let answer = subst (λ i. IsAnswer c.in_ok-is_possible.is_possible (IsStep (program_of i) s (action_of a))
    (state_of c.advance.new.self)) c.program.ensures.is c.in_ok-is_possible.ensures in
    let taken = subst (λ b. IsAnswer b (IsStep p s (action_of a)) (state_of c.advance.new.self)) c.if-is_possible.true
    answer in (
      c.if-is_possible.true,
      took p c.args.self.now a x (ap (λ n. act n (kind_of c.args.kind)) c.from.ensures) g after matches
          (step_same v p g.source after x step) f' taken c.in_ok-push.ensures.items,
    )

pub returns-else-is_possible-clause-takes : goal.returns-else-is_possible-clause-takes
returns-else-is_possible-clause-takes c = λ g after matches step.
    let v = c.args.self.now.layout.version in
    let p = said_by c.args.self.now.checked.now in
    let s = state_of c.args.self.now.state in
    let a : Action = record { process = c.from.result; kind = c.args.kind } in
    let x = act c.args.t (kind_of c.args.kind) in
    let answer = subst (λ i. IsAnswer c.in_ok-is_possible.is_possible (IsStep (program_of i) s (action_of a))
    (state_of c.advance.new.self)) c.program.ensures.is c.in_ok-is_possible.ensures in
    let never = subst (λ b. IsAnswer b (IsStep p s (action_of a)) (state_of c.advance.new.self)) c.if-is_possible.false
    answer in
    absurd (never after (possible p c.args.self.now a x (ap (λ n. act n (kind_of c.args.kind)) c.from.ensures) g after
    matches (step_same v p g.source after x step)))
