use Rattle.std.proofs.Common.{ap, sym, ◌∙◌, refl, [], ◌∷◌, ◌++◌, ◌+◌}
use Rattle.log_simulation.specs.Shown.{shown}
use Rattle.source_states.specs.States.{state_of}
use Rattle.log_simulation.specs.Waiting.{is_awake}
use Rattle.log_simulation.proofs.Waiting.{next_chosen, none_chosen}
use Rattle.log_simulation.proofs.follower.Follower.waiters.Goals.{then-has_waited+in_ok-push, else-has_waited}
use Rattle.log_simulation.proofs.follower.Follower.waiters.Goals as goal

pub loop-before-preserved : goal.loop-before-preserved
loop-before-preserved c =
    let n = c.loop-before.before in
    let test = is_awake c.address.result (shown c.args.machine.now)
    (state_of c.args.self.now.state).table c.args.condition in
    elim c.if-has_waited.branch [
      | then-has_waited+in_ok-push w ↦
          ap (λ v. v.items) w.waiters-is ∙ w.in_ok-push.ensures.items
          ∙ ap (λ i. c.loop-before.waiters.items ++ i ∷ []) w.from.ensures
          ∙ next_chosen test n (n + 1) c.loop-before.waiters.items refl c.loop-before.invariant
          (sym c.has_waited.ensures ∙ w.if-has_waited.true)
      | else-has_waited w ↦
          ap (λ v. v.items) w.waiters-is
          ∙ none_chosen test n (n + 1) c.loop-before.waiters.items refl c.loop-before.invariant
          (sym c.has_waited.ensures ∙ w.if-has_waited.false)
    ]
