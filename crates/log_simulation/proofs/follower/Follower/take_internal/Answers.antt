use Rattle.std.proofs.Common.{refl, ap, sym, ◌∙◌, subst, option_map}
use Rattle.program.specs.Views.{program_of}
use Rattle.program.specs.Names.{said_by}
use Rattle.meaning.specs.Labels.{kind_of as name_of}
use Rattle.source_states.specs.declared.action.Action.{Action}
use Rattle.source_states.specs.Actions.{kind_of}
use Rattle.source_states.specs.Internal.{IsInternalTaken, next_internal}
use Rattle.source_states.specs.States.{state_of}
use Rattle.proof_simulation.specs.Ordering.{act}
use Rattle.proof_simulation.specs.Tracking.{CanTake}
use Rattle.log_simulation.specs.declared.follower.Follower.{Follower}
use Rattle.log_simulation.proofs.CatchingUp.{none_some, same_kind}
use Rattle.log_simulation.proofs.Taking.{took, next_is}
use Rattle.log_simulation.proofs.Versions.{can_same, step_same}
use Rattle.log_simulation.proofs.follower.Follower.take_internal.Goals as goal

pub returns-in_default-clause-takes : goal.returns-in_default-clause-takes
returns-in_default-clause-takes c = λ g label after matches can internal step.
    let v = c.args.self.now.layout.version in
    let p = said_by c.args.self.now.checked.now in
    let s = state_of c.args.self.now.state in
    let next = next_is p s c.args.t label (subst (λ i. CanTake p i c.args.t label) (sym matches.source)
    (can_same v p g.source c.args.t label can)) internal in
    let taken = subst (λ o. IsInternalTaken p c.from-process.result (option_map kind_of o) s
    (state_of c.take_internal.new.self)) c.in_default.is
    (subst (λ i. IsInternalTaken (program_of i) c.from-process.result (option_map kind_of c.in_ok-kind.field-0) s
    (state_of c.take_internal.new.self)) c.program-program.ensures.is c.in_ok-kind.ensures) in
    none_some (name_of label) (sym next ∙ ap (next_internal p s) (sym c.from-process.ensures) ∙ taken.0)

pub returns-clause-takes : goal.returns-clause-takes
returns-clause-takes c = λ g label after matches can internal step.
    let v = c.args.self.now.layout.version in
    let p = said_by c.args.self.now.checked.now in
    let f = c.args.self.now in
    let s = state_of f.state in
    let next = next_is p s c.args.t label (subst (λ i. CanTake p i c.args.t label) (sym matches.source)
    (can_same v p g.source c.args.t label can)) internal in
    let taken = subst (λ o. IsInternalTaken p c.from-process.result (option_map kind_of o) s
    (state_of c.take_internal.new.self)) c.in-Some.is
    (subst (λ i. IsInternalTaken (program_of i) c.from-process.result (option_map kind_of c.in_ok-kind.field-0) s
    (state_of c.take_internal.new.self)) c.program-program.ensures.is c.in_ok-kind.ensures) in
    let a : Action = record { process = c.from-process.result; kind = c.in-Some.kind } in
    let f' : Follower = record f { state = c.take_internal.new.self; actions = c.push.new.self } in
    let same = same_kind (kind_of c.in-Some.kind) (name_of label)
    (sym taken.0 ∙ ap (next_internal p s) c.from-process.ensures ∙ next) in (
      refl,
      took p f a (act c.args.t (name_of label))
          (ap (λ n. act n (kind_of c.in-Some.kind)) c.from-process.ensures ∙ ap (λ k. act c.args.t k) same) g after
          matches (step_same v p g.source after (act c.args.t (name_of label)) step) f' taken.1 c.in_ok-push.ensures.items,
    )
