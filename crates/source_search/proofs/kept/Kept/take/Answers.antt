use Rattle.std.proofs.lemmas.Result.{IfOk-weaker}
use Rattle.program.specs.Views.{program_of}
use Rattle.meaning.specs.Runs.{IsStep}
use Rattle.meaning.specs.States.{SourceState}
use Rattle.proof_exploration.specs.Exploring.{IsLike}
use Rattle.source_states.specs.Actions.{action_of}
use Rattle.source_states.specs.States.{state_of}
use Rattle.source_search.specs.Kept.{states_of}
use Rattle.source_search.proofs.Keeping.{kept_like}
use Rattle.source_search.proofs.kept.Kept.take.Goals as goal

pub returns-in-None-clause-kept : goal.returns-in-None-clause-kept
returns-in-None-clause-kept c = λ e s' x.
    let never : (s : SourceState) → IsStep (program_of c.args.checked.now.tree) (state_of c.args.state.now)
    (action_of c.args.action.now) s → ⊥ =
    rw c.in-None.is at c.in_ok-found.ensures.next in
    absurd (never s' x)

pub returns-in-Some : goal.returns-in-Some
returns-in-Some c =
    let next : (s : SourceState) → IsStep (program_of c.args.checked.now.tree) (state_of c.args.state.now)
    (action_of c.args.action.now) s → IsLike (state_of c.in-Some.next) s =
    rw c.in-Some.is at c.in_ok-found.ensures.next in
    record {
      sound = c.keep.ensures.sound;
      longer = c.keep.ensures.longer;
      kept = IfOk-weaker c.keep.result _ _ (λ b h e s' x.
          kept_like (states_of c.keep.new.self) (state_of c.in-Some.next) s' (h e) (next s' x))
          c.keep.ensures.kept;
    }
