use Rattle.std.proofs.Common.{List, ℕ, ap, subst}
use Rattle.std.proofs.lemmas.Result.{IfOk-weaker}
use Rattle.program.specs.Views.{program_of}
use Rattle.meaning.specs.Runs.{IsKill}
use Rattle.source_states.specs.Actions.{action_of, kind_of}
use Rattle.source_states.specs.States.{state_of}
use Rattle.source_states.specs.Taken.{IsAnswer}
use Rattle.source_states.proofs.Outside.{kill_step, own_step, stray_step}
use Rattle.source_states.proofs.state.SourceState.advance.Goals as goal

pub returns-in-Stray : goal.returns-in-Stray
returns-in-Stray c =
    stray_step (program_of c.args.program.now) (state_of c.args.self.now) (action_of c.args.action.now)
    c.in-Stray.condition c.stray.result (state_of c.stray.new.self) (ap kind_of c.in-Stray.is) c.stray.ensures

pub returns-in-Kill : goal.returns-in-Kill
returns-in-Kill c =
    IfOk-weaker c.kill.result _ _ (λ b h. kill_step (program_of c.args.program.now) (state_of c.args.self.now)
    (action_of c.args.action.now) c.in-Kill.resumed.items c.in-Kill.last b (state_of c.kill.new.self)
    (ap kind_of c.in-Kill.is)
    (subst (λ (rs : List ℕ). IsAnswer b (IsKill (program_of c.args.program.now) (state_of c.args.self.now)
    c.args.action.now.process rs c.in-Kill.last) (state_of c.kill.new.self)) c.as_slice-resumed.ensures.value h))
    c.kill.ensures

pub returns-in_default : goal.returns-in_default
returns-in_default c =
    IfOk-weaker c.act.result _ _ (λ b h. own_step (program_of c.args.program.now) (state_of c.args.self.now)
    c.args.action.now.process c.args.action.now.kind b (state_of c.act.new.self) c.in_default.not-Stray
    c.in_default.not-Kill h) c.act.ensures
