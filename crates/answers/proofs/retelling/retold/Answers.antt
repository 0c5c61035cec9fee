use Rattle.std.proofs.Common.{map}
use Rattle.source_states.specs.Actions.{action_of}
use Rattle.answers.proofs.Refusing.{following_left}
use Rattle.answers.proofs.Told.{no_memory, ok_so}
use Rattle.answers.proofs.retelling.retold.Goals as goal

pub returns-in-Ok-clause-told : goal.returns-in-Ok-clause-told
returns-in-Ok-clause-told c =
    ok_so c.retold_answer.result _ _
    (λ a h. record {
      actions = map action_of c.in-Ok.run'.actions.items;
      end = c.in-Ok.run'.end;
      run = c.in-Ok.ensures;
      tells = h;
    })
    c.retold_answer.ensures.told

pub returns-in-Ok-clause-left : goal.returns-in-Ok-clause-left
returns-in-Ok-clause-left c = no_memory c.retold_answer.result _ _ _ c.retold_answer.ensures.failed

pub returns-in-Err-clause-left : goal.returns-in-Err-clause-left
returns-in-Err-clause-left c =
    following_left c.args.checked.now c.args.lines.now c.in-Err.fault c.told_action.result c.in-Err.ensures
    c.told_action.ensures
