use Rattle.commandline.specs.CommandLine.{version_by}
use Rattle.compiler.specs.Accepts.{RefusesTextAs}
use Rattle.answers.specs.Retelling.{StopsRetelling, FailsRetelling}
use Rattle.answers.proofs.Refusing.{left_by, refused_by}
use Rattle.answers.proofs.Told.{lefts_so, ok_so}
use Rattle.answers.proofs.retelling.answer_retell.Goals as goal

pub returns-in_err-checked-clause-left : goal.returns-in_err-checked-clause-left
returns-in_err-checked-clause-left c =
    left_by _ _ _ c.from_residual.ensures
    (λ n gives. refused_by (RefusesTextAs (version_by c.args.text.now.exits) c.args.text.now.bytes.now) (λ e. ⊥)
    (FailsRetelling c.args.text.now.bytes.now c.args.lines.now) c.in_err-checked.field-0.0 n
    c.in_err-checked.ensures.compiled gives)

pub returns-clause-done : goal.returns-clause-done
returns-clause-done c =
    ok_so c.retold.result _ _
    (λ a h. record {
      checked = c.in_ok-checked.checked;
      accepts = c.in_ok-checked.ensures.compiled.accepts;
      retells = h;
    })
    c.retold.ensures.told

pub returns-clause-left : goal.returns-clause-left
returns-clause-left c =
    lefts_so c.retold.result (λ e. ⊥)
    (RefusesTextAs (version_by c.args.text.now.exits) c.args.text.now.bytes.now) (λ e. ⊥) (λ e. ⊥)
    (StopsRetelling c.in_ok-checked.checked c.args.lines.now) (FailsRetelling c.args.text.now.bytes.now c.args.lines.now)
    (λ e h. absurd h) (λ e h. h)
    (λ f h. record {
      checked = c.in_ok-checked.checked;
      accepts = c.in_ok-checked.ensures.compiled.accepts;
      fails = h;
    })
    c.retold.ensures.left
