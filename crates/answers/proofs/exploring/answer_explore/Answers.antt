use Rattle.commandline.specs.CommandLine.{version_by}
use Rattle.compiler.specs.Accepts.{RefusesTextAs}
use Rattle.answers.proofs.Refusing.{left_by, refused_or_memory}
use Rattle.answers.proofs.Told.{ok_so}
use Rattle.answers.proofs.exploring.answer_explore.Goals as goal

pub returns-in_err-explored-clause-refused : goal.returns-in_err-explored-clause-refused
returns-in_err-explored-clause-refused g c =
    left_by _ _ _ c.from_residual.ensures
    (λ n gives. refused_or_memory (RefusesTextAs (version_by c.args.text.now.exits) c.args.text.now.bytes.now)
    c.in_err-explored.field-0.0 n c.in_err-explored.ensures gives)

pub returns-clause-done : goal.returns-clause-done
returns-clause-done g c =
    ok_so c.found_answer.result _ _
    (λ a tells. record { explored_text = c.in_ok-explored.explored; explored = c.in_ok-explored.ensures; tells = tells })
    c.found_answer.ensures.told

pub returns-clause-refused : goal.returns-clause-refused
returns-clause-refused g c = c.found_answer.ensures.refused
