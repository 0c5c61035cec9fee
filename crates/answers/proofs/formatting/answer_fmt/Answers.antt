use Rattle.source_layout.specs.Laid.{RefusesUnit}
use Rattle.answers.proofs.Refusing.{left_by, refused_or_memory}
use Rattle.answers.proofs.Told.{memory_alone}
use Rattle.answers.proofs.formatting.answer_fmt.Goals as goal

pub returns-in_err-laid-clause-refused : goal.returns-in_err-laid-clause-refused
returns-in_err-laid-clause-refused c =
    left_by _ _ _ c.from_residual.ensures
    (λ n gives. refused_or_memory (RefusesUnit c.args.text.now.bytes.now) c.in_err-laid.field-0.0 n c.in_err-laid.ensures.refused gives)

pub returns-clause-refused : goal.returns-clause-refused
returns-clause-refused c = memory_alone _ _ c.layout_answer.ensures.failed
