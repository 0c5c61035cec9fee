use Rattle.compiler.proofs.Compiled.{only_memory}
use Rattle.compiler.proofs.compiling.compile_as.Goals as goal

pub returns-clause-only : goal.returns-clause-only
returns-clause-only c =
    only_memory record {
      one = c.text_laws.ensures.one_program;
      not_both = c.text_laws.ensures.not_both_as;
    } c.args.version c.args.text.now c.image_or_refusal.result c.image_or_refusal.ensures
