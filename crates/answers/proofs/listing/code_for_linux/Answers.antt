use Rattle.words.specs.declared.version.ImageVersion.TheVariants.{Linux}
use Rattle.compiler.specs.Accepts.{RefusesTextAs}
use Rattle.answers.proofs.Refusing.{refused_by}
use Rattle.answers.proofs.listing.code_for_linux.Goals as goal

pub returns-in-Err-clause-left : goal.returns-in-Err-clause-left
returns-in-Err-clause-left c =
    refused_by (RefusesTextAs Linux c.args.text.now.bytes.now) (λ e. ⊥) (λ f. ⊥) _ c.from-refused.result
    c.in-Err.ensures.refusal c.from-refused.ensures
