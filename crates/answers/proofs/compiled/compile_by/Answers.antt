use Rattle.std.proofs.Common.{◌≡◌, ◌⊎◌, IfErr, IfOk, MatchResult, subst}
use Rattle.words.specs.declared.version.ImageVersion.{ImageVersion}
use Rattle.scanner.specs.Refusals.{out_of_memory}
use Rattle.program.specs.Trees.{Program, as_version}
use Rattle.backend.specs.Refusals.{CodeFits}
use Rattle.compiler.specs.Accepts.{AcceptsText, RefusesTextAs}
use Rattle.compiler.specs.Compiles.{IsCompiledAs}
use Rattle.answers.specs.Versions.{code_as}
use Rattle.answers.proofs.compiled.compile_by.Goals as goal

pub returns-clause-accepted : goal.returns-clause-accepted
returns-clause-accepted c =
    subst (λ (v : ImageVersion). IfOk c.compile_as.result (λ image. IsCompiledAs v c.args.text.now image))
    c.version.ensures c.compile_as.ensures.accepted

pub returns-clause-only : goal.returns-clause-only
returns-clause-only c =
    subst
    (λ (v : ImageVersion). (p : Program) → AcceptsText c.args.text.now p → CodeFits (as_version v p)
    → MatchResult c.compile_as.result (λ image. image ≡ code_as v p) (λ e. e ≡ out_of_memory)) c.version.ensures
    c.compile_as.ensures.only

pub returns-clause-refusal : goal.returns-clause-refusal
returns-clause-refusal c =
    subst
    (λ (v : ImageVersion). IfErr c.compile_as.result (λ e. (e ≡ out_of_memory) ⊎ RefusesTextAs v c.args.text.now e))
    c.version.ensures c.compile_as.ensures.refusal
