use Rattle.std.proofs.Common.{◌≡◌, ◌⊎◌, IfErr, MatchResult, subst}
use Rattle.words.specs.declared.version.ImageVersion.{ImageVersion}
use Rattle.scanner.specs.Refusals.{out_of_memory}
use Rattle.program.specs.Trees.{Program, as_version}
use Rattle.backend.specs.Refusals.{CodeFits}
use Rattle.compiler.specs.Accepts.{AcceptsText, RefusesTextAs}
use Rattle.compiler.specs.Compiles.{IsReadLoweredAs}
use Rattle.answers.proofs.compiled.compile_checked_by.Goals as goal

pub returns-clause-compiled : goal.returns-clause-compiled
returns-clause-compiled c =
    subst
    (λ (v : ImageVersion). MatchResult c.compile_checked_as.result (λ r. IsReadLoweredAs v c.args.text.now r.0 r.1)
    (λ e. (e ≡ out_of_memory) ⊎ RefusesTextAs v c.args.text.now e)) c.version.ensures
    c.compile_checked_as.ensures.compiled

pub returns-clause-only : goal.returns-clause-only
returns-clause-only c =
    subst
    (λ (v : ImageVersion). (p : Program) → AcceptsText c.args.text.now p → CodeFits (as_version v p)
    → IfErr c.compile_checked_as.result (λ e. e ≡ out_of_memory)) c.version.ensures c.compile_checked_as.ensures.only
