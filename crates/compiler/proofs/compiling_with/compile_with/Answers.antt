use Rattle.std.proofs.Common.{subst, sym, ◌≡◌}
use Rattle.std.specs.Prelude.{MatchResult}
use Rattle.std.proofs.lemmas.Result.{IfErr-weaker, IfOk-weaker}
use Rattle.program.specs.Trees.{Program}
use Rattle.scanner.specs.Refusals.{out_of_memory}
use Rattle.lowering.specs.Pieces.{code_of}
use Rattle.backend.specs.Refusals.{CodeFits}
use Rattle.compiler.proofs.Versions as versions
use Rattle.compiler.proofs.compiling_with.compile_with.Goals as goal

pub returns-clause-accepted : goal.returns-clause-accepted
returns-clause-accepted g c =
    IfOk-weaker c.compile_with_as.result _ _ (versions.compiled c.args.text.now) c.compile_with_as.ensures.accepted

pub returns-clause-only : goal.returns-clause-only
returns-clause-only g c = λ p a fits.
    let is = versions.is_two c.args.text.now p a in
    subst (λ (q : Program). MatchResult c.compile_with_as.result (λ image. image ≡ code_of q) (λ e. e ≡ out_of_memory)) is
    (c.compile_with_as.ensures.only p a (subst CodeFits (sym is) fits))

pub returns-clause-refusal : goal.returns-clause-refusal
returns-clause-refusal g c =
    IfErr-weaker c.compile_with_as.result _ _ (versions.memory_or c.args.text.now) c.compile_with_as.ensures.refusal
