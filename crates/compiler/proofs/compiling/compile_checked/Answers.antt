use Rattle.std.proofs.Common.{subst, sym}
use Rattle.backend.specs.Refusals.{CodeFits}
use Rattle.compiler.proofs.Versions as versions
use Rattle.compiler.proofs.compiling.compile_checked.Goals as goal

pub returns-clause-compiled : goal.returns-clause-compiled
returns-clause-compiled c =
    let text = c.args.text.now in
    versions.answered text _ _ _ c.compile_checked_as.result (λ r h. versions.read text r.0 r.1 h)
    c.compile_checked_as.ensures.compiled

pub returns-clause-only : goal.returns-clause-only
returns-clause-only c = λ p a fits.
    c.compile_checked_as.ensures.only p a (subst CodeFits (sym (versions.is_two c.args.text.now p a)) fits)
