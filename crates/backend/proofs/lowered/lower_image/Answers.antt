use Rattle.std.proofs.Common.{◌≡◌, ap, subst}
use Rattle.std.specs.Prelude.{MatchResult}
use Rattle.program.specs.Names.{said_by}
use Rattle.program.specs.Trees.{as_version}
use Rattle.lowering.specs.Layout.{Layout}
use Rattle.isa.specs.Programs.{Program as Image}
use Rattle.lowering.specs.Pieces.{code_of}
use Rattle.backend.specs.Refusals.{CodeFits, RefusesCode}
use Rattle.backend.proofs.Refusing.{of_generate, passed}
use Rattle.backend.proofs.lowered.lower_image.Goals as goal

pub returns-in_err-pieces : goal.returns-in_err-pieces
returns-in_err-pieces c =
    let p = said_by c.args.checked.now in
    let q = as_version c.args.version p in
    let e = c.in_err-pieces.field-0.0 in
    let first = ap (λ (l : Layout). l.version) c.in_ok-layout.ensures.layout in
    passed c.from_residual-in_err-pieces.result e (λ (i : Image). (i ≡ code_of q) × CodeFits q) (RefusesCode q)
    c.from_residual-in_err-pieces.ensures
    (subst (λ v. RefusesCode (as_version v p) e) first
    (of_generate (as_version c.in_ok-layout.layout.version p) e c.in_err-pieces.ensures.refusal))

pub returns : goal.returns
returns c =
    let p = said_by c.args.checked.now in
    subst (λ v. MatchResult c.assemble_image.result
    (λ (i : Image). (i ≡ code_of (as_version v p)) × CodeFits (as_version v p))
    (λ e. RefusesCode (as_version v p) e)) (ap (λ (l : Layout). l.version) c.in_ok-layout.ensures.layout)
    c.assemble_image.ensures
