use Rattle.std.proofs.Common.{◌≡◌, subst}
use Rattle.isa.specs.Programs.{Program as Image}
use Rattle.codegen.specs.Generated.{piece_of}
use Rattle.program.specs.Names.{said_by}
use Rattle.program.specs.Trees.{as_version}
use Rattle.layout.proofs.Versions.{well_formed_as}
use Rattle.linker.specs.Failures as linked
use Rattle.linker.specs.Linked.{Links}
use Rattle.lowering.specs.Pieces.{code_of}
use Rattle.backend.specs.Refusals.{CodeFits, RefusesCode}
use Rattle.backend.proofs.Refusing.{of_link, of_linked, passed}
use Rattle.backend.proofs.lowered.assemble_image.Goals as goal

pub returns-in_err-image : goal.returns-in_err-image
returns-in_err-image c =
    let v = c.args.layout.now.version in
    let p = as_version v (said_by c.args.checked.now) in
    let pieces = c.args.pieces.items in
    let e = c.in_err-image.field-0.0 in
    passed c.from_residual.result e (λ (i : Image). (i ≡ code_of p) × CodeFits p) (RefusesCode p)
    c.from_residual.ensures
    (of_link p pieces c.requires.pieces
    (well_formed_as v (said_by c.args.checked.now) c.checked_is_well_formed.ensures) e
    (subst (λ l. linked.RefusesLinking l pieces e) c.requires.layout c.in_err-image.ensures))

pub returns : goal.returns
returns c =
    let v = c.args.layout.now.version in
    let p = as_version v (said_by c.args.checked.now) in
    let pieces = c.args.pieces.items in
    of_linked p pieces c.in_ok-image.image c.requires.pieces
    (subst (λ l. Links l pieces c.in_ok-image.image) c.requires.layout c.in_ok-image.ensures)
    c.image_is_within_limits.ensures
