use Rattle.std.proofs.lemmas.Result.{err_from_is_err_and}
use Rattle.program.specs.Names.{said_by}
use Rattle.program.specs.Trees.{as_version}
use Rattle.layout.proofs.Versions.{well_formed_as}
use Rattle.compiler.proofs.Readings.{imaged, not_fitting, unread}
use Rattle.compiler.proofs.compiling.image_or_refusal.Goals as goal

pub returns-in_err-checked : goal.returns-in_err-checked
returns-in_err-checked c =
    let p = err_from_is_err_and c.from_residual.result c.from_residual.ensures.1 in
    rw (p.1, p.2) (unread c.args.version c.args.text.now c.in_err-checked.field-0.0 c.in_err-checked.ensures)

pub returns-in_err-image : goal.returns-in_err-image
returns-in_err-image c =
    let p = err_from_is_err_and c.from_residual-in_err-image.result c.from_residual-in_err-image.ensures.1 in
    rw (p.1, p.2) (not_fitting c.args.version c.args.text.now (said_by c.in_ok-checked.checked) c.in_err-image.field-0.0
    c.in_ok-checked.ensures.accepts c.in_err-image.ensures)

pub returns : goal.returns
returns c =
    let v = c.args.version in
    let checked = c.in_ok-checked.checked in
    let p = as_version v (said_by checked) in
    let formed = well_formed_as v (said_by checked) c.in_ok-checked.ensures.well_formed in
    imaged v c.args.text.now checked c.in_ok-image.image c.in_ok-checked.ensures
    (c.code_refines.ensures.whole p formed) (c.code_refines.ensures.pieces p formed) c.in_ok-image.ensures
