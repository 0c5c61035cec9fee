use Rattle.std.proofs.Common.{◌∙◌, ap, map}
use Rattle.codegen.specs.Generated.{piece_of}
use Rattle.program.specs.Names.{said_by}
use Rattle.program.specs.Trees.{as_version}
use Rattle.backend.specs.Lowered.{IsLowered}
use Rattle.backend.specs.Refusals.{RefusesCode}
use Rattle.backend.proofs.Refusing.{passed}
use Rattle.backend.proofs.lowered.assemble.Goals as goal

pub returns-in_err-image : goal.returns-in_err-image
returns-in_err-image c =
    let p = as_version c.args.layout.version (said_by c.args.checked.now) in
    passed c.from_residual-in_err-image.result c.in_err-image.field-0.0 (IsLowered p) (RefusesCode p)
    c.from_residual-in_err-image.ensures c.in_err-image.ensures

pub returns : goal.returns
returns c =
    let p = as_version c.args.layout.version (said_by c.args.checked.now) in record {
      image = c.in_ok-image.ensures.0;
      fits = c.in_ok-image.ensures.1;
      layout = c.requires.layout;
      marks = c.in_ok-marks.ensures p (ap (λ l. map piece_of l) c.as_slice.ensures.value ∙ c.requires.pieces);
    }
