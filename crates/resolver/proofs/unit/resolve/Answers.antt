use Rattle.std.proofs.Common.{ap, ◌∙◌}
use Rattle.std.specs.Prelude.{flat_map}
use Rattle.syntax.specs.Whole.{unit_of}
use Rattle.resolver.specs.Clean.{is_clean}
use Rattle.resolver.specs.Sites.{piece_faults}
use Rattle.resolver.proofs.unit.resolve.Goals as goal

pub returns-clause-clean : goal.returns-clause-clean
returns-clause-clean c =
    let u = unit_of c.args.unit.now in
    c.in_ok-procedures.ensures.clean u c.requires ∙ ap (λ qs. is_clean (flat_map (piece_faults u) qs)) c.requires.pieces
