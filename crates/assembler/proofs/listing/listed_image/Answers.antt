use Rattle.std.proofs.Common.{subst, sym}
use Rattle.isa.specs.Programs.{Program}
use Rattle.isa.specs.Spelling.{HasByte}
use Rattle.assembler.proofs.Encoded.{encoded_again}
use Rattle.assembler.proofs.listing.listed_image.Goals as goal

pub returns-in-Some-image_of-clause-encoded : goal.returns-in-Some-image_of-clause-encoded
returns-in-Some-image_of-clause-encoded c =
    encoded_again c.with_lines.result c.in-Some-image_of.image
    (subst (λ (p : Program). HasByte p.version) (sym c.in-Some-image_of.ensures.image) tt, c.in-Some-image_of.ensures.spelled)
    c.with_lines.ensures.own
