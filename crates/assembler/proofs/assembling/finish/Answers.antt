use Rattle.std.proofs.Common.{subst, sym}
use Rattle.isa.specs.Programs.{Program}
use Rattle.isa.specs.Spelling.{HasByte}
use Rattle.assembler.proofs.assembling.finish.Goals as goal

pub returns-in-Some-clause-encoded : goal.returns-in-Some-clause-encoded
returns-in-Some-clause-encoded c = (
  subst (λ (p : Program). HasByte p.version) (sym c.in-Some.ensures.image) c.image_version.ensures,
  c.in-Some.ensures.spelled,
)
