use Rattle.assembler.proofs.Within.{program_as}
use Rattle.assembler.proofs.parts.image_of.Goals as goal

pub new-image-requires : goal.new-image-requires
new-image-requires c =
    program_as _ _ _ _ _ _ c.as_slice.ensures.value c.as_slice-2.ensures.value c.if-is_program.ensures
