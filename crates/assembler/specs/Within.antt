-- The test of the limits of instructions.
use Rattle.std.specs.Prelude.{Bool, true, false, List, [], ◌∷◌, nat_le, nat_lt, if◌then◌else◌}
use Rattle.isa.specs.Limits.{most_arguments, most_locals}
use Rattle.isa.specs.declared.slot.Slot.{Slot}
use Rattle.isa.specs.declared.slot.Slot.TheVariants.{Local, Template}
use Rattle.isa.specs.declared.instr.Instr.{Instr}
use Rattle.isa.specs.declared.instr.Instr.TheVariants.{GetLocal, SetLocal, Fork}

abbrev pub is_slot : Slot → Bool
is_slot (Local n) = nat_lt n most_locals
is_slot Template = true

-- whether an instruction is within its limits
abbrev pub is_within : Instr → Bool
is_within (GetLocal slot) = is_slot slot
is_within (SetLocal slot) = is_slot slot
is_within (Fork place arguments) = nat_le arguments most_arguments
is_within i = true

-- whether all are
abbrev pub are_within : List Instr → Bool
are_within [] = true
are_within (i ∷ is) = if is_within i then are_within is else false
