-- The limits that a unit is held to: those of a program.
pub use Rattle.program.specs.Limits.{most_monitors, most_conditions, most_member_words, most_elements, most_procedures}
pub use Rattle.program.specs.Limits.{most_parameters, most_locals, most_in_chain}
