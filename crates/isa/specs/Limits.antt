-- The limits of an image, each by its name.
use Rattle.std.specs.Prelude.{ℕ}

-- the most monitors
abbrev pub most_monitors : ℕ
most_monitors = 64

-- the most member words of all monitors together
abbrev pub most_member_words : ℕ
most_member_words = 1024

-- the most instructions
abbrev pub most_instructions : ℕ
most_instructions = 65536

-- the most locals of a frame, besides the one of the templates, whose number is the next
abbrev pub most_locals : ℕ
most_locals = 64

-- the most arguments that an instruction hands to a new thread
abbrev pub most_arguments : ℕ
most_arguments = 16
