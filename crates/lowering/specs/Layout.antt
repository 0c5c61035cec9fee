-- Where the words of the monitors lie in memory: for each in order its link word, its lock word and its members.
use Rattle.std.specs.Prelude.{ℕ, ◌+◌, List, [], ◌∷◌, length, map, slice_get, slice_index, Option, Some, None}
use Rattle.words.specs.declared.version.ImageVersion.{ImageVersion}
use Rattle.words.specs.Versions.{base_of}
use Rattle.program.specs.declared.kinds.MemberType.{MemberType}
use Rattle.program.specs.declared.kinds.Member.{Member}
use Rattle.program.specs.Trees.{Monitor, Program}
use Rattle.program.specs.WellFormed.{member_words, words_of}

-- of a monitor: the address of its link word (the lock word is the next), of the first word of each member, and how
-- many words its members have
pub record MonitorLayout : Type 0 where
  pub link : ℕ
  pub members : List ℕ
  pub words : ℕ

-- the version of the image, the monitors of a program, and how many pieces of code it has
pub record Layout : Type 0 where
  pub version : ImageVersion
  pub monitors : List MonitorLayout
  pub pieces : ℕ

-- the addresses of members, one behind the other
abbrev pub addresses_from : ℕ → List MemberType → List ℕ
addresses_from base [] = []
addresses_from base (m ∷ ms) = base ∷ addresses_from (base + member_words m) ms

-- one monitor at an address
abbrev pub monitor_layout : ℕ → Monitor → MonitorLayout
monitor_layout base m =
    record { link = base; members = addresses_from (base + 2) m.members; words = words_of m.members }

-- the layout of monitors, the first of which begins at this address
abbrev pub monitors_from : ℕ → List Monitor → List MonitorLayout
monitors_from base [] = []
monitors_from base (m ∷ ms) = monitor_layout base m ∷ monitors_from (base + 2 + words_of m.members) ms

-- the layout of a program
abbrev pub layout_of : Program → Layout
layout_of p = record {
  version = p.version;
  monitors = monitors_from (base_of p.version) p.monitors;
  pieces = length p.procedures;
}

-- the link word's address, 0 where there is no such monitor
abbrev pub link_in : Option MonitorLayout → ℕ
link_in None = 0
link_in (Some m) = m.link

-- the address of member n, 0 where there is none
abbrev pub address_in : Option MonitorLayout → ℕ → ℕ
address_in None n = 0
address_in (Some m) n = slice_index m.members n

-- the address of a monitor's link word in a layout, and of a member's first word
abbrev pub link_at : Layout → ℕ → ℕ
link_at l m = link_in (slice_get l.monitors m)

-- the address of a member by the layout
abbrev pub address_at : Layout → Member → ℕ
address_at l m = address_in (slice_get l.monitors m.monitor) m.number

-- the address of a monitor's link word, of its lock word, and of a member's first word, in a program
abbrev pub link_word : Program → ℕ → ℕ
link_word p m = link_at (layout_of p) m

-- the address of monitor m's lock word
abbrev pub lock_word_address : Program → ℕ → ℕ
lock_word_address p m = link_word p m + 1

-- the address of a member
abbrev pub member_address : Program → Member → ℕ
member_address p m = address_at (layout_of p) m

-- how many member words each monitor of a layout has
abbrev pub words_in : Layout → List ℕ
words_in l = map (λ m. m.words) l.monitors
