-- What a layout's fields show.
use Rattle.std.specs.Prelude.{◌≤◌, length, sum}
use Rattle.isa.specs.Limits.{most_monitors, most_member_words}
use Rattle.lowering.specs.Layout.{MonitorLayout, Layout, words_in}
use Rattle.layout.specs.declared.monitor_place.MonitorPlace.{MonitorPlace}

-- a monitor's place
abbrev pub view_of : MonitorPlace → MonitorLayout
view_of m = record { link = m.link; members = m.members.items; words = m.words }

-- a few monitors, with a few words
pub record IsSmall (l : Layout) : Type 0 where
  pub few_monitors : length l.monitors ≤ most_monitors
  pub few_words : sum (words_in l) ≤ most_member_words
