-- The table that the code keeps, as the table of the meaning.
use Rattle.std.specs.Prelude.{ℕ, Bool, List, Option, Some, None, is_some, option_map}
use Rattle.std.specs.Ordering.{nat_cmp}
use Rattle.sorted_map.specs.Maps as map
use Rattle.words.specs.Versions.{most_of}
use Rattle.program.specs.declared.kinds.Member.{Member}
use Rattle.meaning.specs.Labels.{End}
use Rattle.meaning.specs.Table.{Hold, Free, Abandoned, HeldBy, Table}
use Rattle.source_offers.specs.declared.process.End.{End as EndOf}
use Rattle.source_offers.specs.Stages.{end_of}
use Rattle.source_table.specs.declared.table.Hold.{Hold as HoldOf}
use Rattle.source_table.specs.declared.table.Hold.TheVariants.{Free as Free', Abandoned as Abandoned'}
use Rattle.source_table.specs.declared.table.Hold.TheVariants.{HeldBy as HeldBy'}
use Rattle.source_table.specs.declared.table.Table.{Table as TableOf}

-- who has a monitor
abbrev pub hold_of : HoldOf → Hold
hold_of Free' = Free
hold_of Abandoned' = Abandoned
hold_of (HeldBy' p) = HeldBy p

-- a monitor that nobody entered yet is free
abbrev pub or_free : Option HoldOf → Hold
or_free None = Free
or_free (Some h) = hold_of h

-- the same of each monitor
abbrev pub holds_in : List (ℕ × HoldOf) → ℕ → Hold
holds_in holds m = or_free (map.get nat_cmp holds m)

-- the condition that each process waits on
abbrev pub waits_in : List (ℕ × Member) → ℕ → Option Member
waits_in waits p = map.get nat_cmp waits p

-- whether each process was claimed
abbrev pub claimed_in : List (ℕ × Unit {0}) → ℕ → Bool
claimed_in claimed p = is_some (map.get nat_cmp claimed p)

-- how each process ended
abbrev pub over_in : List (ℕ × EndOf) → ℕ → Option End
over_in over p = option_map end_of (map.get nat_cmp over p)

-- the table
abbrev pub table_of : TableOf → Table
table_of t = record {
  most = most_of t.version;
  hold = holds_in t.holds;
  waits = waits_in t.waits;
  claimed = claimed_in t.claimed;
  made = t.made;
  over = over_in t.over;
}
