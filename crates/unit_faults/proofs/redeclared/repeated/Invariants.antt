use Rattle.std.proofs.Common.{map, take}
use Rattle.syntax.specs.View.{name_of}
use Rattle.types.specs.Tables.{IsTable}
use Rattle.unit_faults.specs.Collected.{Collects}
use Rattle.unit_faults.proofs.Along.{Along}
use Rattle.unit_faults.proofs.Relations.{RepeatedAt}
use Rattle.unit_faults.proofs.redeclared.repeated.Given as goal

abbrev pub invariant-loop-name : goal.invariant-loop-name
invariant-loop-name l = record {
  table : IsTable (take l.name-index (map name_of l.names)) l.table;
  collects : Collects (Along RepeatedAt (take l.name-index (map name_of l.names))) l.fn.least l.least;
}
