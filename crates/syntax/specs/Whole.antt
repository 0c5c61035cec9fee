-- What a unit of the code says.
use Rattle.syntax.specs.declared.unit.Unit.{Unit as UnitOf}
use Rattle.syntax.specs.Tree.{UnitTree}
use Rattle.syntax.specs.View.{whole}

-- the tree of a unit
abbrev pub unit_of : UnitOf → UnitTree
unit_of u = whole u.name u.monitors.items u.procedures.items u.main
