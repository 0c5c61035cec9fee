use Rattle.std.proofs.Common.{◌≡◌, map, take}
use Rattle.syntax.specs.View.{parameter_of, local_of}
use Rattle.types.specs.Names.{parameter_names, body_scope}
use Rattle.types.specs.Kinds.{parameter_kinds, slot_kinds}
use Rattle.types.specs.Tables.{IsTable}
use Rattle.types.proofs.standing.NameScope.new.Given as goal

abbrev pub invariant-loop-parameter : goal.invariant-loop-parameter
invariant-loop-parameter l = record {
  names : IsTable (parameter_names (map parameter_of (take l.parameter-index l.parameters))) l.table;
  kinds : l.kinds.items ≡ parameter_kinds (map parameter_of (take l.parameter-index l.parameters));
}

abbrev pub invariant-loop-local : goal.invariant-loop-local
invariant-loop-local l = record {
  names : IsTable (body_scope (map parameter_of l.fn.parameters) (map local_of
      (take l.local-index l.locals))) l.table;
  kinds : l.kinds.items ≡ slot_kinds (map parameter_of l.fn.parameters) (map local_of (take l.local-index l.locals));
}
