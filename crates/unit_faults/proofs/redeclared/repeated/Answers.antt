use Rattle.std.proofs.Common.{map, arith}
use Rattle.syntax.specs.View.{name_of}
use Rattle.unit_faults.proofs.Collecting.{collects_same}
use Rattle.unit_faults.proofs.Along.{along_end}
use Rattle.unit_faults.proofs.Relations.{RepeatedAt, repeated_to, repeated_from}
use Rattle.unit_faults.proofs.Steps.{taken, names_table, repeated_step}
use Rattle.unit_faults.proofs.redeclared.repeated.Goals as goal

pub declare-requires : goal.declare-requires
declare-requires c =
    omega (arith, c.loop-name.invariant.table.0, taken name_of c.args.names.now c.loop-name.name-index (omega arith))

pub loop-name-preserved : goal.loop-name-preserved
loop-name-preserved c = record {
  table = names_table c.args.names.now c.loop-name.name-index _ c.declare.new.self c.loop-name-test.true
      (c.in_ok-fresh.ensures.declared _ c.loop-name.invariant.table);
  collects = repeated_step c.args.names.now c.loop-name.name-index _ c.in_ok-fresh.fresh c.args.least c.loop-name.least
      c.note_where-least.result c.loop-name-test.true (c.in_ok-fresh.ensures.fresh _ c.loop-name.invariant.table)
      c.loop-name.invariant.collects c.note_where-least.ensures;
}

pub returns : goal.returns
returns c =
    collects_same _ _ c.args.least c.loop-name.least (repeated_to (map name_of c.args.names.now))
    (repeated_from (map name_of c.args.names.now))
    (along_end name_of RepeatedAt c.args.names.now c.loop-name.name-index c.args.least c.loop-name.least
    c.loop-name-test.false c.loop-name.invariant.collects)
