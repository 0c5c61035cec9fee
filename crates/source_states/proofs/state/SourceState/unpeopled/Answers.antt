use Rattle.source_offers.specs.Stores.{variables_of}
use Rattle.source_table.specs.Tables.{table_of}
use Rattle.source_states.specs.States.{processes_in}
use Rattle.source_states.proofs.state.SourceState.unpeopled.Goals as goal

pub returns : goal.returns
returns c = λ i. record {
  table = table_of c.args.table;
  variable = variables_of c.args.variables;
  process = processes_in (c.new.ensures i);
  printed = c.new-2.ensures.items i;
}
