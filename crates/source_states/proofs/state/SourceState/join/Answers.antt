use Rattle.std.proofs.Common.{refl, ap, sym, ◌∙◌}
use Rattle.std.specs.Prelude.{option_map}
use Rattle.meaning.specs.Labels.{Join, Joins}
use Rattle.meaning.specs.Offers.{Nothing}
use Rattle.source_offers.specs.Stages.{end_of, process_of}
use Rattle.source_table.specs.Tables.{table_of}
use Rattle.source_states.specs.Actions.{kind_of}
use Rattle.source_states.specs.States.{state_of}
use Rattle.source_states.proofs.Takes.{placed}
use Rattle.source_states.proofs.state.SourceState.join.Goals as goal

pub returns : goal.returns
returns c = record {
  label = Joins c.args.child (end_of c.in-Some.end);
  effect = Nothing;
  after = process_of c.join.new.self;
  takes = (end_of c.in-Some.end, refl, refl, c.in_ok-join.ensures);
  named = ap kind_of c.in-Join.is ∙ ap Join c.if-named-child.false;
  done = placed c.args.number (Joins c.args.child (end_of c.in-Some.end)) (process_of c.join.new.self)
      (state_of c.args.self.now) (state_of c.place.new.self) (table_of c.args.self.now.table)
      (sym c.over.ensures ∙ ap (option_map end_of) c.in-Some.is, refl) c.in_ok-place.ensures;
}
