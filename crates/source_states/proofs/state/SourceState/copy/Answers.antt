use Rattle.std.proofs.Common.{◌∙◌, ap}
use Rattle.source_states.specs.States.{numbered, processes_in}
use Rattle.source_states.proofs.Copied.{copied_all, copied_ordered}
use Rattle.source_states.proofs.state.SourceState.copy.Goals as goal

pub of_entries-requires : goal.of_entries-requires
of_entries-requires c =
    copied_ordered c.args.self.now.processes c.in_ok-copies.field-0.items
    (c.in_ok-copies.ensures ∙ ap numbered c.entries.ensures.all) c.entries.ensures.ordered

pub returns : goal.returns
returns c = λ i. record {
  table = c.in_ok-copy.ensures i;
  variable = c.in_ok-copy-2.ensures i;
  process = (ap processes_in c.of_entries.ensures
      ∙ copied_all c.args.self.now.processes c.in_ok-copies.field-0.items
      (c.in_ok-copies.ensures ∙ ap numbered c.entries.ensures.all)) i;
  printed = c.new.ensures.items i;
}
