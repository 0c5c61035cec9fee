use Rattle.std.proofs.Common.{ap, sym, subst}
use Rattle.meaning.specs.States.{SourceState}
use Rattle.meaning.specs.Table.{Allows}
use Rattle.source_offers.specs.Offered.{label_of}
use Rattle.source_table.specs.Tables.{table_of}
use Rattle.source_states.specs.States.{processes_in}
use Rattle.source_states.proofs.Effects.{stands_already}
use Rattle.source_states.proofs.state.SourceState.perform.Goals as goal

pub returns : goal.returns
returns c = λ after stands. record {
  allows = subst (Allows c.args.process (label_of c.args.label) (table_of c.args.self.now.table))
      (sym (ap (λ (s : SourceState). s.table) c.in_ok-affect.ensures)) c.in_ok-permit.ensures;
  variables = ap (λ (s : SourceState). s.variable) c.in_ok-affect.ensures;
  printed = ap (λ (s : SourceState). s.printed) c.in_ok-affect.ensures;
  processes = stands_already c.args.effect (processes_in c.args.self.now.processes)
      (processes_in c.affect.new.self.processes) c.args.process after
      (ap (λ (s : SourceState). s.process) c.in_ok-affect.ensures) stands;
}
