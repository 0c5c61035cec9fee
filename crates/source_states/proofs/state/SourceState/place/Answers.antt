use Rattle.std.proofs.Common.{ℕ, Option, Some, ap}
use Rattle.std.proofs.lemmas.Result.{on_ok_weaker}
use Rattle.std.specs.Prelude.{option_map}
use Rattle.meaning.specs.Processes.{Process}
use Rattle.source_offers.specs.Stages.{process_of}
use Rattle.source_table.proofs.Tables.{put_in}
use Rattle.source_states.specs.States.{state_of}
use Rattle.source_states.proofs.state.SourceState.place.Goals as goal

pub returns : goal.returns
returns c =
    on_ok_weaker c.insert.result (λ at. ap (λ (f : ℕ → Option Process). record (state_of c.args.self.now) { process = f })
    (put_in (option_map process_of) c.args.self.now.processes c.insert.new.self c.args.number (Some c.args.process) at))
    c.insert.ensures.ok
