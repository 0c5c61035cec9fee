use Rattle.std.proofs.Common.{Some, ap, sym, ◌∙◌}
use Rattle.std.proofs.lemmas.Result.{IfOk-weaker}
use Rattle.std.specs.Prelude.{is_some, option_map}
use Rattle.program.specs.Views.{program_of}
use Rattle.source_offers.specs.NextAction.{offer_of}
use Rattle.source_offers.specs.Stages.{process_of}
use Rattle.source_table.proofs.Tables.{put_in}
use Rattle.source_states.specs.Actions.{kind_of}
use Rattle.source_states.specs.States.{processes_in, state_of}
use Rattle.source_states.proofs.Steps.{elsewhere, some_once}
use Rattle.source_states.proofs.state.SourceState.take_up_outside.Goals as goal

pub returns : goal.returns
returns c =
    let blank = c.replace-process.new.dest in
    let after = c.get_mut.follows.lender blank in
    let at = c.get_mut.follows.holds blank (ap is_some (sym c.in-Some.ensures.value)) in
    IfOk-weaker c.take_up.result _ _ (λ b h q is.
    elsewhere c.args.number (kind_of c.args.kind.now) (offer_of (program_of c.args.program.now) c.args.offer q)
    (state_of c.args.self.now) (Some (process_of blank)) (processes_in after) b (state_of c.take_up.new.self)
    (put_in (option_map process_of) c.args.self.now.processes after c.args.number (Some blank) at)
    (rw (c.replace-process.ensures.value, some_once c.in-Some.place.now q (c.in-Some.ensures.value ∙ is)) at h)) c.take_up.ensures
