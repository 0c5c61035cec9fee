use Rattle.std.proofs.Common.{Some, ap, sym}
use Rattle.std.specs.Prelude.{is_some, option_map}
use Rattle.program.specs.Views.{program_of}
use Rattle.words.specs.declared.outcome.Cause.TheVariants.{Killed}
use Rattle.source_offers.specs.declared.process.Process.{Process as ProcessOf}
use Rattle.source_offers.specs.declared.process.Stage.TheVariants.{Dying}
use Rattle.source_offers.specs.NextAction.{offer_of}
use Rattle.source_offers.specs.Stages.{process_of}
use Rattle.source_table.specs.Tables.{table_of}
use Rattle.source_table.proofs.Tables.{put_in}
use Rattle.source_states.specs.States.{processes_in, state_of}
use Rattle.source_states.proofs.Kills.{killed, not_allowed, not_left}
use Rattle.source_states.proofs.state.SourceState.kill.Goals as goal

pub returns-in_default-2 : goal.returns-in_default-2
returns-in_default-2 c =
    not_left (program_of c.args.program.now) (state_of c.args.self.now) c.args.number (process_of c.in-Some.process.now)
    (offer_of (program_of c.args.program.now) c.in_ok-offer.offer c.next_offer.new.process) c.entered-taken.result
    c.given_up.result c.in_ok-monitors.monitors.items c.args.last c.args.resumed.now
    (ap (option_map process_of) (sym c.in-Some.ensures.value)) c.in_ok-offer.ensures
    c.in_ok-monitors.ensures
    c.entered-taken.ensures (c.given_up.ensures (program_of c.args.program.now) c.next_offer.new.process)
    (rw c.in_default-2.is at c.in_ok-monitors-2.ensures)

pub returns-then-not-kill : goal.returns-then-not-kill
returns-then-not-kill c =
    not_allowed (program_of c.args.program.now) (state_of c.args.self.now) c.args.number
    (process_of c.in-Some.process.now)
    (offer_of (program_of c.args.program.now) c.in_ok-offer.offer c.next_offer.new.process) c.args.last
    c.notified.result c.args.resumed.now
    (ap (option_map process_of) (sym c.in-Some.ensures.value)) c.in_ok-offer.ensures
    (c.notified.ensures (program_of c.args.program.now) c.next_offer.new.process) c.if-not-kill.ensures.0

pub returns : goal.returns
returns c =
    let q : ProcessOf = record {
      frame = c.next_offer.new.process.frame;
      callers = c.next_offer.new.process.callers;
      stage = Dying Killed c.in-Some-2.monitors;
    } in
    let after = c.get_mut.follows.lender q in
    killed (program_of c.args.program.now) (state_of c.args.self.now)
    (record (state_of c.args.self.now) { table = table_of c.kill.new.self; process = processes_in after })
    c.args.number (process_of c.in-Some.process.now)
    (offer_of (program_of c.args.program.now) c.in_ok-offer.offer c.next_offer.new.process) c.entered-taken.result
    c.given_up.result c.in_ok-monitors.monitors.items c.in-Some-2.monitors.items c.args.last c.notified.result
    c.args.resumed.now (table_of c.kill.new.self)
    (ap (option_map process_of) (sym c.in-Some.ensures.value)) c.if-not-is_killable.ensures
    c.in_ok-offer.ensures
    c.in_ok-monitors.ensures c.entered-taken.ensures
    (c.given_up.ensures (program_of c.args.program.now) c.next_offer.new.process)
    (rw c.in-Some-2.is at c.in_ok-monitors-2.ensures)
    (c.notified.ensures (program_of c.args.program.now) c.next_offer.new.process) c.if-not-kill.ensures
    (ap (λ f. record (state_of c.args.self.now) { table = table_of c.kill.new.self; process = f })
    (put_in (option_map process_of) c.args.self.now.processes after c.args.number (Some q)
    (c.get_mut.follows.holds q (ap is_some (sym c.in-Some.ensures.value)))))
