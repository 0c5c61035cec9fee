-- A fork of the thread is a step of the machine, and a thread that it made stands behind the others.
use Rattle.std.proofs.Common.{◌≡◌, ◌≤◌, length, rules, sym, ◌∙◌, Ok}
use Rattle.machine.specs.ConcreteSteps.{on_machine}
use Rattle.machine.specs.Views.{parts_of, common}
use Rattle.machine.proofs.Steps.{hand_on}
use Rattle.machine.proofs.Whole.{stands_at, stepped}
use Rattle.machine.proofs.parts.fork_parts.Goals as goal

pub take_fork-requires-clause-asks : goal.take_fork-requires-clause-asks
take_fork-requires-clause-asks c =
    let within : c.args.t ≤ length c.args.threads.now.items = search rules in
    let x = c.index_mut-local.result.now in
    c.requires.asks x (stands_at c.args.threads.now.items c.args.t x x c.requires.thread.0 within
    c.index_mut-local.ensures.value)

pub returns-in_err-child-clause-err : goal.returns-in_err-child-clause-err
returns-in_err-child-clause-err c =
    let counted : c.len-made.result ≡ length c.args.threads.now.items = search rules in
    let within : c.args.t ≤ length c.args.threads.now.items = search rules in
    hand_on c.from_residual.result c.in_err-child.field-0.0 _ c.from_residual.ensures.1
    (stepped c.args.image.now (parts_of c.args.shared.now c.args.threads.now.items) c.args.t c.len-made.result
    c.index_mut-local.result.now _
    (stands_at c.args.threads.now.items c.args.t c.index_mut-local.result.now c.index_mut-local.result.now
    c.requires.thread.0 within c.index_mut-local.ensures.value) c.requires.awake counted
    (c.in_err-child.ensures.err))

pub returns-in-Some-clause-done : goal.returns-in-Some-clause-done
returns-in-Some-clause-done c =
    let k = parts_of c.args.shared.now c.args.threads.now.items in
    let counted : c.len-made.result ≡ length c.args.threads.now.items = search rules in
    let within : c.args.t ≤ length c.args.threads.now.items = search rules in
    let event = c.take_fork.new.event in
    stepped c.args.image.now k c.args.t c.len-made.result c.index_mut-local.result.now _
    (stands_at c.args.threads.now.items c.args.t c.index_mut-local.result.now c.index_mut-local.result.now
    c.requires.thread.0 within c.index_mut-local.ensures.value) c.requires.awake counted
    (c.in_ok-child.ensures.done)
    ∙ (λ i. on_machine k c.args.t
    (Ok (record {
      common = common c.take_fork.new.shared;
      thread = c.take_fork.new.local;
      child =
          c.in-Some.is i;
      event = event;
    })))
    ∙ (λ i. Ok (parts_of c.take_fork.new.shared (sym c.push_reserved.ensures.items i), event))

pub returns-in_default-clause-done : goal.returns-in_default-clause-done
returns-in_default-clause-done c =
    let k = parts_of c.args.shared.now c.args.threads.now.items in
    let counted : c.len-made.result ≡ length c.args.threads.now.items = search rules in
    let within : c.args.t ≤ length c.args.threads.now.items = search rules in
    stepped c.args.image.now k c.args.t c.len-made.result c.index_mut-local.result.now _
    (stands_at c.args.threads.now.items c.args.t c.index_mut-local.result.now c.index_mut-local.result.now
    c.requires.thread.0 within c.index_mut-local.ensures.value) c.requires.awake counted
    (c.in_ok-child.ensures.done)
    ∙ (λ i. on_machine k c.args.t
    (Ok (record {
      common = common c.take_fork.new.shared;
      thread = c.take_fork.new.local;
      child =
          c.in_default.is i;
      event = c.take_fork.new.event;
    })))
