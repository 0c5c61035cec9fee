-- The entry has the local steps, and the piece of the wait or wake behind them.
use Rattle.std.proofs.Common.{◌∙◌, Ok, ap, refl}
use Rattle.machine.specs.ConcreteServing.{plain}
use Rattle.piece_machine.specs.PieceConcrete.{Outcome}
use Rattle.piece_machine.specs.PieceViews.{PieceView as MachineView, event_told, parts}
use Rattle.runner.specs.declared.attempt.Attempt.TheVariants.{Made}
use Rattle.runner.proofs.Callings.{asks_shared, made_other, none_ends, step_ends}
use Rattle.runner.proofs.Walking.{walked_there}
use Rattle.runner.proofs.in_place.end_call.Goals as goal

pub returns-in-Ok-Plain-clause-ends : goal.returns-in-Ok-Plain-clause-ends
returns-in-Ok-Plain-clause-ends c = λ k w.
    let m = c.args.machine.now in
    let p = m.view.program in
    let t = c.args.t in
    let new = parts c.request_told.new.self in
    let shared = asks_shared p t w.here c.args.request (c.requires.next w.here (walked_there p k (parts m) t c.args.local w)) in
    step_ends p k (parts m) new t c.args.local (plain c.in-Ok-Plain.name c.in-Ok-Plain.value) c.args.log.now.items
    c.push_small.new.self.items c.attempt_as.result w shared
    (c.in-Ok-Plain.ensures.done
    ∙ ap (λ r. let o : Outcome = Ok (new, event_told r c.request_told.new.event) in o) c.in-Ok-Plain.field-0-is)
    c.push_small.ensures.entries c.attempt_as.ensures.made c.attempt_as.ensures.other

pub returns-in-Ok-Written-clause-ends : goal.returns-in-Ok-Written-clause-ends
returns-in-Ok-Written-clause-ends c = λ k w.
    let m = c.args.machine.now in
    let p = m.view.program in
    let t = c.args.t in
    let new = parts c.request_told.new.self in
    let shared = asks_shared p t w.here c.args.request (c.requires.next w.here (walked_there p k (parts m) t c.args.local w)) in
    step_ends p k (parts m) new t c.args.local c.request_told.new.event c.args.log.now.items
    c.push_parts.new.self.items Made w shared
    (c.in-Ok-Written.ensures.done
    ∙ ap (λ r. let o : Outcome = Ok (new, event_told r c.request_told.new.event) in o) c.in-Ok-Written.field-0-is)
    c.push_parts.ensures.entries refl made_other

pub returns-in-Err-clause-ends : goal.returns-in-Err-clause-ends
returns-in-Err-clause-ends c = λ k w.
    let m = c.args.machine.now in
    let p = m.view.program in
    let t = c.args.t in
    let new = parts c.request_told.new.self in
    let shared = asks_shared p t w.here c.args.request (c.requires.next w.here (walked_there p k (parts m) t c.args.local w)) in
    none_ends p k (parts m) new t c.args.local c.in-Err.field-0 c.args.log.now.items
    c.push_parts-in-Err.new.self.items w shared c.in-Err.ensures.err.0
    (ap (λ (v : MachineView). parts v) c.in-Err.ensures.err.1) c.push_parts-in-Err.ensures.entries
