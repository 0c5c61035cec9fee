-- The first by the bits; nobody past the last that there can be.
use Rattle.std.proofs.Common.{◌+◌, Some, arith, subst}
use Rattle.machine.specs.ConcreteSteps.{can_move}
use Rattle.machine.specs.ThreadSets.{IsLeastFrom}
use Rattle.machine.specs.Views.{View, concrete, parts_of}
use Rattle.machine.proofs.Ables.{least_able}
use Rattle.machine.proofs.machine.Machine.next_able_behind.Goals as goal

pub returns-in-Some : goal.returns-in-Some
returns-in-Some c =
    let s = c.self.inside in
    let t = c.args.t in
    subst (λ (v : View). IsLeastFrom (can_move (concrete v)) (t + 1) (Some c.in-Some.next)) c.self.view_is
    (least_able s.able.words (parts_of s.common s.threads.items) (t + 1) (t + 1) (Some c.in-Some.next) c.self.invariant.2
    (omega arith) (omega arith) (omega arith) c.in-Some.ensures.some)

pub returns : goal.returns
returns c =
    let s = c.self.inside in
    let t = c.args.t in
    subst (λ (v : View). IsLeastFrom (can_move (concrete v)) (t + 1) c.next_of_rest.result) c.self.view_is
    (least_able s.able.words (parts_of s.common s.threads.items) (t + 1) (t + 1) c.next_of_rest.result c.self.invariant.2
    (omega arith) (omega arith) (omega arith) c.next_of_rest.ensures)
