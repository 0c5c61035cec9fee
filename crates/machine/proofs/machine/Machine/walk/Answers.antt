-- What the thread did is done on the machine; what always holds is kept, and the bits are right.
use Rattle.std.proofs.Common.{◌≡◌, ◌-◌, length, slice_set, true, Some, ap, ◌∙◌, subst}
use Rattle.machine.specs.LocalRuns.{WalksOn}
use Rattle.machine.specs.States.{ConcreteState, thread_of}
use Rattle.machine.specs.ConcreteSteps.{can_move}
use Rattle.machine.specs.Views.{View, concrete, parts_of}
use Rattle.machine.proofs.Ables.{mover_made}
use Rattle.machine.proofs.Walking.{walk_keeps, walk_moves, walk_returns}
use Rattle.machine.proofs.Whole.{stands_at}
use Rattle.machine.proofs.machine.Machine.walk.Goals as goal

pub invariant_of-self : goal.invariant_of-self
invariant_of-self c =
    let k : ConcreteState = parts_of c.self.inside.common c.self.inside.threads.items in
    let moves : can_move k c.args.t ≡ true =
    ap (λ (q : View). can_move (concrete q) c.args.t) c.self.view_is ∙ c.requires in
    let made = mover_made c.self.inside.image k c.args.t c.self.invariant.0 moves in
    let x = c.index_mut-local.result.now in
    let stands : thread_of k c.args.t ≡ Some x =
    stands_at k.threads c.args.t x x made.0 made.1 c.index_mut-local.ensures.value in
    let w = c.take_walk in
    let r = walk_keeps c.self.inside.image c.self.inside.common w.new.shared k.threads c.args.t c.args.budget w.result.0 x
    w.new.local w.result.1 c.self.inside.able.words made.0 stands moves c.self.invariant.0 c.self.invariant.2 w.ensures in
    (r.0, c.self.invariant.1, r.1)

pub returns-clause-walks : goal.returns-clause-walks
returns-clause-walks c =
    let v : View = record {
      program = c.self.inside.image;
      words = c.self.inside.common.words;
      sleepers = c.self.inside.common.sleepers;
      threads = c.self.inside.threads.items;
      output = c.self.inside.common.output;
      room = c.self.inside.common.capacity - length c.self.inside.common.output;
    } in
    let moves : can_move (concrete v) c.args.t ≡ true =
    ap (λ (q : View). can_move (concrete q) c.args.t) c.self.view_is ∙ c.requires in
    let made = mover_made v.program (concrete v) c.args.t c.self.invariant.0 moves in
    let x = c.index_mut-local.result.now in
    let stands : thread_of (concrete v) c.args.t ≡ Some x =
    stands_at v.threads c.args.t x x made.0 made.1 c.index_mut-local.ensures.value in
    let w = c.take_walk in
    let after = w.new.shared in
    subst (λ (q : View). WalksOn q c.args.t c.args.budget w.result.0 w.result.1 (record {
      program = c.self.inside.image;
      words = after.words;
      sleepers = after.sleepers;
      threads = slice_set v.threads (c.args.t - 1) w.new.local;
      output = after.output;
      room = after.capacity - length after.output;
    })) c.self.view_is
    (walk_returns c.self.inside.image c.self.inside.common after v.threads c.args.t c.args.budget w.result.0 x w.new.local
    w.result.1 made.0 stands moves w.ensures)

pub returns-clause-moves : goal.returns-clause-moves
returns-clause-moves c =
    let k : ConcreteState = parts_of c.self.inside.common c.self.inside.threads.items in
    let moves : can_move k c.args.t ≡ true =
    ap (λ (q : View). can_move (concrete q) c.args.t) c.self.view_is ∙ c.requires in
    let made = mover_made c.self.inside.image k c.args.t c.self.invariant.0 moves in
    let x = c.index_mut-local.result.now in
    let stands : thread_of k c.args.t ≡ Some x =
    stands_at k.threads c.args.t x x made.0 made.1 c.index_mut-local.ensures.value in
    let w = c.take_walk in
    walk_moves c.self.inside.image c.self.inside.common w.new.shared k.threads c.args.t c.args.budget w.result.0 x
    w.new.local w.result.1 stands moves w.ensures
