-- What always holds is kept: a thread that goes on by local steps can move as before.
use Rattle.std.proofs.Common.{◌≡◌, ◌-◌, length, slice_set, Some, true, ap, ◌∙◌, refl, subst}
use Rattle.machine.specs.States.{ConcreteState, thread_of}
use Rattle.machine.specs.ConcreteSteps.{can_move}
use Rattle.machine.specs.LocalRuns.{RunsOn}
use Rattle.machine.specs.Views.{View, concrete, parts_of}
use Rattle.machine.proofs.Ables.{keeps_put, mover_made}
use Rattle.machine.proofs.Accessing.{mover_lives, shows_still, still_can}
use Rattle.machine.proofs.Whole.{stands_at}
use Rattle.machine.proofs.machine.Machine.run_local.Goals as goal

pub invariant_of-self : goal.invariant_of-self
invariant_of-self c =
    let k : ConcreteState = parts_of c.self.inside.common c.self.inside.threads.items in
    let moves : can_move k c.args.t ≡ true =
    ap (λ (q : View). can_move (concrete q) c.args.t) c.self.view_is ∙ c.requires in
    let made = mover_made c.self.inside.image k c.args.t c.self.invariant.0 moves in
    let x = c.index_mut.result.now in
    let stands : thread_of k c.args.t ≡ Some x =
    stands_at k.threads c.args.t x x made.0 made.1 c.index_mut.ensures.value in (
      keeps_put c.self.inside.image k c.args.t c.run.new.self c.self.invariant.0,
      c.self.invariant.1,
      shows_still k k.common.words c.args.t c.run.new.self x c.self.inside.able.words made.0 stands moves
          (c.run.ensures.lives (mover_lives k c.args.t x stands moves)) c.self.invariant.2,
    )

pub returns-clause-runs : goal.returns-clause-runs
returns-clause-runs c =
    let v : View = record {
      program = c.self.inside.image;
      words = c.self.inside.common.words;
      sleepers = c.self.inside.common.sleepers;
      threads = c.self.inside.threads.items;
      output = c.self.inside.common.output;
      room = c.self.inside.common.capacity - length c.self.inside.common.output;
    } in
    let moves : can_move (concrete v) c.args.t ≡ true =
    ap (λ (q : View). can_move (concrete q) c.args.t) c.self.view_is ∙ c.requires in
    let made = mover_made v.program (concrete v) c.args.t c.self.invariant.0 moves in
    let x = c.index_mut.result.now in
    subst (λ (q : View). RunsOn q c.args.t c.args.budget c.run.result
    (record v { threads = slice_set v.threads (c.args.t - 1) c.run.new.self })) c.self.view_is (record {
      origin = x;
      here = c.run.new.self;
      stands = stands_at v.threads c.args.t x x made.0 made.1 c.index_mut.ensures.value;
      goes = c.run.ensures.reached;
      within = c.run.ensures.within;
      whole = c.run.ensures.whole;
      after = refl;
    })

pub returns-clause-moves : goal.returns-clause-moves
returns-clause-moves c =
    let k : ConcreteState = parts_of c.self.inside.common c.self.inside.threads.items in
    let moves : can_move k c.args.t ≡ true =
    ap (λ (q : View). can_move (concrete q) c.args.t) c.self.view_is ∙ c.requires in
    let made = mover_made c.self.inside.image k c.args.t c.self.invariant.0 moves in
    let x = c.index_mut.result.now in
    let stands : thread_of k c.args.t ≡ Some x =
    stands_at k.threads c.args.t x x made.0 made.1 c.index_mut.ensures.value in
    still_can k k.common.words c.args.t c.run.new.self x stands moves
    (c.run.ensures.lives (mover_lives k c.args.t x stands moves))
