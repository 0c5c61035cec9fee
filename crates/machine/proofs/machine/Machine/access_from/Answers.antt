-- What the thread did from there is done on the machine; what always holds is kept, and the bits are right.
use Rattle.std.proofs.Common.{◌≡◌, ◌-◌, length, slice_set, true, Some, ap, sym, ◌∙◌, subst}
use Rattle.locals.specs.Threads.{Thread}
use Rattle.machine.specs.Accessing.{MadeFrom, told_access}
use Rattle.machine.specs.States.{ConcreteState, thread_of}
use Rattle.machine.specs.ConcreteSteps.{can_move}
use Rattle.machine.specs.Views.{View, IsWellFormed, ShowsAble, concrete, parts_of}
use Rattle.machine.proofs.Ables.{mover_made}
use Rattle.machine.proofs.Accessing.{from_keeps, from_returns}
use Rattle.machine.proofs.Whole.{stands_at}
use Rattle.machine.proofs.machine.Machine.access_from.Goals as goal

pub invariant_of-self-2 : goal.invariant_of-self-2
invariant_of-self-2 c =
    let s = c.self.inside in
    let k : ConcreteState = parts_of s.common s.threads.items in
    let moves : can_move k c.args.t ≡ true =
    ap (λ (q : View). can_move (concrete q) c.args.t) c.self.view_is ∙ c.requires in
    let made = mover_made s.image k c.args.t c.self.invariant.0 moves in
    let y = c.index_mut.result.now in
    let stands : thread_of k c.args.t ≡ Some y = stands_at k.threads c.args.t y y made.0 made.1 c.index_mut.ensures.value in
    let after = c.take_access.new.shared in
    let e = c.in_ok-access.ensures in
    let r = from_keeps s.image s.common after k.threads c.args.t y c.args.local.now c.take_access.new.local
    (told_access c.in_ok-access.access) s.able.words made.0 stands moves c.self.invariant.0 c.self.invariant.2 e.access e.lives in
    let same = sym c.copy_from.ensures in (
      subst (λ (x : Thread). IsWellFormed s.image (parts_of after (slice_set k.threads (c.args.t - 1) x))) same r.0,
      c.self.invariant.1,
      subst (λ (x : Thread). ShowsAble s.able.words (parts_of after (slice_set k.threads (c.args.t - 1) x))) same r.1,
    )

pub returns : goal.returns
returns c =
    let s = c.self.inside in
    let v : View = record {
      program = s.image;
      words = s.common.words;
      sleepers = s.common.sleepers;
      threads = s.threads.items;
      output = s.common.output;
      room = s.common.capacity - length s.common.output;
    } in
    let moves : can_move (concrete v) c.args.t ≡ true =
    ap (λ (q : View). can_move (concrete q) c.args.t) c.self.view_is ∙ c.requires in
    let made = mover_made v.program (concrete v) c.args.t c.self.invariant.0 moves in
    let y = c.index_mut.result.now in
    let stands : thread_of (concrete v) c.args.t ≡ Some y =
    stands_at v.threads c.args.t y y made.0 made.1 c.index_mut.ensures.value in
    let after = c.take_access.new.shared in
    let e = c.in_ok-access.ensures in
    let there = c.take_access.new.local in
    subst (λ (q : View). MadeFrom c.in_ok-access.access q c.args.t c.args.local.now (record {
      program = s.image;
      words = after.words;
      sleepers = after.sleepers;
      threads = slice_set v.threads (c.args.t - 1) c.copy_from.new.self;
      output = after.output;
      room = after.capacity - length after.output;
    }) there) c.self.view_is
    (subst (λ (x : Thread). MadeFrom c.in_ok-access.access v c.args.t c.args.local.now (record {
      program = s.image;
      words = after.words;
      sleepers = after.sleepers;
      threads = slice_set v.threads (c.args.t - 1) x;
      output = after.output;
      room = after.capacity - length after.output;
    }) there) (sym c.copy_from.ensures)
    (from_returns s.image s.common after v.threads c.args.t y c.args.local.now there c.in_ok-access.access made.0 stands moves
    e.access e.lives))
