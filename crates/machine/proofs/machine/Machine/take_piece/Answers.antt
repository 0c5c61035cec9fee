-- A piece of the thread's call is one of the machine with pieces.
use Rattle.std.proofs.Common.{rules, List, ◌≡◌, ℕ, ◌-◌, length, slice_set, Some, refl, sym, ap, ◌∙◌, subst, arith}
use Rattle.std.proofs.Common.{length-set}
use Rattle.futexcalls.specs.declared.pieces.FutexPhase.{FutexPhase}
use Rattle.futexcalls.specs.Pieces.{LiesIn}
use Rattle.locals.specs.Threads.{Thread}
use Rattle.locals.specs.Looks.{look}
use Rattle.locals.specs.Requests.{after_answer}
use Rattle.machine.specs.declared.call_step.CallStep.TheVariants.{Next, Blocked, Done}
use Rattle.machine.specs.States.{thread_of}
use Rattle.machine.specs.ConcretePieces.{MakesCall, DoesPiece, QueuesSo}
use Rattle.machine.specs.Views.{View, IsWellFormed, KeepsBits, MendsBits, concrete, parts_of}
use Rattle.machine.proofs.Ables.{shows_next, shows_done}
use Rattle.machine.proofs.CallPieces.{next_so, blocked_so, done_so, well_so, can_be_answered}
use Rattle.machine.proofs.Landing.{has_place}
use Rattle.machine.proofs.Orders.{next_order, blocked_order, done_order}
use Rattle.machine.proofs.Whole.{stands_at}
use Rattle.machine.proofs.machine.Machine.take_piece.Goals as goal

one_thread : (x y : Thread) → Some x ≡ Some y → x ≡ y
one_thread x y h = cc

pub invariant_of-self : goal.invariant_of-self
invariant_of-self c =
    let v : View = record {
      program = c.self.inside.image;
      words = c.self.inside.common.words;
      sleepers = c.self.inside.common.sleepers;
      threads = c.self.inside.threads.items;
      output = c.self.inside.common.output;
      room = c.self.inside.common.capacity - length c.self.inside.common.output;
    } in
    let after = c.call_piece.new.self in
    let v' : View = record v { words = after.words; sleepers = after.sleepers; output = after.output } in
    let p = c.call_piece.ensures in
    let makes : MakesCall v c.args.t c.args.call =
    subst (λ (q : View). MakesCall q c.args.t c.args.call) (sym c.self.view_is) c.requires.makes in (
      well_so v v' c.args.t c.args.call c.args.phase c.call_piece.result c.call_piece.new.event makes
          c.self.invariant.0
          (record { words = p.words; output = p.output; count = p.count; most = p.threads }) refl p.sound p.piece,
      c.self.invariant.1,
      shows_next v v' c.args.t c.args.call c.args.phase c.in-Next.next c.call_piece.new.event
          c.self.inside.able.words refl c.in-Next.ensures.piece c.self.invariant.2,
    )

pub returns-in-Next-clause-holds : goal.returns-in-Next-clause-holds
returns-in-Next-clause-holds c = (invariant_of-self c).0

pub returns-in-Next-clause-piece : goal.returns-in-Next-clause-piece
returns-in-Next-clause-piece c =
    let v : View = record {
      program = c.self.inside.image;
      words = c.self.inside.common.words;
      sleepers = c.self.inside.common.sleepers;
      threads = c.self.inside.threads.items;
      output = c.self.inside.common.output;
      room = c.self.inside.common.capacity - length c.self.inside.common.output;
    } in
    let after = c.call_piece.new.self in
    let v' : View = record v {
      words = after.words;
      sleepers = after.sleepers;
      output = after.output;
      room = after.capacity - length after.output;
    } in
    let p = c.call_piece.ensures in
    let makes : MakesCall v c.args.t c.args.call =
    subst (λ (q : View). MakesCall q c.args.t c.args.call) (sym c.self.view_is) c.requires.makes in
    let lies : LiesIn (length v.words) c.args.call =
    subst (λ (q : View). LiesIn (length q.words) c.args.call) (sym c.self.view_is) c.requires.lies in
    subst (λ (q : View). (phases : ℕ → FutexPhase) (x : Thread) → phases c.args.t ≡ c.args.phase
    → thread_of (concrete q) c.args.t ≡ Some x → DoesPiece q phases c.args.t c.args.call x (Next c.in-Next.next)
    c.call_piece.new.event v')
    c.self.view_is
    (next_so v v' c.args.t c.args.call c.args.phase c.in-Next.next c.call_piece.new.event makes lies
    (record { words = p.words; output = p.output; count = p.count; most = p.threads }) refl c.in-Next.ensures.piece)

pub returns-in-Blocked-clause-piece : goal.returns-in-Blocked-clause-piece
returns-in-Blocked-clause-piece c =
    let v : View = record {
      program = c.self.inside.image;
      words = c.self.inside.common.words;
      sleepers = c.self.inside.common.sleepers;
      threads = c.self.inside.threads.items;
      output = c.self.inside.common.output;
      room = c.self.inside.common.capacity - length c.self.inside.common.output;
    } in
    let after = c.call_piece.new.self in
    let v' : View = record v {
      words = after.words;
      sleepers = after.sleepers;
      output = after.output;
      room = after.capacity - length after.output;
    } in
    let p = c.call_piece.ensures in
    let makes : MakesCall v c.args.t c.args.call =
    subst (λ (q : View). MakesCall q c.args.t c.args.call) (sym c.self.view_is) c.requires.makes in
    let lies : LiesIn (length v.words) c.args.call =
    subst (λ (q : View). LiesIn (length q.words) c.args.call) (sym c.self.view_is) c.requires.lies in
    subst (λ (q : View). (phases : ℕ → FutexPhase) (x : Thread) → phases c.args.t ≡ c.args.phase
    → thread_of (concrete q) c.args.t ≡ Some x → DoesPiece q phases c.args.t c.args.call x Blocked
    c.call_piece.new.event v')
    c.self.view_is
    (blocked_so v v' c.args.t c.args.call c.args.phase c.call_piece.new.event makes lies
    (record { words = p.words; output = p.output; count = p.count; most = p.threads }) refl refl
    (λ same. λ i. record v {
      words = p.words i;
      sleepers = same i;
      output = p.output i;
      room = p.capacity i - length (p.output i);
    }) c.in-Blocked.ensures.piece)

-- the thread of the call has a place among the threads
pub index_mut-requires : goal.index_mut-requires
index_mut-requires c =
    let v : View = record {
      program = c.self.inside.image;
      words = c.self.inside.common.words;
      sleepers = c.self.inside.common.sleepers;
      threads = c.self.inside.threads.items;
      output = c.self.inside.common.output;
      room = c.self.inside.common.capacity - length c.self.inside.common.output;
    } in
    let makes : MakesCall v c.args.t c.args.call =
    subst (λ (q : View). MakesCall q c.args.t c.args.call) (sym c.self.view_is) c.requires.makes in
    let place = has_place v.program (concrete v) c.args.t makes.thread c.self.invariant.0 makes.stands in
    omega (arith, place.some, place.few)

pub go_on-requires : goal.go_on-requires
go_on-requires c =
    let v : View = record {
      program = c.self.inside.image;
      words = c.self.inside.common.words;
      sleepers = c.self.inside.common.sleepers;
      threads = c.self.inside.threads.items;
      output = c.self.inside.common.output;
      room = c.self.inside.common.capacity - length c.self.inside.common.output;
    } in
    let makes : MakesCall v c.args.t c.args.call =
    subst (λ (q : View). MakesCall q c.args.t c.args.call) (sym c.self.view_is) c.requires.makes in
    let place = has_place v.program (concrete v) c.args.t makes.thread c.self.invariant.0 makes.stands in
    let here : c.index_mut.result.now ≡ makes.thread =
    one_thread _ _ (sym (stands_at v.threads c.args.t c.index_mut.result.now c.index_mut.result.now place.some
    place.few c.index_mut.ensures.value) ∙ makes.stands) in
    rw (here, makes.asks) (can_be_answered c.args.call makes.go c.in-Done.answer)

pub invariant_of-self-in-Done : goal.invariant_of-self-in-Done
invariant_of-self-in-Done c =
    let v : View = record {
      program = c.self.inside.image;
      words = c.self.inside.common.words;
      sleepers = c.self.inside.common.sleepers;
      threads = c.self.inside.threads.items;
      output = c.self.inside.common.output;
      room = c.self.inside.common.capacity - length c.self.inside.common.output;
    } in
    let after = c.call_piece.new.self in
    let v' : View = record v {
      words = after.words;
      sleepers = after.sleepers;
      output = after.output;
      threads = slice_set v.threads (c.args.t - 1) c.go_on.new.self;
    } in
    let p = c.call_piece.ensures in
    let makes : MakesCall v c.args.t c.args.call =
    subst (λ (q : View). MakesCall q c.args.t c.args.call) (sym c.self.view_is) c.requires.makes in
    let long : length v'.threads ≡ length v.threads = length-set v.threads (c.args.t - 1) c.go_on.new.self in
    let well' : IsWellFormed v.program (concrete v') =
    well_so v v' c.args.t c.args.call c.args.phase c.call_piece.result c.call_piece.new.event makes
    c.self.invariant.0 (record { words = p.words; output = p.output; count = p.count; most = p.threads }) long p.sound
    p.piece in
    let place = has_place v.program (concrete v) c.args.t makes.thread c.self.invariant.0 makes.stands in
    let counted : c.len-made.result ≡ length v.threads = search rules in (
      well',
      c.self.invariant.1,
      shows_done v.program v v' c.args.t c.args.call c.args.phase c.in-Done.answer c.call_piece.new.event
          c.go_on.new.self c.self.inside.able.words c.refresh_after.new.self.words c.self.invariant.0 well'
          place.some refl c.in-Done.ensures.piece c.self.invariant.2
          (subst (λ (ts : List Thread). KeepsBits c.self.inside.able.words c.refresh_after.new.self.words
          (parts_of after ts)) c.deref.ensures.value c.refresh_after.ensures.kept)
          (subst (λ (n : ℕ). MendsBits c.refresh_after.new.self.words (concrete v') n c.args.t
          c.call_piece.new.event.woken) counted
          (subst (λ (ts : List Thread). MendsBits c.refresh_after.new.self.words (parts_of after ts) c.len-made.result
          c.args.t c.call_piece.new.event.woken) c.deref.ensures.value c.refresh_after.ensures.right)),
    )

pub returns-in-Done-clause-holds : goal.returns-in-Done-clause-holds
returns-in-Done-clause-holds c = (invariant_of-self-in-Done c).0

pub returns-in-Done-clause-piece : goal.returns-in-Done-clause-piece
returns-in-Done-clause-piece c =
    let v : View = record {
      program = c.self.inside.image;
      words = c.self.inside.common.words;
      sleepers = c.self.inside.common.sleepers;
      threads = c.self.inside.threads.items;
      output = c.self.inside.common.output;
      room = c.self.inside.common.capacity - length c.self.inside.common.output;
    } in
    let after = c.call_piece.new.self in
    let v' : View = record v {
      words = after.words;
      sleepers = after.sleepers;
      output = after.output;
      threads = slice_set v.threads (c.args.t - 1) c.go_on.new.self;
      room = after.capacity - length after.output;
    } in
    let p = c.call_piece.ensures in
    let makes : MakesCall v c.args.t c.args.call =
    subst (λ (q : View). MakesCall q c.args.t c.args.call) (sym c.self.view_is) c.requires.makes in
    let lies : LiesIn (length v.words) c.args.call =
    subst (λ (q : View). LiesIn (length q.words) c.args.call) (sym c.self.view_is) c.requires.lies in
    let place = has_place v.program (concrete v) c.args.t makes.thread c.self.invariant.0 makes.stands in
    let here : c.index_mut.result.now ≡ makes.thread =
    one_thread _ _ (sym (stands_at v.threads c.args.t c.index_mut.result.now c.index_mut.result.now place.some
    place.few c.index_mut.ensures.value) ∙ makes.stands) in
    let answer = c.in-Done.answer in
    let went : c.go_on.new.self ≡ makes.go answer =
    c.go_on.ensures
    ∙ ap (λ (y : Thread). after_answer (look c.self.inside.image c.args.t y) answer y) here
    ∙ ap (λ l. after_answer l answer makes.thread) makes.asks in
    subst (λ (q : View). (phases : ℕ → FutexPhase) (x : Thread) → phases c.args.t ≡ c.args.phase
    → thread_of (concrete q) c.args.t ≡ Some x → DoesPiece q phases c.args.t c.args.call x Done
    c.call_piece.new.event v')
    c.self.view_is
    (done_so v v' c.args.t c.args.call c.args.phase answer c.call_piece.new.event makes lies
    (record { words = p.words; output = p.output; count = p.count; most = p.threads })
    (ap (slice_set v.threads (c.args.t - 1)) went) c.in-Done.ensures.piece)

pub returns-in-Next-clause-order : goal.returns-in-Next-clause-order
returns-in-Next-clause-order c =
    let v : View = record {
      program = c.self.inside.image;
      words = c.self.inside.common.words;
      sleepers = c.self.inside.common.sleepers;
      threads = c.self.inside.threads.items;
      output = c.self.inside.common.output;
      room = c.self.inside.common.capacity - length c.self.inside.common.output;
    } in
    let after = c.call_piece.new.self in
    let v' : View = record v { words = after.words; sleepers = after.sleepers; output = after.output } in
    subst (λ (q : View). QueuesSo q.sleepers c.args.t c.args.call c.args.phase (Next c.in-Next.next)
    c.call_piece.new.event v'.sleepers)
    c.self.view_is (next_order v v' c.args.t c.args.call c.args.phase c.in-Next.next c.call_piece.new.event
    c.in-Next.ensures.piece)

pub returns-in-Blocked-clause-order : goal.returns-in-Blocked-clause-order
returns-in-Blocked-clause-order c =
    let v : View = record {
      program = c.self.inside.image;
      words = c.self.inside.common.words;
      sleepers = c.self.inside.common.sleepers;
      threads = c.self.inside.threads.items;
      output = c.self.inside.common.output;
      room = c.self.inside.common.capacity - length c.self.inside.common.output;
    } in
    let after = c.call_piece.new.self in
    let v' : View = record v { words = after.words; sleepers = after.sleepers; output = after.output } in
    subst (λ (q : View). QueuesSo q.sleepers c.args.t c.args.call c.args.phase Blocked
    c.call_piece.new.event v'.sleepers)
    c.self.view_is (blocked_order v v' c.args.t c.args.call c.args.phase c.call_piece.new.event c.in-Blocked.ensures.piece)

pub returns-in-Done-clause-order : goal.returns-in-Done-clause-order
returns-in-Done-clause-order c =
    let v : View = record {
      program = c.self.inside.image;
      words = c.self.inside.common.words;
      sleepers = c.self.inside.common.sleepers;
      threads = c.self.inside.threads.items;
      output = c.self.inside.common.output;
      room = c.self.inside.common.capacity - length c.self.inside.common.output;
    } in
    let after = c.call_piece.new.self in
    let v' : View = record v { words = after.words; sleepers = after.sleepers; output = after.output } in
    subst (λ (q : View). QueuesSo q.sleepers c.args.t c.args.call c.args.phase Done
    c.call_piece.new.event v'.sleepers)
    c.self.view_is (done_order v v' c.args.t c.args.call c.args.phase c.in-Done.answer c.call_piece.new.event c.in-Done.ensures.piece)
