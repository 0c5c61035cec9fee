use Rattle.std.proofs.Common.{below_more, suc, arith}
use Rattle.image_states.specs.Nexts.{may_of, IsDone}
use Rattle.image_states.proofs.Growing.{done_still, grown_none, grown_twice, within_still}
use Rattle.image_states.proofs.Listing.{is_none}
use Rattle.image_states.proofs.Turned.{all_threads}
use Rattle.image_states.proofs.parts.Parts.nexts_of.Goals as goal

pub loop-k-init : goal.loop-k-init
loop-k-init c = record { grown = grown_none c.args.self.now; done = λ j less. absurd (omega (arith, less)) }

pub thread_nexts-requires-clause-within : goal.thread_nexts-requires-clause-within
thread_nexts-requires-clause-within c =
    within_still c.args.self.now c.loop-k.self c.loop-k.invariant.grown c.args.packed.now c.requires

pub loop-k-preserved : goal.loop-k-preserved
loop-k-preserved c =
    let p = c.args.image.now in
    let x = c.args.packed.now in
    let m = c.in_ok-bound.ensures.more in
    let within = within_still c.args.self.now c.loop-k.self c.loop-k.invariant.grown x c.requires in
    record {
      grown = grown_twice c.args.self.now c.loop-k.self c.thread_nexts.new.self c.loop-k.invariant.grown m.parts;
      done = below_more (λ j. IsDone p (may_of c.args.outside) c.thread_nexts.new.self x c.thread_nexts.new.found.items (suc j))
          c.loop-k.k
          (λ j less. done_still c.loop-k.self c.thread_nexts.new.self c.loop-k.found.items c.thread_nexts.new.found.items m p
          (may_of c.args.outside) x (suc j) within (c.loop-k.invariant.done j less))
          (c.in_ok-bound.ensures.done (is_none c.in_ok-bound.bound c.is_some.result c.is_some.ensures c.if-is_some.false));
    }

pub returns-then-is_some-clause-grown : goal.returns-then-is_some-clause-grown
returns-then-is_some-clause-grown c =
    grown_twice c.args.self.now c.loop-k.self c.thread_nexts.new.self c.loop-k.invariant.grown
    (c.in_ok-bound.ensures.more).parts

pub returns-clause-nexts : goal.returns-clause-nexts
returns-clause-nexts c = λ none.
    all_threads c.args.image.now (may_of c.args.outside) c.loop-k.self c.args.packed.now c.loop-k.found.items c.loop-k.k
    (omega (arith, c.loop-k-test.false)) (omega (arith, c.requires.places)) c.loop-k.invariant.done
