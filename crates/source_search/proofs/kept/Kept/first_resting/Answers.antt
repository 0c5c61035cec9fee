use Rattle.std.proofs.Common.{◌≡◌, ◌+◌, Some, arith, below_more, subst, suc, sym}
use Rattle.program.specs.Views.{program_of}
use Rattle.source_search.specs.Kept.{states_in}
use Rattle.source_search.specs.Living.{AreLiveFor, RestsInOne}
use Rattle.source_search.proofs.Lively.{live_all}
use Rattle.source_search.proofs.Packing.{grown_none, grown_twice, sound_still, states_still}
use Rattle.source_search.proofs.kept.Kept.first_resting.Goals as goal

pub loop-before-init : goal.loop-before-init
loop-before-init c = record {
  grown = grown_none c.args.self.now.parts;
  known = c.requires.known;
  live = λ k l. absurd (omega (arith, l));
}

pub rests_of-requires-clause-within : goal.rests_of-requires-clause-within
rests_of-requires-clause-within c = sound_still c.args.self.now.parts c.loop-before.self.parts
    c.loop-before.invariant.grown c.args.states.now c.requires.within

pub loop-before-preserved : goal.loop-before-preserved
loop-before-preserved c =
    let p = program_of c.args.checked.now.tree in
    let a = c.args.self.now.parts in
    let b = c.loop-before.self.parts in
    let next : suc c.loop-before.before ≡ c.loop-before.before + 1 = omega arith in
    let one : AreLiveFor p (Some (c.loop-before.before + 1)) (states_in b c.args.states.now) =
    rw c.in_default.is at c.in_ok-found.ensures.found in
    record {
      grown = grown_twice a b c.rests_of.new.self.parts c.loop-before.invariant.grown c.in_ok-found.ensures.grown;
      known = c.in_ok-found.ensures.known;
      live = below_more (λ k. AreLiveFor p (Some (suc k)) (states_in a c.args.states.now)) c.loop-before.before
          c.loop-before.invariant.live
          (subst (λ n. AreLiveFor p (Some n) (states_in a c.args.states.now)) (sym next)
          (subst (AreLiveFor p (Some (c.loop-before.before + 1)))
          (states_still a b c.loop-before.invariant.grown c.args.states.now c.requires.within) one));
    }

pub returns-in-Some-clause-grown : goal.returns-in-Some-clause-grown
returns-in-Some-clause-grown c = grown_twice c.args.self.now.parts c.loop-before.self.parts c.rests_of.new.self.parts
    c.loop-before.invariant.grown c.in_ok-found.ensures.grown

pub returns-in-Some-clause-found : goal.returns-in-Some-clause-found
returns-in-Some-clause-found c =
    let p = program_of c.args.checked.now.tree in
    let a = c.args.self.now.parts in
    let b = c.loop-before.self.parts in
    let one : RestsInOne p (states_in b c.args.states.now) (c.loop-before.before + 1) =
    rw c.in-Some.is at c.in_ok-found.ensures.found in
    subst (λ states. RestsInOne p states (c.loop-before.before + 1))
    (states_still a b c.loop-before.invariant.grown c.args.states.now c.requires.within) one

pub returns-clause-found : goal.returns-clause-found
returns-clause-found c =
    live_all (program_of c.args.checked.now.tree) c.args.self.now.parts c.args.states.now c.most_made-before-end.result
    c.most_made-before-end.ensures
    (λ k less. c.loop-before.invariant.live k (omega (arith, less, c.loop-before-test.false)))
