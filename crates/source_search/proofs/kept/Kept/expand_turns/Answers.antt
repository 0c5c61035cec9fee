use Rattle.std.proofs.Common.{◌≡◌, ℕ, suc, arith, below_more, false, true, subst}
use Rattle.program.specs.Views.{program_of}
use Rattle.meaning.specs.Runs.{CanMove}
use Rattle.proof_exploration.specs.Exploring.{awake}
use Rattle.source_search.specs.Covered.{IsFollowedOwn}
use Rattle.source_search.specs.Kept.{states_of}
use Rattle.source_search.specs.Packed.{unpacked}
use Rattle.source_search.proofs.Coverage.{either_moves, own_still}
use Rattle.source_search.proofs.Keeping.{longer_none, longer_twice}
use Rattle.source_search.proofs.Packing.{grown_none, grown_twice, unpacked_still, within_still}
use Rattle.source_search.proofs.kept.Kept.expand_turns.Goals as goal

pub loop-place-init : goal.loop-place-init
loop-place-init c = record {
  sound = c.requires.sound;
  grown = grown_none c.args.self.now.parts;
  longer = longer_none (states_of c.args.self.now);
  followed = λ k l. absurd (omega (arith, l));
  moves = λ e. absurd (let no : false ≡ true = e in cc);
  known = c.requires.known;
}

pub follow_turn-requires-clause-within : goal.follow_turn-requires-clause-within
follow_turn-requires-clause-within c = within_still c.args.self.now.parts c.loop-place.self.parts
    c.loop-place.invariant.grown c.args.packed.now c.requires.within

pub loop-place-preserved : goal.loop-place-preserved
loop-place-preserved c =
    let p = program_of c.args.checked.now.tree in
    let x = c.args.packed.now in
    let s = unpacked c.args.self.now.parts x in
    let kept = states_of c.loop-place.self in
    let kept' = states_of c.follow_turn.new.self in
    let k = c.loop-place.place in
    let still : unpacked c.loop-place.self.parts x ≡ s =
    unpacked_still c.args.self.now.parts c.loop-place.self.parts c.loop-place.invariant.grown x c.requires.within in
    let strays = c.args.strays in
    let turn : IsFollowedOwn p kept' (awake strays (suc k) (unpacked c.loop-place.self.parts x)) (suc k) =
    rw c.in-Some.is at c.in_ok-able.ensures.followed in
    let can : c.in-Some.able ≡ true → CanMove p (unpacked c.loop-place.self.parts x) (suc k) =
    rw c.in-Some.is at c.in_ok-able.ensures.moves in
    record {
      sound = c.in_ok-able.ensures.sound;
      grown = grown_twice c.args.self.now.parts c.loop-place.self.parts c.follow_turn.new.self.parts
          c.loop-place.invariant.grown c.in_ok-able.ensures.grown;
      longer = longer_twice (states_of c.args.self.now) kept kept' c.loop-place.invariant.longer
          c.in_ok-able.ensures.longer;
      followed = below_more (λ j. IsFollowedOwn p kept' (awake strays (suc j) s) (suc j)) k
          (λ j l. own_still p kept kept' c.in_ok-able.ensures.longer (awake strays (suc j) s) (suc j)
          (c.loop-place.invariant.followed j l))
          (subst (λ r. IsFollowedOwn p kept' (awake strays (suc k) r) (suc k)) still turn);
      moves = λ e. either_moves c.loop-place.moves c.in-Some.able c.either-moves.result c.either-moves.ensures
          ((t : ℕ) × CanMove p s t) c.loop-place.invariant.moves
          (λ b. (suc k, subst (λ r. CanMove p r (suc k)) still (can b))) e;
      known = c.in_ok-able.ensures.known;
    }

pub returns-clause-followed : goal.returns-clause-followed
returns-clause-followed c = λ k less.
    c.loop-place.invariant.followed k (omega (arith, less, c.loop-place-test.false, c.len-place-end.ensures))
