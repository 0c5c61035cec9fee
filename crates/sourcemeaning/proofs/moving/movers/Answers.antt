use Rattle.std.proofs.Common.{drop, get_or, ◌+◌}
use Rattle.std.proofs.lemmas.List.{drop_all}
use Rattle.std.proofs.lemmas.Map.Keys.{IsStrictlyIncreasing-from_sorted}
use Rattle.std.specs.Prelude.{IsSome}
use Rattle.program.specs.Views.{program_of}
use Rattle.meaning.specs.Runs.{CanMove}
use Rattle.source_states.specs.States.{state_of}
use Rattle.sourcemeaning.proofs.Found.{found_all, found_each, from_here, more, none_found}
use Rattle.sourcemeaning.proofs.Moves.{mover_is_there}
use Rattle.sourcemeaning.proofs.moving.movers.Goals as goal

pub loop-number-init : goal.loop-number-init
loop-number-init c =
    none_found (CanMove (program_of c.args.checked.now.tree) (state_of c.args.state.now))
    (λ q. IsSome ((state_of c.args.state.now).process q)) c.new-movers.result.items c.as_slice-numbers.result.now
    c.in_ok-all.all.items c.new-movers.ensures.items c.as_slice-numbers.ensures.value c.in_ok-all.ensures.rising
    c.in_ok-all.ensures.all
    (mover_is_there (program_of c.args.checked.now.tree) (state_of c.args.state.now))

pub loop-number-preserved : goal.loop-number-preserved
loop-number-preserved c =
    more (CanMove (program_of c.args.checked.now.tree) (state_of c.args.state.now)) c.loop-number.movers.items
    c.add_mover.new.movers.items (drop c.loop-number.number-index c.as_slice-numbers.result.now)
    (drop (c.loop-number.number-index + 1) c.as_slice-numbers.result.now)
    (get_or c.as_slice-numbers.result.now c.loop-number.number-index 0) c.loop-number.invariant
    (from_here c.as_slice-numbers.result.now c.loop-number.number-index c.loop-number-test.true)
    c.in_ok-add_mover.ensures

pub returns-clause-rising : goal.returns-clause-rising
returns-clause-rising c =
    IsStrictlyIncreasing-from_sorted c.loop-number.movers.items
    (found_all (CanMove (program_of c.args.checked.now.tree) (state_of c.args.state.now)) c.loop-number.movers.items
    (drop c.loop-number.number-index c.as_slice-numbers.result.now) c.loop-number.invariant
    (drop_all c.loop-number.number-index c.as_slice-numbers.result.now c.loop-number-test.false))

pub returns-clause-all : goal.returns-clause-all
returns-clause-all c = λ q. (
  λ h. c.loop-number.invariant.moving q h,
  λ m. found_each (CanMove (program_of c.args.checked.now.tree) (state_of c.args.state.now)) c.loop-number.movers.items
      (drop c.loop-number.number-index c.as_slice-numbers.result.now) q c.loop-number.invariant
      (drop_all c.loop-number.number-index c.as_slice-numbers.result.now c.loop-number-test.false) m,
)
