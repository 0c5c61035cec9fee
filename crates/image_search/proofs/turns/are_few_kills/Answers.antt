use Rattle.std.proofs.Common.{◌≡◌, ◌+◌, List, ap, arith, drop}
use Rattle.std.proofs.lemmas.List.{drop_all}
use Rattle.runner.specs.declared.schedule.Turn.{Turn}
use Rattle.image_search.specs.Found.{kills_of}
use Rattle.image_search.proofs.Turning.{kills_left}
use Rattle.image_search.proofs.turns.are_few_kills.Goals as goal

pub loop-turn-preserved : goal.loop-turn-preserved
loop-turn-preserved c =
    let split : kills_of (drop c.loop-turn.turn-index c.args.turns.now) + c.in-Some.behind
    ≡ kills_of (drop (c.loop-turn.turn-index + 1) c.args.turns.now) + c.loop-turn.left =
    kills_left c.args.turns.now c.loop-turn.turn-index _ c.loop-turn.left c.in-Some.behind c.loop-turn-test.true
    c.in-Some.ensures in
    omega (arith, split, c.loop-turn.invariant)

pub returns : goal.returns
returns c = λ e.
    let end : kills_of (drop c.loop-turn.turn-index c.args.turns.now) ≡ 0 =
    ap (λ (l : List Turn). kills_of l) (drop_all c.loop-turn.turn-index c.args.turns.now c.loop-turn-test.false) in
    omega (arith, end, c.loop-turn.invariant)
