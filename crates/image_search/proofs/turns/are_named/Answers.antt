use Rattle.std.proofs.Common.{List, subst, sym}
use Rattle.std.proofs.lemmas.List.{drop_all}
use Rattle.runner.specs.declared.schedule.Turn.{Turn}
use Rattle.image_states.specs.Nexts.{may_of}
use Rattle.image_search.specs.Found.{AreNamedTurns}
use Rattle.image_search.proofs.Turning.{named_more}
use Rattle.image_search.proofs.turns.are_named.Goals as goal

pub loop-turn-preserved : goal.loop-turn-preserved
loop-turn-preserved c = λ rest.
    c.loop-turn.invariant (named_more (may_of c.args.outside) c.args.turns.now c.loop-turn.turn-index _
    c.loop-turn-test.true (c.is_named.ensures c.if-not-is_named.false) rest)

pub returns : goal.returns
returns c = λ e.
    c.loop-turn.invariant (subst (λ (l : List Turn). AreNamedTurns (may_of c.args.outside) l)
    (sym (drop_all c.loop-turn.turn-index c.args.turns.now c.loop-turn-test.false)) tt)
