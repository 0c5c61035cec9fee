use Rattle.std.proofs.Common.{◌≡◌, ◌<◌, ◌+◌, ◌^◌, refl, ◌∙◌, arith, subst, take, List}
use Rattle.std.proofs.lemmas.List.{take_all}
use Rattle.std.proofs.lemmas.Result.{err_from_is_err_and}
use Rattle.piece_machine.specs.PieceViews.{parts}
use Rattle.runner.specs.Schedules.{Follows}
use Rattle.runner.specs.declared.schedule.Turn.{Turn}
use Rattle.runner.specs.declared.schedule.Turn.TheVariants.{Step}
use Rattle.runner.proofs.Scheduling.{follows_more, fails_at, pushed}
use Rattle.runner.proofs.schedule.follow_turns.Goals as goal

pub returns-in_err-entry-clause-err : goal.returns-in_err-entry-clause-err
returns-in_err-entry-clause-err c =
    let l = c.loop-turn in
    let p = err_from_is_err_and c.from_residual.result c.from_residual.ensures.1 in
    let few : l.turn-index < 2 ^ 32 = omega (arith, l.invariant.number, l.invariant.few) in
    let next : l.number + 1 ≡ l.turn-index + 1 = omega (arith, l.invariant.number) in
    rw (p.1, p.2) (fails_at c.args.machine.now.view.program l.machine.view.program c.args.schedule.now l.turn-index (l.number + 1)
    (Step 0) _ l.log.items (parts l.machine) _ c.loop-turn-test.true refl few next l.invariant.program
    l.invariant.follows c.in_err-entry.ensures.err)

pub loop-turn-preserved : goal.loop-turn-preserved
loop-turn-preserved c =
    let l = c.loop-turn in
    let ok = c.in_ok-entry.ensures.ok in
    record {
      follows = follows_more c.args.machine.now.view.program l.machine.view.program c.args.schedule.now l.turn-index (Step 0) _ l.log.items
          c.push.new.self.items (parts l.machine) (parts c.take_turn.new.machine) c.in_ok-entry.entry
          c.loop-turn-test.true refl l.invariant.program l.invariant.follows ok.0 ok.1 ok.2
          (pushed c.push.result c.is_err.result c.push.new.self.items l.log.items c.in_ok-entry.entry
          c.is_err.ensures.value c.if-is_err.false c.push.ensures);
      number = omega (arith, l.invariant.number);
      few = omega (arith, ok.3);
      program = c.in_ok-entry.ensures.program ∙ l.invariant.program;
    }

pub returns-clause-ok : goal.returns-clause-ok
returns-clause-ok c =
    let l = c.loop-turn in
    let all : take l.turn-index c.args.schedule.now ≡ c.args.schedule.now =
    take_all l.turn-index c.args.schedule.now (omega (arith, c.loop-turn-test.false)) in (
      subst (λ (ts : List Turn). Follows c.args.machine.now.view.program ts l.log.items (parts l.machine)) all l.invariant.follows,
      omega (arith, c.loop-turn-test.false, l.auto.turn-index-end, l.invariant.number, l.invariant.few),
    )
