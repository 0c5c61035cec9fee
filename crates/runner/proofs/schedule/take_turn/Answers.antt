use Rattle.std.proofs.Common.{arith}
use Rattle.piece_machine.specs.PieceViews.{parts}
use Rattle.runner.proofs.Scheduling.{outside_taken, own_taken, refused_so}
use Rattle.runner.proofs.schedule.take_turn.Goals as goal

pub returns-in-Step-clause-ok : goal.returns-in-Step-clause-ok
returns-in-Step-clause-ok c =
    own_taken c.args.machine.now.view.program (parts c.args.machine.now) (parts c.take_own.new.machine)
    c.args.number c.in-Step.t c.args.turn c.take_own.result c.in-Step.is
    (omega (arith, c.if-number-from.false, c.from.ensures)) c.take_own.ensures.ok

pub returns-in-Stray-clause-ok : goal.returns-in-Stray-clause-ok
returns-in-Stray-clause-ok c =
    outside_taken c.args.machine.now.view.program (parts c.args.machine.now) (parts c.take_stray.new.machine)
    c.args.number c.args.turn _ c.take_stray.result c.in-Stray.is
    (omega (arith, c.if-number-from.false, c.from.ensures)) c.take_stray.ensures.ok

pub returns-in-Kill-clause-ok : goal.returns-in-Kill-clause-ok
returns-in-Kill-clause-ok c =
    outside_taken c.args.machine.now.view.program (parts c.args.machine.now) (parts c.take_kill.new.machine)
    c.args.number c.args.turn _ c.take_kill.result c.in-Kill.is
    (omega (arith, c.if-number-from.false, c.from.ensures)) c.take_kill.ensures.ok

pub returns-in-Kill-clause-err : goal.returns-in-Kill-clause-err
returns-in-Kill-clause-err c =
    refused_so c.args.machine.now.view.program (parts c.args.machine.now) c.args.number c.args.turn _
    c.take_kill.result c.in-Kill.is c.take_kill.ensures.err

pub returns-in-Step-clause-err : goal.returns-in-Step-clause-err
returns-in-Step-clause-err c =
    refused_so c.args.machine.now.view.program (parts c.args.machine.now) c.args.number c.args.turn _
    c.take_own.result c.in-Step.is c.take_own.ensures.err

pub returns-in-Stray-clause-err : goal.returns-in-Stray-clause-err
returns-in-Stray-clause-err c =
    refused_so c.args.machine.now.view.program (parts c.args.machine.now) c.args.number c.args.turn _
    c.take_stray.result c.in-Stray.is c.take_stray.ensures.err
