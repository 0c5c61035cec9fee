use Rattle.std.proofs.Common.{sym, ◌∙◌, inl, inr}
use Rattle.piece_machine.specs.PieceViews.{parts}
use Rattle.runner.specs.LogSchedules.{shape_of}
use Rattle.runner.proofs.Turning.{no_outside}
use Rattle.runner.proofs.log_schedule.take_outside.Goals as goal

pub returns-then-entry-gt0-clause-none : goal.returns-then-entry-gt0-clause-none
returns-then-entry-gt0-clause-none c =
    no_outside c.args.machine.now.view.program (parts c.args.machine.now) (shape_of c.args.entry.now) c.requires.outside
    (inl c.if-entry-gt0.true)

pub returns-in-Err-clause-none : goal.returns-in-Err-clause-none
returns-in-Err-clause-none c =
    no_outside c.args.machine.now.view.program (parts c.args.machine.now) (shape_of c.args.entry.now) c.requires.outside
    (inr (inr (sym c.is_kill.ensures ∙ c.if-is_kill.true, c.in-Err.field-0, c.in-Err.ensures.err.0)))

pub returns-in-Err-stray-clause-none : goal.returns-in-Err-stray-clause-none
returns-in-Err-stray-clause-none c =
    no_outside c.args.machine.now.view.program (parts c.args.machine.now) (shape_of c.args.entry.now) c.requires.outside
    (inr (inl (sym c.is_kill.ensures ∙ c.if-is_kill.false, c.in-Err-stray.field-0, c.in-Err-stray.ensures.err.0)))
