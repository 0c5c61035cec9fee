use Rattle.std.proofs.Common.{subst, sym, ◌∙◌}
use Rattle.std.specs.Prelude.{MatchBool}
use Rattle.isa.specs.Programs.{Program as Image}
use Rattle.piece_machine.specs.PieceConcrete.{PieceConcrete}
use Rattle.piece_machine.specs.PieceViews.{parts}
use Rattle.runner.specs.Logs.{EntersOutside}
use Rattle.log_simulation.proofs.CatchingUp.{if_ok}
use Rattle.log_simulation.proofs.Entering.{by_outside, by_own}
use Rattle.log_simulation.proofs.walking.go_through.Goals as goal

pub returns-then-is_outside-clause-enters : goal.returns-then-is_outside-clause-enters
returns-then-is_outside-clause-enters c =
    let k = parts c.args.machine.now in
    let new = parts c.go_outside.new.machine in
    let e = c.args.entry.now in
    if_ok _ _ c.go_outside.result (λ b enters.
    by_outside c.args.image.now k new e b (sym c.is_outside.ensures ∙ c.if-is_outside.true)
    (subst (λ (i : Image). MatchBool b (EntersOutside i k e new) ((m : PieceConcrete) → EntersOutside i k e m → ⊥))
    c.requires.program enters)) c.go_outside.ensures.enters

pub returns-clause-enters : goal.returns-clause-enters
returns-clause-enters c =
    if_ok _ _ c.go_own.result (λ b enters.
    by_own c.args.image.now (parts c.args.machine.now) (parts c.go_own.new.machine) c.args.entry.now b
    (sym c.is_outside.ensures ∙ c.if-is_outside.false) enters) c.go_own.ensures.enters

pub returns-then-is_outside-clause-told : goal.returns-then-is_outside-clause-told
returns-then-is_outside-clause-told c =
    if_ok _ _ c.go_outside.result (λ b told is p own. told is p (c.requires.program ∙ own)) c.go_outside.ensures.told
