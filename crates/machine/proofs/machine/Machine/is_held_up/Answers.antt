-- The words and the sleepers are those that are shared, and the rule is the image's.
use Rattle.std.proofs.Common.{subst, ap, ◌∙◌}
use Rattle.std.specs.Prelude.{MatchBool}
use Rattle.robustexit.specs.declared.rule.ExitRule.{ExitRule}
use Rattle.robustexit.specs.ExitRules.{exit_of}
use Rattle.machine.specs.ConcretePieces.{IsHeldUp}
use Rattle.machine.specs.Views.{View}
use Rattle.machine.proofs.machine.Machine.is_held_up.Goals as goal

pub returns : goal.returns
returns c =
    let v = c.self.inside in
    subst (λ (v : View). MatchBool c.is_held_up.result
    (IsHeldUp (exit_of v.program.version) v.words v.sleepers c.args.t c.args.phase)
    (IsHeldUp (exit_of v.program.version) v.words v.sleepers c.args.t c.args.phase → ⊥)) c.self.view_is
    (subst (λ (u : ExitRule). MatchBool c.is_held_up.result
    (IsHeldUp u v.common.words v.common.sleepers c.args.t c.args.phase)
    (IsHeldUp u v.common.words v.common.sleepers c.args.t c.args.phase → ⊥))
    (c.of.ensures ∙ ap exit_of c.version.ensures.value) c.is_held_up.ensures)
