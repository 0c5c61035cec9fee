use Rattle.std.proofs.Common.{◌&&◌, not, ap, sym, ◌∙◌}
use Rattle.std.specs.Prelude.{option_map}
use Rattle.scanner.specs.declared.refusal.RefusalKind.TheVariants.{WrongPlace}
use Rattle.syntax.specs.View as v
use Rattle.types.specs.CallFaults.{return_faults}
use Rattle.types.specs.Kinds.{result_kind}
use Rattle.types.specs.StatementFaults.{is_recover}
use Rattle.resolver.specs.Clean.{is_clean}
use Rattle.resolver.proofs.CleanBodies.{clean_behind}
use Rattle.resolver.proofs.calls.return_from.Goals as goal

pub returns : goal.returns
returns c = λ s place h.
    let made = c.in_ok-made.ensures s place h.standing in
    let t = v.option_expression c.args.tree.now in
    let fs = return_faults s place (option_map result_kind s.piece.returns) t in (
      made.0,
      c.both.ensures
          ∙ ap (λ y. not y && c.in_ok-made.made.is_clean) (c.is_recover-is_placed.ensures ∙ ap is_recover (sym h.role))
          ∙ ap (λ y. not (is_recover s.piece.role) && y) (made.1
          ∙ ap (λ r. is_clean (return_faults s place r t)) (sym h.returns))
          ∙ sym (clean_behind (is_recover s.piece.role) WrongPlace place fs),
    )
