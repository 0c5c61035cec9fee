use Rattle.std.proofs.Common.{◌≡◌, ◌++◌, ◌&&◌, not, Some, None, nat_eq, length, map, ap, sym, ◌∙◌}
use Rattle.std.specs.Prelude.{option_map}
use Rattle.scanner.specs.declared.refusal.RefusalKind.TheVariants.{WrongPlace, TypeMismatch}
use Rattle.program.specs.declared.kinds.ValueType.TheVariants.{Process}
use Rattle.syntax.specs.View as v
use Rattle.types.specs.CallFaults.{recover_faults, fork_faults}
use Rattle.types.specs.StatementFaults as f
use Rattle.callees.specs.Pieces.{piece_of}
use Rattle.resolver.specs.Clean.{is_clean}
use Rattle.resolver.proofs.CleanBodies.{fork_clean, unknown_behind}
use Rattle.resolver.proofs.called.forked.Goals as goal

pub returns-in-Some-clause-clean : goal.returns-in-Some-clause-clean
returns-in-Some-clause-clean c = λ s place into h.
    let e = v.callee_of c.args.callee.now in
    let q = piece_of c.in-Some.piece in
    let fit = is_clean (f.arguments_faults s e.arguments ++ f.matched_faults s e.arguments q.parameters) in
    let found : f.called_piece s e ≡ Some q =
    sym (c.numbered.ensures s e h (c.find-found.ensures s h.callees h.role)) ∙ ap (option_map piece_of) c.in-Some.is in
    ap (λ o. is_clean (recover_faults s place ++ fork_faults s e into o)) found
    ∙ fork_clean (f.is_recover s.piece.role) (f.is_internal q.role)
    (not (nat_eq (length e.arguments) (length q.parameters))) WrongPlace WrongPlace TypeMismatch place
    (f.callee_place e) (f.arguments_faults s e.arguments) (f.matched_faults s e.arguments q.parameters)
    (f.taker_faults s (Some Process) into)
    ∙ ap (λ b. (b && fit) && is_clean (f.taker_faults s (Some Process) into))
    (sym (c.may_fork-is_clean.ensures s h))

pub returns-clause-clean : goal.returns-clause-clean
returns-clause-clean c = λ s place into h.
    let e = v.callee_of c.args.callee.now in
    let r = c.unknown.result in
    let missing : f.called_piece s e ≡ None =
    sym (c.numbered.ensures s e h (c.find-found.ensures s h.callees h.role)) ∙ ap (option_map piece_of) c.in_default.is
    in
    ap (λ o. is_clean (recover_faults s place ++ fork_faults s e into o)) missing
    ∙ unknown_behind (f.is_recover s.piece.role) WrongPlace place (f.missing_place s e.name e.dotted)
    (f.arguments_faults s e.arguments) (f.taker_faults s (Some Process) into)
    ∙ sym (ap (λ b. (b && is_clean (f.arguments_faults s e.arguments
    ++ f.matched_faults s e.arguments (map v.parameter_of r.parameters.now)))
    && is_clean (f.taker_faults s (Some Process) into)) c.unknown.ensures.clean)
