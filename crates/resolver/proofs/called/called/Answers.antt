use Rattle.std.proofs.Common.{◌≡◌, ◌++◌, ◌&&◌, not, Some, None, is_some, nat_eq, length, map, ap, sym, ◌∙◌}
use Rattle.std.specs.Prelude.{is_none, option_map}
use Rattle.scanner.specs.declared.refusal.RefusalKind.TheVariants.{WrongPlace, DirectReentry, TypeMismatch}
use Rattle.syntax.specs.View as v
use Rattle.types.specs.CallFaults.{recover_faults, call_faults}
use Rattle.types.specs.Kinds.{result_kind}
use Rattle.types.specs.StatementFaults as f
use Rattle.callees.specs.Pieces.{piece_of}
use Rattle.resolver.specs.Clean.{is_clean}
use Rattle.resolver.proofs.CleanBodies.{call_clean, unknown_behind}
use Rattle.resolver.proofs.called.called.Goals as goal

pub returns-in-Some-clause-clean : goal.returns-in-Some-clause-clean
returns-in-Some-clause-clean c = λ s place into h t.
    let e = v.callee_of c.args.callee.now in
    let q = piece_of c.in-Some.piece in
    let fit = is_clean (f.arguments_faults s e.arguments ++ f.matched_faults s e.arguments q.parameters) in
    let found : f.called_piece s e ≡ Some q =
    sym (c.numbered.ensures s e h (c.find-found.ensures s h.callees h.role)) ∙ ap (option_map piece_of) c.in-Some.is in
    ap (λ o. is_clean (recover_faults s place ++ call_faults s e into o)) found
    ∙ call_clean (f.is_recover s.piece.role) (is_some e.dotted && f.is_internal q.role)
    (f.own_role s.piece.role q.role) (not (nat_eq (length e.arguments) (length q.parameters)))
    (is_some into && is_none q.returns) WrongPlace WrongPlace DirectReentry TypeMismatch TypeMismatch place
    (f.callee_place e) (f.arguments_faults s e.arguments) (f.matched_faults s e.arguments q.parameters)
    (f.into_faults s (option_map result_kind q.returns) into)
    ∙ ap (λ b. ((((((not (f.is_recover s.piece.role) && not (is_some e.dotted && f.is_internal q.role))
    && not (f.own_role s.piece.role q.role)) && not (not (nat_eq (length e.arguments) (length q.parameters))))
    && not (b && is_none q.returns)) && fit) && is_clean (f.into_faults s (option_map result_kind q.returns) into))) t
    ∙ ap (λ b. (b && fit) && is_clean (f.into_faults s (option_map result_kind q.returns) into))
    (sym (c.may_call-is_clean.ensures s h))
    ∙ ap (λ k. (c.may_call-is_clean.result && fit) && is_clean (f.into_faults s k into)) (sym c.result_of.ensures)

pub returns-clause-clean : goal.returns-clause-clean
returns-clause-clean c = λ s place into h t.
    let e = v.callee_of c.args.callee.now in
    let r = c.unknown.result in
    let missing : f.called_piece s e ≡ None =
    sym (c.numbered.ensures s e h (c.find-found.ensures s h.callees h.role)) ∙ ap (option_map piece_of) c.in_default.is
    in
    ap (λ o. is_clean (recover_faults s place ++ call_faults s e into o)) missing
    ∙ unknown_behind (f.is_recover s.piece.role) WrongPlace place (f.missing_place s e.name e.dotted)
    (f.arguments_faults s e.arguments) (f.into_faults s None into)
    ∙ sym (ap (λ b. (b && is_clean (f.arguments_faults s e.arguments
    ++ f.matched_faults s e.arguments (map v.parameter_of r.parameters.now)))
    && is_clean (f.into_faults s r.returns into)) c.unknown.ensures.clean)
