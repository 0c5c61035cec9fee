use Rattle.std.proofs.Common.{◌∙◌, subst, is_some}
use Rattle.std.specs.Prelude.{option_map}
use Rattle.syntax.specs.View.{callee_of, option_name}
use Rattle.types.specs.Faults.{Gathers}
use Rattle.types.specs.Kinds.{result_kind}
use Rattle.types.specs.StatementFaults.{arguments_faults, matched_faults, into_faults}
use Rattle.callees.specs.Pieces.{piece_of}
use Rattle.unit_faults.specs.Calls.{call_name_faults}
use Rattle.unit_faults.proofs.Gathering.{gathers_call, taken_name}
use Rattle.unit_faults.proofs.call.answered.Goals as goal

pub returns : goal.returns
returns c = λ s h.
    let e = callee_of c.args.callee.now in
    let n = option_name c.args.name in
    let q = piece_of c.args.piece.now in
    gathers_call (call_name_faults s e q (is_some n)) (arguments_faults s e.arguments)
    (matched_faults s e.arguments q.parameters) (into_faults s (option_map result_kind q.returns) n) c.args.least
    c.named-first.result c.passed-second.result c.into.result
    (subst (λ b. Gathers (call_name_faults s e q b) c.args.least c.named-first.result)
    (c.is_some.ensures ∙ taken_name c.args.name) (c.named-first.ensures s h)) (c.passed-second.ensures s h)
    (subst (λ k. Gathers (into_faults s k n) c.passed-second.result c.into.result) c.result_type.ensures
    (c.into.ensures s h.standing))
