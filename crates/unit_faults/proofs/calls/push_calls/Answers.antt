use Rattle.std.proofs.Common.{◌≡◌, ◌++◌, OnOk, refl, subst}
use Rattle.syntax.specs.View.{statements_in}
use Rattle.callees.specs.Pieces.{piece_of}
use Rattle.types.specs.CallFaults.{block_calls}
use Rattle.types.specs.Scope.{Scope}
use Rattle.unit_faults.specs.Callers.{calls_at}
use Rattle.unit_faults.proofs.calls.push_calls.Goals as goal

pub returns : goal.returns
returns c u h =
    let s : Scope = record { unit = u; piece = piece_of c.args.piece.now } in
    subst (λ xs. OnOk c.block.result (c.block.new.calls.items
    ≡ c.args.calls.now.items ++ calls_at c.args.number (block_calls s (statements_in xs)))) c.deref.ensures.value
    (c.block.ensures s (record { callees = h; role = refl }))
