-- The code refines its program on a machine whose futex calls are taken in pieces.
use Rattle.std.proofs.Common.{◌≡◌, ◌<◌, List, length}
use Rattle.std.specs.Prelude.{◌^◌}
use Rattle.lowering.specs.Pieces.{code_of}
use Rattle.machine.specs.Runs.{Step}
use Rattle.machine.specs.States.{opening_state}
use Rattle.machine.specs.PieceStates.{PieceState, IsHeldRight}
use Rattle.program.specs.Trees.{Program}
use Rattle.program.specs.WellFormed.{WellFormed}
use Rattle.proof_pieces.specs.Traces.{Trace, none_taken}
use Rattle.proof_pieces.specs.Whole.{whole}
use Rattle.proof_pieces.proofs.Runs.{runs_so}
use Rattle.refinement.specs.Pieces.{ExplainedInPieces, RefinesInPieces}
use Rattle.proof_simulation.specs.Explaining.{explanation_of_trace}
use Rattle.proof_simulation.proofs.Explaining.{explained_along}
use Rattle.proof_simulation.proofs.Whole.{fine_locally}
use Rattle.proof_simulation.proofs.InPieces.{explained_in_pieces, broken_behind, whole_first, awake_first}

pub traced_in_pieces : (p : Program) → WellFormed p → (steps : List Step) (s : PieceState) → IsHeldRight (code_of p) s
    → (trace : Trace (code_of p) (opening_state (code_of p)) none_taken steps (whole (code_of p) s))
    → length steps < 2 ^ 32
    → (e : ExplainedInPieces p (code_of p) steps s)
    × (e.actions ≡ explanation_of_trace p steps (whole (code_of p) s) trace)
traced_in_pieces p w steps s right trace few =
    let e = explained_along p w steps (whole (code_of p) s) trace few in
    explained_in_pieces p (code_of p) steps s right e.0 (explanation_of_trace p steps (whole (code_of p) s) trace) e.1

pub refines_in_pieces : (p : Program) → WellFormed p → RefinesInPieces p (code_of p)
refines_in_pieces p w = record {
  follows = λ buckets steps s some run few.
      let r = runs_so (code_of p) buckets steps s some run in (traced_in_pieces p w steps s r.0 r.1 few).0;
  locally = λ buckets steps s some run few t n x y stands awake local broken.
      let r = runs_so (code_of p) buckets steps s some run in
      fine_locally p w steps (whole (code_of p) s) r.1 few t n x y
      (whole_first (code_of p) s t x broken.0 stands) (awake_first (code_of p) s t broken.0 awake) local
      (broken_behind (code_of p) s t y awake broken);
}
