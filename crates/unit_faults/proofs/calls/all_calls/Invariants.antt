use Rattle.std.proofs.Common.{◌≡◌, map, take}
use Rattle.syntax.specs.Tree.{UnitTree}
use Rattle.callees.specs.Names.{IsCallees}
use Rattle.callees.specs.Pieces.{piece_of}
use Rattle.types.specs.Judgement.{calls_from}
use Rattle.unit_faults.proofs.calls.all_calls.Given as goal

abbrev pub invariant-loop-number : goal.invariant-loop-number
invariant-loop-number l = (u : UnitTree) → IsCallees u l.callees → l.calls.items
    ≡ calls_from u 0 (take l.number (map piece_of l.callees.pieces.items))
