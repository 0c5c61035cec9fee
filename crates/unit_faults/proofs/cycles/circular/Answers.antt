use Rattle.std.proofs.Common.{◌≡◌, ◌<◌, ℕ, ◌∙◌, sym, subst, false, slice_index_or, length, map, take, arith, get_or}
use Rattle.std.proofs.Common.{List, Option, ◌+◌}
use Rattle.scanner.specs.declared.refusal.Refusal.{Refusal}
use Rattle.callgraph.specs.Levels.{NeverRise}
use Rattle.callgraph.specs.declared.Call.{Call}
use Rattle.callees.specs.declared.piece.Piece.{Piece as PieceOf}
use Rattle.std.proofs.lemmas.List.{get_or_read}
use Rattle.callees.specs.Pieces.{piece_of}
use Rattle.types.specs.Pieces.{pieces}
use Rattle.unit_faults.specs.Collected.{Collects}
use Rattle.unit_faults.proofs.Along.{Along, along_next, along_end}
use Rattle.unit_faults.proofs.Circles.{CallsAt, unnamed_step, endless_step, ended_step, calls_same}
use Rattle.unit_faults.proofs.Steps.{taken}
use Rattle.unit_faults.proofs.cycles.circular.Goals as goal
use Rattle.unit_faults.proofs.cycles.circular.Goals.{then-index+in_ok-least, else-index}

next : (calls : List Call) (ps : List PieceOf) (i : ℕ) (p : PieceOf) (a b c : Option Refusal) → i < length ps
    → p ≡ get_or ps i p → Collects (Along (CallsAt calls) (take i (map piece_of ps))) a b
    → Collects (CallsAt calls (take i (map piece_of ps)) (piece_of p)) b c
    → Collects (Along (CallsAt calls) (take (i + 1) (map piece_of ps))) a c
next calls ps i p a b c h e k l = along_next piece_of (CallsAt calls) ps i p a b c h k
    (subst (λ z. Collects (CallsAt calls (take i (map piece_of ps)) (piece_of z)) b c) e l)

pub loop-number-preserved-then-not-is_named : goal.loop-number-preserved-then-not-is_named
loop-number-preserved-then-not-is_named c =
    let before = take c.loop-number.number (map piece_of c.args.pieces.now) in
    next c.args.calls.now c.args.pieces.now c.loop-number.number c.index-pieces-number.result c.args.least
    c.loop-number.least c.loop-number.least c.loop-number-test.true c.index-pieces-number.is c.loop-number.invariant
    (unnamed_step c.args.calls.now before (piece_of c.index-pieces-number.result) c.loop-number.least
    (sym c.is_named.ensures ∙ c.if-not-is_named.true))

pub cycle-requires : goal.cycle-requires
cycle-requires c calls g =
    subst (λ levels. NeverRise calls levels) (sym c.deref.ensures.value) (c.in_ok-levels.ensures calls g)

pub loop-number-preserved : goal.loop-number-preserved
loop-number-preserved c =
    let cs = c.args.calls.now in
    let graph = c.in_ok-graph.ensures.graph in
    let n = c.loop-number.number in
    let q = piece_of c.index-pieces-number.result in
    let before = take n (map piece_of c.args.pieces.now) in
    let here : n < length c.args.pieces.now = c.loop-number-test.true in
    let same : n ≡ length before = sym (taken piece_of c.args.pieces.now n (omega arith)) in
    let named = sym c.is_named.ensures ∙ c.if-not-is_named.false in
    let within : n < length c.in_ok-endless.endless.items = omega (
      arith,
      c.in_ok-endless.ensures.len,
      c.in_ok-graph.ensures.len,
      c.in_ok-endless.endless.ok.0,
    ) in
    let mark : slice_index_or c.in_ok-endless.endless.items n false ≡ c.index.result.now =
    sym (get_or_read c.in_ok-endless.endless.items n c.index.result.now within c.index.ensures false) in
    let after : Option Refusal → Type 0 =
    λ r. Collects (Along (CallsAt cs) (take (n + 1) (map piece_of c.args.pieces.now))) c.args.least r in
    let step = next cs c.args.pieces.now n c.index-pieces-number.result c.args.least c.loop-number.least in
    elim c.if-index.branch [
      | then-index+in_ok-least w ↦ subst after (sym w.least-is)
          (step w.in_ok-least.least here c.index-pieces-number.is c.loop-number.invariant
          (endless_step cs before q n c.loop-number.least w.in_ok-least.least same named
          (λ k. c.in_ok-endless.ensures.every cs graph n k (mark ∙ w.if-index.true)) (w.in_ok-least.ensures cs graph)))
      | else-index w ↦
          let ends = c.in_ok-endless.ensures.ends cs graph n (omega (arith, here, c.in_ok-graph.ensures.len))
          (mark ∙ w.if-index.false) in
          let far : n < length c.in_ok-long.long.items = omega
          (arith, c.in_ok-long.ensures.len, c.in_ok-long.long.ok.0) in
          let long = sym (get_or_read c.in_ok-long.long.items n w.index-else-index.result.now far
          w.index-else-index.ensures
          false) in
          subst after (sym w.least-is)
          (step w.note_where-least.result here c.index-pieces-number.is c.loop-number.invariant
          (ended_step cs before q n ends.0 w.index-else-index.result.now c.loop-number.least w.note_where-least.result
          same
          named ends.1 (sym long ∙ c.in_ok-long.ensures.chains n here) w.note_where-least.ensures))
    ]

pub returns : goal.returns
returns c u made all =
    calls_same u c.args.least c.loop-number.least
    (subst (λ cs. Collects (Along (CallsAt cs) (pieces u)) c.args.least c.loop-number.least) all
    (subst (λ qs. Collects (Along (CallsAt c.args.calls.now) qs) c.args.least c.loop-number.least) made
    (along_end piece_of (CallsAt c.args.calls.now) c.args.pieces.now c.loop-number.number c.args.least
    c.loop-number.least (omega arith) c.loop-number.invariant)))
