use Rattle.std.proofs.Common.{◌≡◌, ◌+◌, ◌++◌, false, map, drop, sym, ap, ◌∙◌}
use Rattle.std.specs.Prelude.{slice_index}
use Rattle.lowering.specs.Marks.{instructions}
use Rattle.codegen.specs.Generated.{piece_of}
use Rattle.linker.specs.Linked.{all_fit, code_from, length_of}
use Rattle.linker.proofs.Steps.{failed, made_step, fit_step, fit_end, sum_step}
use Rattle.linker.proofs.pieces.link_pieces.Goals as goal

pub returns-in_err-link_piece : goal.returns-in_err-link_piece
returns-in_err-link_piece c =
    let f = slice_index c.args.starts.now in
    let all = instructions (code_from f 0 (map piece_of c.args.pieces.now)) in
    let code = c.as_slice.result.now in
    failed c.from_residual-in_err-link_piece.result c.in_err-link_piece.field-0.0 _ _ (all_fit c.args.total all ≡ false)
    c.from_residual-in_err-link_piece.ensures c.in_err-link_piece.ensures
    (fit_end f c.loop-piece.base c.loop-piece.piece-index c.args.pieces.now c.piece-item.result code
    c.loop-piece-test.true c.piece-item.is c.as_slice.ensures.value c.args.total all c.loop-piece.invariant.fit)

pub loop-piece-preserved : goal.loop-piece-preserved
loop-piece-preserved c =
    let f = slice_index c.args.starts.now in
    let all = instructions (code_from f 0 (map piece_of c.args.pieces.now)) in
    let code = c.as_slice.result.now in
    let base = c.loop-piece.base in
    let i = c.loop-piece.piece-index in
    let ps = c.args.pieces.now in
    let x = c.piece-item.result in
    let same = c.as_slice.ensures.value in
    let len = c.len.ensures ∙ sym c.as_slice.ensures.len in
    let done = c.in_ok-link_piece.ensures in
    let sum =
    sum_step f base i ps x code c.loop-piece-test.true c.piece-item.is same c.args.total c.loop-piece.invariant.sum in
    let made =
    made_step f base i ps x code c.loop-piece-test.true c.piece-item.is same c.loop-piece.image.items
    c.link_piece.new.image.items all done.0 c.loop-piece.invariant.made in
    let fit =
    fit_step f base i ps x code c.loop-piece-test.true c.piece-item.is same c.args.total all done.1
    c.loop-piece.invariant.fit in record {
      sum = ap (λ n. base + n + length_of (map piece_of (drop (i + 1) ps))) len ∙ sum;
      made = ap (λ n. c.link_piece.new.image.items ++ instructions
          (code_from f (base + n) (map piece_of (drop (i + 1) ps)))) len ∙ made;
      fit = ap (λ n. all_fit c.args.total (instructions (code_from f (base + n) (map piece_of (drop (i + 1) ps))))) len
          ∙ fit;
    }
