use Rattle.std.proofs.Common.{◌∙◌, add-one, arith, refl}
use Rattle.std.proofs.lemmas.Option.{slice_get_read}
use Rattle.workers.specs.Handed.{ComesIn}
use Rattle.workers.proofs.Coming.{one_more, if_none}
use Rattle.workers.proofs.shared_run.SharedRun.take_in.Goals as goal

pub loop-piece-preserved : goal.loop-piece-preserved
loop-piece-preserved g c =
    let v = c.loop-piece.invariant in
    let e = c.enter.ensures in
    let at = c.loop-piece.piece-index in
    let came = ComesIn g.J.RunName.program g.J.RunName.limit c.loop-piece.self c.args.t c.piece-item.result
    c.enter.new.self c.loop-piece.share c.enter.new.share in
    let is = slice_get_read c.args.pieces.now _ at c.piece-item.result refl (omega arith) c.piece-item.is in
    record {
      come = rw (add-one at) (one_more g.J.RunName.program g.J.RunName.limit c.args.self.now c.loop-piece.self
          c.enter.new.self c.args.t c.args.pieces.now at c.piece-item.result c.args.share.now c.loop-piece.share
          c.enter.new.share is v.come (if_none {P = came} c.enter.result e.comes_in c.in_default.not-Some));
      workers = record {
        given = e.workers.given ∙ v.workers.given;
        started = e.workers.started ∙ v.workers.started;
        kept = e.workers.kept ∙ v.workers.kept;
      };
    }
