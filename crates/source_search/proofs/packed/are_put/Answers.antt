use Rattle.std.proofs.Common.{◌<◌, arith, length}
use Rattle.source_search.proofs.Merged.{put_so}
use Rattle.source_search.proofs.packed.are_put.Goals as goal

pub returns : goal.returns
returns c = λ e.
    let less : c.args.place < length c.args.others.now = omega (arith, c.if-place-others.false) in
    put_so c.args.numbers.now c.args.others.now c.args.place c.args.outcome less (c.begin_so.ensures e)
    (c.end_so.ensures c.if-not-end_so.false)
