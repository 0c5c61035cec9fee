use Rattle.std.proofs.Common.{◌<◌, arith, length, subst, suc}
use Rattle.std.proofs.lemmas.Bool.Decides.{nat_tests}
use Rattle.std.proofs.lemmas.Result.{IfOk-weaker}
use Rattle.program.specs.Views.{program_of}
use Rattle.proof_exploration.proofs.Lasting.{live_moves}
use Rattle.source_search.specs.Packed.{unpacked}
use Rattle.source_search.specs.Spots.{alone}
use Rattle.source_search.proofs.Coverage.{moves_too}
use Rattle.source_search.proofs.Lively.{spot_live}
use Rattle.source_search.proofs.Remembered.{found_known, known_moves, spot_alone, spot_within}
use Rattle.source_search.proofs.kept.Kept.is_able.Goals as goal

pub returns-then-is_over : goal.returns-then-is_over
returns-then-is_over c = λ e.
    spot_live (program_of c.args.checked.now.tree) c.args.self.now.parts c.args.packed.now c.args.place c.in-Some.spot
    c.in-Some.ensures (c.is_over.ensures c.if-is_over.true)

pub returns-in-None : goal.returns-in-None
returns-in-None c =
    let p = program_of c.args.checked.now.tree in
    let parts = c.args.self.now.parts in
    let x = c.args.packed.now in
    let spot = c.in-Some.spot in
    IfOk-weaker c.can_move.result _ _ (λ b can e.
    live_moves p (unpacked parts x) (suc c.args.place)
    (moves_too p parts x c.args.place spot (alone parts spot) c.in-Some.ensures
    (spot_alone parts spot (spot_within parts x c.args.place spot c.requires.within c.in-Some.ensures)) (can e)))
    c.can_move.ensures

pub returns-in-Some-find : goal.returns-in-Some-find
returns-in-Some-find c = λ e.
    let p = program_of c.args.checked.now.tree in
    let parts = c.args.self.now.parts in
    let x = c.args.packed.now in
    let some : 0 < length c.outcomes.result.now = grind (arith, nat_tests, e) in
    live_moves p (unpacked parts x) (suc c.args.place)
    (known_moves p parts x c.args.place c.in-Some.spot c.in-Some-find.known.now c.in-Some.ensures
    (found_known p parts c.args.memo.now c.requires.known x c.args.place c.in-Some.spot c.in-Some-find.known.now
    c.in-Some.ensures c.in-Some-find.ensures.0 c.in-Some-find.ensures.1)
    (subst (λ outcomes. 0 < length outcomes) c.outcomes.ensures some))
