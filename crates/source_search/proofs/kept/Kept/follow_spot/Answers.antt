use Rattle.program.specs.Views.{program_of}
use Rattle.source_search.specs.Kept.{states_of}
use Rattle.source_search.specs.Spots.{alone}
use Rattle.source_search.proofs.Remembered.{all_still, found_known, rests_followed, spot_alone, spot_within}
use Rattle.source_search.proofs.kept.Kept.follow_spot.Goals as goal

pub returns-then-is_held_up-clause-followed : goal.returns-then-is_held_up-clause-followed
returns-then-is_held_up-clause-followed c =
    let p = program_of c.args.checked.now.tree in
    let parts = c.args.self.now.parts in
    let x = c.args.packed.now in
    let spot = c.in-Some.spot in
    rests_followed p parts x c.args.place spot (alone parts spot) (states_of c.args.self.now) c.in-Some.ensures
    (spot_alone parts spot (spot_within parts x c.args.place spot c.requires.within c.in-Some.ensures))
    (c.is_held_up.ensures c.if-is_held_up.true p)

pub follow_known-requires-clause-known : goal.follow_known-requires-clause-known
follow_known-requires-clause-known c = found_known (program_of c.args.checked.now.tree) c.args.self.now.parts
    c.args.memo.now c.requires.known c.args.packed.now c.args.place c.in-Some.spot c.in-Some-find.known.now
    c.in-Some.ensures c.in-Some-find.ensures.0 c.in-Some-find.ensures.1

pub returns-clause-known : goal.returns-clause-known
returns-clause-known c = all_still c.args.self.now.parts c.follow_known.new.self.parts c.in_ok-moves.ensures.grown
    (program_of c.args.checked.now.tree) c.args.memo.now c.requires.known
