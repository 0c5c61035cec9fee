use Rattle.std.proofs.Common.{◌⊎◌, All, subst}
use Rattle.std.proofs.lemmas.List.{take_all}
use Rattle.std.proofs.lemmas.List.Elements.{All-more}
use Rattle.source_search.specs.Ends.{IsEnded}
use Rattle.source_search.specs.Packed.{HasKey, unpacked}
use Rattle.source_search.specs.declared.packed.Packed.{Packed}
use Rattle.source_search.proofs.Endable.{goes_on_one}
use Rattle.source_search.proofs.kept.Kept.first_lost.Goals as goal

pub loop-place-preserved : goal.loop-place-preserved
loop-place-preserved c =
    let P = λ (x : Packed). HasKey c.args.self.now.states.items x ⊎ IsEnded (unpacked c.args.self.now.parts x) in
    All-more P c.args.states.now c.loop-place.place c.index-states-place.result c.loop-place-test.true
    c.loop-place.invariant (subst P c.index-states-place.is (c.is_endable.ensures.endable c.if-not-is_endable.false))

pub returns-then-not-is_endable : goal.returns-then-not-is_endable
returns-then-not-is_endable c =
    goes_on_one c.args.self.now.parts c.args.states.now c.loop-place.place c.index-states-place.result
    c.loop-place-test.true c.index-states-place.is (c.is_endable.ensures.goes_on c.if-not-is_endable.true)

pub returns : goal.returns
returns c =
    let P = λ (x : Packed). HasKey c.args.self.now.states.items x ⊎ IsEnded (unpacked c.args.self.now.parts x) in
    subst (All P) (take_all c.loop-place.place c.args.states.now c.loop-place-test.false) c.loop-place.invariant
