use Rattle.std.proofs.Common.{◌≡◌, ◌<◌, Some, length, slice_get, subst, sym}
use Rattle.image_search.specs.Kept.{IsWhyAt}
use Rattle.image_states.specs.Nexts.{AreNexts, may_of}
use Rattle.image_states.specs.declared.packed.Packed.{Packed as PackedOf}
use Rattle.image_search.proofs.Searched.{expanded_at, match_both, met_in}
use Rattle.image_search.proofs.search.expand.Goals as goal

pub returns-clause-expanded : goal.returns-clause-expanded
returns-clause-expanded c =
    match_both _ _ _ _ c.in_ok-bound.bound (λ all.
    let p = c.args.image.now in
    let may = may_of c.args.outside in
    let mid = c.nexts_at.new.parts in
    let found = c.nexts_at.new.found.items in
    let at : (x : PackedOf) × (slice_get c.args.kept.now.states.items c.args.place ≡ Some x) × AreNexts p may mid x found =
    subst (λ xs. (x : PackedOf) × (slice_get xs c.args.place ≡ Some x) × AreNexts p may mid x found) c.as_slice.ensures.value
    (c.in_ok-why.ensures.nexts c.in_default.is) in
    expanded_at p may c.args.kept.now c.keep_all.new.self c.args.place at.0 mid found c.requires.sound at.1
    c.in_ok-why.ensures.grown at.2 c.in_ok-bound.ensures.more.parts c.in_ok-bound.ensures.more.states all)
    (met_in c.args.image.now (may_of c.args.outside) c.keep_all.new.self)
    c.in_ok-bound.ensures.kept

pub nexts_at-requires-clause-place : goal.nexts_at-requires-clause-place
nexts_at-requires-clause-place c =
    subst (λ xs. c.args.place < length xs) (sym c.as_slice.ensures.value) c.requires.place

pub bound_at-requires : goal.bound_at-requires
bound_at-requires c =
    subst (λ xs. IsWhyAt c.nexts_at.new.parts xs c.args.place c.in-Some.why) c.as_slice.ensures.value
    (rw c.in-Some.is at c.in_ok-why.ensures.why)
