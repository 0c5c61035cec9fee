use Rattle.std.proofs.Common.{◌≡◌, Some, inl, inr, refl, slice_get}
use Rattle.image_states.specs.Packed.{kept_of}
use Rattle.image_search.proofs.Keeping.{state_at}
use Rattle.image_search.proofs.Searched.{end_so, plain_so}
use Rattle.image_search.proofs.search.look_at_ends.Goals as goal

pub returns-then-not-is_any-clause-told : goal.returns-then-not-is_any-clause-told
returns-then-not-is_any-clause-told c = λ e.
    let p = c.args.image.now in
    let kept = c.args.kept.now in
    let x = c.in-Some.packed.now in
    let here : slice_get kept.states.items c.args.place ≡ Some x = rw c.in-Some.is at c.state.ensures in
    let none = c.if-not-is_any.ensures in (
      kept_of p kept.parts x,
      state_at p kept c.args.place x here,
      inl (refl, plain_so p (kept_of p kept.parts x) c.ends_of-ends.result c.ends_of-ends.ensures none.0 none.1 none.2),
    )

pub returns-then-not-tries-clause-told : goal.returns-then-not-tries-clause-told
returns-then-not-tries-clause-told c = λ e.
    let p = c.args.image.now in
    let kept = c.args.kept.now in
    let x = c.in-Some.packed.now in
    let here : slice_get kept.states.items c.args.place ≡ Some x = rw c.in-Some.is at c.state.ensures in (
      kept_of p kept.parts x,
      state_at p kept c.args.place x here,
      inr (c.one_more.ensures, end_so p (kept_of p kept.parts x) c.ends_of-ends.result c.ends_of-ends.ensures c.if-not-is_any.ensures),
    )

pub returns-clause-told : goal.returns-clause-told
returns-clause-told c = λ e.
    let p = c.args.image.now in
    let kept = c.args.kept.now in
    let x = c.in-Some.packed.now in
    let here : slice_get kept.states.items c.args.place ≡ Some x = rw c.in-Some.is at c.state.ensures in (
      kept_of p kept.parts x,
      state_at p kept c.args.place x here,
      inr (c.one_more.ensures, end_so p (kept_of p kept.parts x) c.ends_of-ends.result c.ends_of-ends.ensures c.if-not-is_any.ensures),
    )
