use Rattle.std.proofs.Common.{◌≤◌, Contains, arith, inl, inr, length, subst, suc, sym}
use Rattle.std.proofs.lemmas.Option.{IfSome_then}
use Rattle.std.proofs.lemmas.Result.{IfOk-weaker}
use Rattle.image_states.proofs.Growing.{more_none}
use Rattle.image_states.proofs.Listing.{is_none, none_in}
use Rattle.image_states.proofs.Requeued.{all_requeued}
use Rattle.image_states.proofs.Crowds.{among_why, no_more_sleepers}
use Rattle.image_states.proofs.Within.{places_few}
use Rattle.image_states.proofs.parts.Parts.requeue_of.Goals as goal

pub returns-then-is_some-clause-more : goal.returns-then-is_some-clause-more
returns-then-is_some-clause-more c = more_none c.args.self.now c.args.found.now.items

pub returns-clause-done : goal.returns-clause-done
returns-clause-done c =
    let mids = c.push_choices.new.found.items in
    IfOk-weaker c.requeue_mids.result _ _ (λ o done none.
    all_requeued c.args.image.now c.requeue_mids.new.self c.args.packed.now mids c.requeue_mids.new.found.items c.args.t
    c.args.from.0 c.args.to.0 c.args.wake c.args.most c.chosen_of-size.result c.args.sleepers.now c.requires.sleepers
    c.chosen_of-size.ensures.is (λ woken chose. c.in_ok-woken.ensures.each
    (is_none c.in_ok-woken.woken c.is_some.result c.is_some.ensures c.if-is_some.false) (suc c.args.from.0)
    c.requires.sleepers woken chose)
    (λ mid has. done none mid (subst (λ ms. Contains ms mid) (sym c.as_slice.ensures.value) has)))
    c.requeue_mids.ensures.done

pub push_choices-requires : goal.push_choices-requires
push_choices-requires c = (c.requires.sleepers).threads

pub returns-then-is_some-clause-why : goal.returns-then-is_some-clause-why
returns-then-is_some-clause-why c = IfSome_then c.in_ok-woken.woken c.in_ok-woken.ensures.why (λ why is.
    among_why c.args.self.now c.args.packed.now c.args.from.0 c.args.sleepers.now c.requires.sleepers why (is c.args.self.now))

pub requeue_mids-requires-clause-size : goal.requeue_mids-requires-clause-size
requeue_mids-requires-clause-size c =
    let less : length c.args.sleepers.now ≤ length c.args.packed.now.places.items =
    no_more_sleepers c.args.packed.now.places.items c.args.from.0 c.args.sleepers.now c.requires.sleepers in
    let few : length c.args.packed.now.places.items ≤ 1000 = places_few c.args.self.now c.args.packed.now c.requires.within in
    omega (arith, less, few, c.chosen_of-size.ensures.few)

pub requeue_mids-requires-clause-mids : goal.requeue_mids-requires-clause-mids
requeue_mids-requires-clause-mids c = λ mid has. elim (c.in_ok-woken.ensures.adds mid
    (subst (λ ms. Contains ms mid) c.as_slice.ensures.value has)) [
      | inl was ↦ absurd (none_in mid (subst (λ ms. Contains ms mid) c.new-mids.ensures.items was))
      | inr is ↦ is
    ]
