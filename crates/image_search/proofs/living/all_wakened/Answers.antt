use Rattle.std.proofs.Common.{◌≤◌, All, length, subst}
use Rattle.image_states.specs.declared.packed.Packed.{Packed as PackedOf}
use Rattle.image_search.proofs.Flagging.{are_wakened, within_still_too}
use Rattle.image_search.proofs.living.all_wakened.Goals as goal

pub returns-clause-wakened : goal.returns-clause-wakened
returns-clause-wakened c = λ e.
    let p = c.args.image.now in
    let kept = c.all_live_for.new.kept in
    are_wakened p kept c.most_threads-count.result
    c.in_ok-all.ensures.sound
    (within_still_too c.args.kept.now kept c.most_threads-count.result c.in_ok-all.ensures.still
    (subst (All (λ (x : PackedOf). length x.places.items ≤ c.most_threads-count.result))
    c.as_slice.ensures.value (c.are_within.ensures c.if-not-are_within.false)))
    (c.in_ok-all.ensures.wakened e)
