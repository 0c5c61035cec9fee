-- Those woken and moved are threads, and the lists are those after the requeue.
use Rattle.std.proofs.Common.{◌∙◌, ap, sym}
use Rattle.locals.specs.Looks.{AskRequeue}
use Rattle.machine.specs.declared.event.EventName.TheVariants as name
use Rattle.machine.specs.ConcreteServing.{event_of, serve}
use Rattle.machine.specs.Views.{common}
use Rattle.machine.proofs.Queues.{woken_threads, moved_threads, requeue_gives}
use Rattle.machine.proofs.common.Common.requeue.Goals as goal

pub put_with-requires-clause-woken : goal.put_with-requires-clause-woken
put_with-requires-clause-woken c =
    let r = c.in-Ok.ensures in
    woken_threads c.self.inside.buckets c.args.a.0 c.args.wake c.as_slice-woken.result.now r.sound.0
    c.self.invariant.places (c.as_slice-woken.ensures ∙ r.woken)

pub put_with-requires-clause-moved : goal.put_with-requires-clause-moved
put_with-requires-clause-moved c =
    let r = c.in-Ok.ensures in
    moved_threads c.self.inside.buckets c.args.a.0 c.args.b.0 c.args.wake c.args.moves c.as_slice-moved.result.now
    r.sound.0 c.self.invariant.places (c.as_slice-moved.ensures ∙ r.moved)

pub returns-clause-gives : goal.returns-clause-gives
returns-clause-gives c = λ made t.
    let r = c.in-Ok.ensures in
    ap (λ v. serve made t (AskRequeue c.args.a.0 c.args.b.0 c.args.wake c.args.moves c.args.expected) (common v))
    (sym c.self.view_is)
    ∙ requeue_gives c.self.inside.words c.self.inside.buckets c.cmp_requeue.new.buckets c.self.inside.output.items
    c.args.a.0 c.args.b.0 c.args.wake c.args.moves c.args.expected c.cmp_requeue.new.lists.woken c.cmp_requeue.new.lists.moved
    c.count-count.result c.put_with.new.self
    c.in_ok-check_address.ensures.inside c.in_ok-check_address-2.ensures.inside r.call r.woken r.moved r.rest r.last
    r.others c.cmp_requeue.ensures.threads c.count-count.ensures
    (c.put_with.ensures ∙
    (λ i. event_of name.Requeue c.count-count.result (c.as_slice-woken.ensures i) (c.as_slice-moved.ensures i)))
