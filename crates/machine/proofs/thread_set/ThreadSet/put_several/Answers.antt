use Rattle.std.proofs.Common.{ap, sym, ◌∙◌, take, get_or, subst}
use Rattle.std.proofs.lemmas.List.Sums.{fold_more}
use Rattle.std.proofs.lemmas.List.Elements.{All-take}
use Rattle.machine.specs.declared.thread_set.ThreadSet.TheVariants.{Nobody}
use Rattle.machine.specs.ThreadSets.{with_thread, IsMember, HasMember}
use Rattle.machine.proofs.Sets.{member_of}
use Rattle.machine.proofs.thread_set.ThreadSet.put_several.Goals as goal

pub loop-t-preserved : goal.loop-t-preserved
loop-t-preserved c = c.insert.ensures ∙ ap (λ s. with_thread s (get_or c.args.threads.now c.loop-t.t-index 0)) c.loop-t.invariant
    ∙ sym (fold_more with_thread Nobody c.args.threads.now c.loop-t.t-index 0 c.loop-t-test.true)

pub insert-requires-clause-fits : goal.insert-requires-clause-fits
insert-requires-clause-fits c = subst HasMember (sym c.loop-t.invariant)
    (member_of (take c.loop-t.t-index c.args.threads.now)
    (All-take IsMember c.loop-t.t-index c.args.threads.now c.requires))
