use Rattle.std.proofs.Common.{◌≡◌, ◌∙◌, None, ap, length, replicate, subst, sym}
use Rattle.std.proofs.lemmas.List.{length-map}
use Rattle.std.specs.Vec.Iter.{into_iter_items, into_iter_len}
use Rattle.program.specs.Trees.{as_version}
use Rattle.program.specs.Views.{procedure_of, program_of}
use Rattle.codegen_workers.specs.Shares.{AreShares}
use Rattle.codegen_workers.proofs.Handing.{hands_in_first, next_free, next_hands_in}
use Rattle.codegen_workers.proofs.collecting.collect.Goals as goal

pub loop-share-init : goal.loop-share-init
loop-share-init g c =
    let program = c.args.program.now in
    let p = as_version c.args.layout.now.version (program_of program) in
    let workers = c.args.workers in
    let made = c.in_ok-made.ensures in
    let gives = c.into_iter-share-iterator.ensures.into_iter_gives in
    let count : c.len.result ≡ length p.procedures =
    c.len.ensures ∙ (program.procedures.ok.0 ∙ sym (length-map program.procedures.items procedure_of)) in
    hands_in_first p workers c.in_ok-collector.collector (into_iter_len c.into_iter-share-iterator.result)
    (into_iter_items c.into_iter-share-iterator.result)
    (c.in_ok-collector.ensures.empty ∙ ap (λ n. replicate n None) count) (gives.1 ∙ made.0)
    (subst (λ l. AreShares p workers 0 l) (sym gives.0) made.1)

pub take_in-requires : goal.take_in-requires
take_in-requires g c =
    next_free (as_version c.args.layout.now.version (program_of c.args.program.now)) c.args.workers
    c.loop-share.collector (into_iter_len c.loop-share.share-iterator) (into_iter_items c.loop-share.share-iterator)
    c.loop-share.invariant c.in_ok-share.field-0 c.in-Some.share (into_iter_items c.next.new.self)
    c.in-Some.ensures.steps.0 c.in_ok-share.was

pub loop-share-preserved : goal.loop-share-preserved
loop-share-preserved g c =
    next_hands_in (as_version c.args.layout.now.version (program_of c.args.program.now)) c.args.workers
    c.loop-share.collector (into_iter_len c.loop-share.share-iterator) (into_iter_items c.loop-share.share-iterator)
    c.loop-share.invariant c.in_ok-share.field-0 c.in-Some.share (into_iter_items c.next.new.self)
    c.in-Some.ensures.steps.0 c.in_ok-share.was c.take_in.new.collector (into_iter_len c.next.new.self)
    c.take_in.ensures c.in-Some.ensures.steps.1
