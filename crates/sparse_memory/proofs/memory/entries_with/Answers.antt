use Rattle.std.proofs.Common.{◌≡◌, set, subst}
use Rattle.std.proofs.lemmas.List.{take_all}
use Rattle.sparse_memory.specs.Spread.{put_yet, spread}
use Rattle.sparse_memory.proofs.Spreading.{entries_more, none_put}
use Rattle.sparse_memory.proofs.memory.entries_with.Goals as goal

pub loop-entry-init : goal.loop-entry-init
loop-entry-init c =
    none_put c.args.entries.now c.in_ok-more.more.items c.args.a (put_yet c.is_put_at_first-put.result c.args.v)
    c.in_ok-more.ensures c.is_put_at_first-put.ensures

pub loop-entry-preserved : goal.loop-entry-preserved
loop-entry-preserved c =
    entries_more c.args.entries.now c.loop-entry.entry-index _ c.loop-entry.more.items c.push_entry.new.entries.items
    c.args.a (put_yet c.loop-entry.put c.args.v) (put_yet c.in_ok-done.done c.args.v) c.loop-entry-test.true
    c.loop-entry.invariant c.in_ok-done.ensures

pub returns : goal.returns
returns c = λ empty clear.
    c.in_ok-push_last.ensures empty (spread empty c.args.entries.now)
    (subst (λ es. spread empty c.loop-entry.more.items ≡ set (spread empty es) c.args.a (put_yet c.loop-entry.put c.args.v))
    (take_all c.loop-entry.entry-index c.args.entries.now c.loop-entry-test.false) (c.loop-entry.invariant empty clear))
