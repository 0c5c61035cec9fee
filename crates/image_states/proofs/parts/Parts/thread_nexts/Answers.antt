use Rattle.image_states.proofs.Within.{thread_few}
use Rattle.std.proofs.Common.{subst, ◌≤◌, ◌+◌, arith, refl, suc}
use Rattle.image_states.specs.Nexts.{may_of, IsDone, IsMore}
use Rattle.image_states.proofs.Growing.{more_longer, more_twice, within_still, own_still, stray_still}
use Rattle.image_states.proofs.Listing.{is_none}
use Rattle.image_states.proofs.Results.{if_both, on_ok}
use Rattle.image_states.proofs.Turned.{all_done}
use Rattle.image_states.proofs.parts.Parts.thread_nexts.Goals as goal

pub stray_nexts-requires-clause-within : goal.stray_nexts-requires-clause-within
stray_nexts-requires-clause-within c =
    within_still c.args.self.now c.own_nexts.new.self (c.in_ok-own.ensures.more).parts c.args.packed.now c.requires.within

pub kill_nexts-requires-clause-within : goal.kill_nexts-requires-clause-within
kill_nexts-requires-clause-within c =
    within_still c.args.self.now c.own_nexts.new.self (c.in_ok-own.ensures.more).parts c.args.packed.now c.requires.within

pub returns-clause-more : goal.returns-clause-more
returns-clause-more c =
    on_ok c.kill_nexts.result _ _ c.kill_nexts.ensures.more (λ m.
    more_twice c.args.self.now c.own_nexts.new.self c.kill_nexts.new.self c.args.found.now.items
    c.own_nexts.new.found.items c.kill_nexts.new.found.items c.in_ok-own.ensures.more
    (more_twice c.own_nexts.new.self c.own_nexts.new.self c.kill_nexts.new.self c.own_nexts.new.found.items
    c.stray_nexts.new.found.items c.kill_nexts.new.found.items
    (more_longer c.own_nexts.new.self c.own_nexts.new.found.items c.stray_nexts.new.found.items c.in_ok-stray_nexts.ensures.longer)
    m))

pub returns-clause-done : goal.returns-clause-done
returns-clause-done c =
    let p = c.args.image.now in
    let x = c.args.packed.now in
    let a = c.own_nexts.new.self in
    let b = c.kill_nexts.new.self in
    let xs = c.own_nexts.new.found.items in
    let ys = c.stray_nexts.new.found.items in
    let zs = c.kill_nexts.new.found.items in
    let within = within_still c.args.self.now a (c.in_ok-own.ensures.more).parts x c.requires.within in
    if_both c.kill_nexts.result _ _ _ c.kill_nexts.ensures.more c.kill_nexts.ensures.done (λ m o r none.
    let longer : IsMore a xs b zs = more_twice a a b xs ys zs (more_longer a xs ys c.in_ok-stray_nexts.ensures.longer) m in
    subst (IsDone p (may_of c.args.outside) b x zs) (rw c.in-Some.is at c.thread_number.ensures.some)
    (all_done p (may_of c.args.outside) b x zs c.in-Some.t
    (own_still p a b x xs zs c.in-Some.t longer within
    (c.in_ok-own.ensures.done (is_none c.in_ok-own.own c.is_some.result c.is_some.ensures c.if-is_some.false)))
    (λ is. stray_still p a b x ys zs c.in-Some.t m within
    (c.in_ok-stray_nexts.ensures.done is p))
    (λ less. r none less)))

pub unreachable-requires : goal.unreachable-requires
unreachable-requires c =
    let many : 4294967296 ≤ c.args.k + 1 = rw c.in_default.is at c.thread_number.ensures.none in
    let few : suc c.args.k ≤ 1000 =
    thread_few c.args.self.now c.args.packed.now c.requires.within c.args.k (suc c.args.k) refl c.requires.made in
    omega (arith, many, few)
