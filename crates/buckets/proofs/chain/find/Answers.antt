-- Each node that is passed is another thread's.
use Rattle.std.proofs.Common.{Option, Some, None, refl, sym, ◌∙◌, subst}
use Rattle.std.specs.Option.{IfNone}
use Rattle.slab.specs.Slab.{get}
use Rattle.buckets.specs.Chains.{row_of}
use Rattle.buckets.proofs.Finds.{Passed, Passed-none, Passed-more, Passed-end, Passed-all, Passed-found}
use Rattle.buckets.proofs.chain.find.Goals as goal

pub loop-init : goal.loop-init
loop-init c = Passed-none (get c.args.nodes.now) c.args.chain c.args.most c.args.thread c.requires

pub loop-preserved : goal.loop-preserved
loop-preserved c =
    let at = get c.args.nodes.now in
    let row = row_of at c.args.most c.args.chain in
    Passed-more at c.args.chain row c.args.thread c.args.most c.loop.before (Some c.in-Some.key) c.loop.counter
    c.in_ok-at.at (subst (λ h. Passed at c.args.chain row c.args.thread c.args.most c.loop.before h c.loop.counter)
    c.in-Some.is c.loop.invariant) (sym c.get.ensures ∙ sym c.copied.ensures ∙ c.in_ok-at.was) c.if-at-thread.false

pub returns : goal.returns
returns c =
    let at = get c.args.nodes.now in
    record {
      found = tt;
      absent = Passed-all at c.args.chain (row_of at c.args.most c.args.chain) c.args.thread c.args.most c.loop.before
          c.loop.here c.loop.counter c.loop.invariant c.loop-test.false;
    }

pub returns-in_default-clause-absent : goal.returns-in_default-clause-absent
returns-in_default-clause-absent c =
    let at = get c.args.nodes.now in
    Passed-end at c.args.chain (row_of at c.args.most c.args.chain) c.args.thread c.args.most c.loop.before c.loop.here
    c.loop.counter c.loop.invariant (rw c.in_default.is refl)

pub returns-in_err-at-clause-absent : goal.returns-in_err-at-clause-absent
returns-in_err-at-clause-absent c =
    let at = get c.args.nodes.now in
    if_none c.from_residual.result (Passed-end at c.args.chain (row_of at c.args.most c.args.chain) c.args.thread
    c.args.most c.loop.before c.loop.here c.loop.counter c.loop.invariant
    (rw c.in-Some.is (sym c.get.ensures ∙ sym c.copied.ensures ∙ c.in_err-at.was))) where
      if_none : {X P : Type 0} (o : Option X) → P → IfNone o P
      if_none None p = p
      if_none (Some x) p = tt

pub returns-then-at-thread-clause-found : goal.returns-then-at-thread-clause-found
returns-then-at-thread-clause-found c =
    let at = get c.args.nodes.now in
    let row = row_of at c.args.most c.args.chain in
    Passed-found at c.args.chain row c.args.thread c.args.most c.loop.before c.in-Some.key c.loop.counter c.in_ok-at.at
    (subst (λ h. Passed at c.args.chain row c.args.thread c.args.most c.loop.before h c.loop.counter) c.in-Some.is
    c.loop.invariant) (sym c.get.ensures ∙ sym c.copied.ensures ∙ c.in_ok-at.was) c.if-at-thread.true
