use Rattle.std.proofs.Common.{◌∙◌, ◌≡◌, ◌+◌, ◌-◌, ap, sym, slice_index_or, false, arith}
use Rattle.callgraph.specs.Calls.{has_chain}
use Rattle.callgraph.proofs.Lengths.{chain_step, steady}
use Rattle.callgraph.proofs.chain.chains.Goals as goal

pub loop-round-preserved : goal.loop-round-preserved
loop-round-preserved c = record {
  len = grind (arith);
  marks = λ a h. c.in_ok-next.ensures.marks a ∙ chain_step _ _ c.args.count _ c.requires
      (λ b k. ap (λ xs. slice_index_or xs b false) c.deref.ensures.value ∙ c.loop-round.invariant.marks b k) a;
}

pub returns-then-are_same-clause-chains : goal.returns-then-are_same-clause-chains
returns-then-are_same-clause-chains c a lt =
    let calls = c.args.calls.now in
    let round = c.loop-round._round in
    let same = sym c.deref-in-loop-round.ensures.value ∙ c.are_same.ensures c.if-are_same.true
    ∙ c.deref-in-loop-round-2.ensures.value in
    let all : round + (c.args.most - round) ≡ c.args.most = omega (arith, c.loop-round-test.true) in
    c.loop-round.invariant.marks a lt
    ∙ sym (steady calls c.args.count round (c.args.most - round) c.requires
    (λ b k. sym (c.in_ok-next.ensures.marks b ∙ chain_step _ _ c.args.count _ c.requires
    (λ d j. ap (λ xs. slice_index_or xs d false) c.deref.ensures.value ∙ c.loop-round.invariant.marks d j) b)
    ∙ ap (λ xs. slice_index_or xs b false) same ∙ c.loop-round.invariant.marks b k) a lt)
    ∙ ap (λ n. has_chain calls n a) all
