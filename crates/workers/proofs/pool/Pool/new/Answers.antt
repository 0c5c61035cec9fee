-- One more parker, of the next number.
use Rattle.std.proofs.Common.{◌≡◌, ◌∙◌, List, ap, arith, length, rules, subst, sym}
use Rattle.crossbeam_utils.specs.declared.cache_padded.CachePadded.{CachePadded}
use Rattle.workers.specs.declared.parker.Parker.{Parker}
use Rattle.workers.specs.Parkers.{AreNumbered}
use Rattle.workers.proofs.Numbering.{numbered_more}
use Rattle.workers.proofs.pool.Pool.new.Goals as goal

pub loop-t-preserved : goal.loop-t-preserved
loop-t-preserved g c =
    let v = c.loop-t.invariant in
    let last = c.new-in-loop-t in
    let next : c.loop-t.t ≡ length c.loop-t.parkers.items = omega (arith, v.many, c.loop-t.parkers.ok.0) in
    let is = ap (λ (p : Parker). p.thread) last.ensures ∙ (c.new.ensures ∙ next) in
    record {
      many = search rules;
      numbered = subst (λ (ps : List (CachePadded Parker)). AreNumbered ps) (sym c.in_ok-push.ensures.items)
          (numbered_more c.loop-t.parkers.items last.result v.numbered is);
    }
