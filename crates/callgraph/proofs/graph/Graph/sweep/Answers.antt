use Rattle.std.proofs.Common.{◌≡◌, ◌≤◌, ◌∙◌, ℕ, ◌<◌, subst, sym, slice_index_or, inl, inr, true, false, arith}
use Rattle.std.proofs.Common.{count_by, length}
use Rattle.callgraph.specs.Calls.{IsCall}
use Rattle.callgraph.proofs.Settling.{up_to, no_more_marked}
use Rattle.callgraph.proofs.graph.Graph.sweep.Goals.{then-settle, else-settle}
use Rattle.callgraph.proofs.graph.Graph.sweep.Goals as goal

pub loop-number-preserved : goal.loop-number-preserved
loop-number-preserved c =
    let inv = c.loop-number.invariant in
    let old = c.args.marks.now in
    let marks = c.loop-number.marks in
    let len : length marks ≡ length c.args.self.now.rows.items = omega (arith, c.loop-number.auto.marks, c.requires) in
    elim c.if-settle.branch [
      | then-settle w ↦ record {
        fewer = λ e. let l : count_by (λ m. m) marks ≤ count_by (λ m. m) old =
            no_more_marked c.loop-number.swept marks old inv.fewer inv.same in
            omega (arith, l, c.settle.ensures.fewer w.if-settle.true);
        same = λ e. let t : true ≡ false = sym w.swept-is ∙ e in cc;
        settled = λ calls g s. c.settle.ensures.settled calls g len (inv.settled calls g s);
        call_marked = λ e. let t : true ≡ false = sym w.swept-is ∙ e in cc;
      }
      | else-settle w ↦ record {
        fewer = λ e. subst (λ xs. count_by (λ m. m) xs < count_by (λ m. m) old)
            (sym (c.settle.ensures.same w.if-settle.false)) (inv.fewer (sym w.swept-is ∙ e));
        same = λ e. c.settle.ensures.same w.if-settle.false ∙ inv.same (sym w.swept-is ∙ e);
        settled = λ calls g s. c.settle.ensures.settled calls g len (inv.settled calls g s);
        call_marked = λ e calls g a l t. elim (up_to c.loop-number.number a l) [
          | inl k ↦ inv.call_marked (sym w.swept-is ∙ e) calls g a k t
          | inr q ↦ subst (λ x. slice_index_or old x false ≡ true
              → (b : ℕ) × IsCall calls x b × (slice_index_or old b false ≡ true)) (sym q)
              (subst (λ m. slice_index_or m c.loop-number.number false ≡ true
              → (b : ℕ) × IsCall calls c.loop-number.number b × (slice_index_or m b false ≡ true))
              (inv.same (sym w.swept-is ∙ e)) (c.settle.ensures.calls_marked w.if-settle.false calls g)) t
        ];
      }
    ]
