use Rattle.std.proofs.Common.{◌≡◌, ◌∙◌, ap, sym, subst, length, List, Bool, arith}
use Rattle.callgraph.specs.Marks.{AreSettled}
use Rattle.callgraph.proofs.Marking.{written_back}
use Rattle.callgraph.proofs.endless.walked.Goals.{in-Some-Enter+in_ok-enter-in-Some-Enter, in-Some-Leave}
use Rattle.callgraph.proofs.endless.walked.Goals as goal

pub loop-step-preserved : goal.loop-step-preserved
loop-step-preserved c =
    let inv = c.loop-step.invariant in
    elim c.match-pop-2.branch [
      | in-Some-Enter+in_ok-enter-in-Some-Enter w ↦ record {
        len = ap (λ v. length v.items) w.marks-is ∙ inv.len;
        settled = λ calls g. subst (λ (xs : List Bool). AreSettled calls xs) (sym (ap (λ v. v.items) w.marks-is))
            (inv.settled calls g);
      }
      | in-Some-Leave w ↦
          let new = w.settle.new.marks in
          let written : c.match-pop-2.marks.items ≡ new = ap (λ v. v.items) w.marks-is
          ∙ written_back c.loop-step.marks.len new _ (grind arith) in
          let value = w.deref_mut-in-Some-Leave.ensures.value in
          record {
            len = ap length written ∙ w.settle.auto.marks ∙ ap length value ∙ inv.len;
            settled = λ calls g. subst (λ (xs : List Bool). AreSettled calls xs) (sym written)
                (w.settle.ensures.settled calls g (ap length value ∙ inv.len)
                (subst (λ (xs : List Bool). AreSettled calls xs) (sym value) (inv.settled calls g)));
          }
    ]
