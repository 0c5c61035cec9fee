use Rattle.std.proofs.Common.{◌≡◌, ◌∙◌, ◌+◌, ◌++◌, List, ℕ, [], ◌∷◌, ap, arith, length, refl, sym}
use Rattle.std.specs.Prelude.{if◌then◌else◌}
use Rattle.machine.specs.Views.{concrete}
use Rattle.runner.specs.Seeds.{is_living, marked, those}
use Rattle.runner.proofs.Seeding.{those_next}
use Rattle.runner.proofs.drawing.list_living.Goals as goal

pub loop-before-preserved : goal.loop-before-preserved
loop-before-preserved c =
    let v = c.loop-before.invariant in
    let e = c.add_living.ensures in
    let test = is_living (concrete c.args.machine.now) (marked c.args.refused.now) in
    let n = c.loop-before.before in
    record {
      living = e.living v.living;
      few = omega (arith, v.few, e.few);
      all = e.items ∙ ap (λ (xs : List ℕ). xs ++ (if test (n + 1) then (n + 1) ∷ [] else [])) v.all
          ∙ sym (those_next test n (n + 1) refl);
    }

pub returns-clause-all : goal.returns-clause-all
returns-clause-all c =
    let all : c.loop-before.before ≡ length (concrete c.args.machine.now).threads =
    omega (arith, c.threads-before-end.ensures.value) in
    c.loop-before.invariant.all ∙ ap (those (is_living (concrete c.args.machine.now) (marked c.args.refused.now))) all
