use Rattle.std.proofs.Common.{◌≡◌, ◌∙◌, ◌+◌, ◌++◌, List, ℕ, [], ◌∷◌, ap, arith, length, refl, sym}
use Rattle.std.specs.Prelude.{if◌then◌else◌}
use Rattle.machine.specs.Views.{concrete}
use Rattle.runner.specs.Seeds.{is_asleep, those}
use Rattle.runner.proofs.Seeding.{those_next}
use Rattle.runner.proofs.drawing.list_sleepers.Goals as goal

pub loop-before-preserved : goal.loop-before-preserved
loop-before-preserved c =
    let v = c.loop-before.invariant in
    let e = c.add_sleeper.ensures in
    let test = is_asleep (concrete c.args.machine.now) in
    let n = c.loop-before.before in
    record {
      asleep = e.asleep v.asleep;
      few = omega (arith, v.few, e.few);
      all = e.items ∙ ap (λ (xs : List ℕ). xs ++ (if test (n + 1) then (n + 1) ∷ [] else [])) v.all
          ∙ sym (those_next test n (n + 1) refl);
    }

pub returns-clause-all : goal.returns-clause-all
returns-clause-all c =
    let all : c.loop-before.before ≡ length (concrete c.args.machine.now).threads =
    omega (arith, c.threads-before-end.ensures.value) in
    c.loop-before.invariant.all ∙ ap (those (is_asleep (concrete c.args.machine.now))) all
