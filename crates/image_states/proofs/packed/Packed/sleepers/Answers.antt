use Rattle.std.proofs.Common.{◌≡◌, ◌≤◌, ◌+◌, ◌++◌, ◌∷◌, ◌∙◌, [], arith, length, rules, subst, sym}
use Rattle.image_states.proofs.Sleeping.{sleepers_all, sleepers_more, sleepers_none, sleepers_skip, SleepersTo}
use Rattle.image_states.proofs.packed.Packed.sleepers.Goals as goal
use Rattle.image_states.proofs.packed.Packed.sleepers.Goals.{then-place+in_ok-push, else-place}

pub loop-k-init : goal.loop-k-init
loop-k-init c = record {
  so = subst (SleepersTo c.args.self.now.places.items c.args.place 0) (sym c.new-sleepers.ensures.items)
      (sleepers_none c.args.self.now.places.items c.args.place c.requires.place);
  few = omega arith;
}

pub loop-k-preserved : goal.loop-k-preserved
loop-k-preserved c = elim c.if-place.branch [
  | then-place+in_ok-push w ↦
      (let e : c.if-place.sleepers.items ≡ c.loop-k.sleepers.items ++ (c.loop-k.k + 1) ∷ [] = search rules in
      record {
        so = subst (SleepersTo c.args.self.now.places.items c.args.place (c.loop-k.k + 1)) (sym e)
            (sleepers_more c.args.self.now.places.items c.args.place c.loop-k.k c.loop-k.sleepers.items
            c.loop-k.invariant.so c.requires.place (sym c.place.ensures ∙ w.if-place.true));
        few = omega (arith, c.loop-k-test.true);
      })
  | else-place w ↦
      (let e : c.if-place.sleepers.items ≡ c.loop-k.sleepers.items = search rules in
      record {
        so = subst (SleepersTo c.args.self.now.places.items c.args.place (c.loop-k.k + 1)) (sym e)
            (sleepers_skip c.args.self.now.places.items c.args.place c.loop-k.k c.loop-k.sleepers.items
            c.loop-k.invariant.so c.requires.place (λ q. w.if-place.false (c.place.ensures ∙ q)));
        few = omega (arith, c.loop-k-test.true);
      })
]

pub returns : goal.returns
returns c =
    let few : c.loop-k.k ≤ length c.args.self.now.places.items = c.loop-k.invariant.few in
    sleepers_all c.args.self.now.places.items c.args.place c.loop-k.k c.loop-k.sleepers.items c.loop-k.invariant.so
    c.requires.place (omega (arith, few, c.loop-k-test.false))
