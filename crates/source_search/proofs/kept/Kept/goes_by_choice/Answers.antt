use Rattle.std.proofs.Common.{◌∙◌, refl}
use Rattle.program.specs.Views.{program_of}
use Rattle.source_search.specs.Kept.{states_of}
use Rattle.source_search.proofs.Lively.{comes_still}
use Rattle.source_search.proofs.Packing.{grown_none, grown_twice, within_still}
use Rattle.source_search.proofs.kept.Kept.goes_by_choice.Goals as goal

pub loop-place-init : goal.loop-place-init
loop-place-init c = record {
  sound = c.requires.sound;
  grown = grown_none c.args.self.now.parts;
  same = refl;
}

pub chooses-requires-clause-within : goal.chooses-requires-clause-within
chooses-requires-clause-within c = within_still c.args.self.now.parts c.loop-place.self.parts
    c.loop-place.invariant.grown c.args.packed.now c.requires.within

pub loop-place-preserved : goal.loop-place-preserved
loop-place-preserved c = record {
  sound = c.in_ok-chooses.ensures.sound;
  grown = grown_twice c.args.self.now.parts c.loop-place.self.parts c.chooses.new.self.parts
      c.loop-place.invariant.grown c.in_ok-chooses.ensures.grown;
  same = c.in_ok-chooses.ensures.same ∙ c.loop-place.invariant.same;
}

pub returns-then-branch-clause-grown : goal.returns-then-branch-clause-grown
returns-then-branch-clause-grown c = grown_twice c.args.self.now.parts c.loop-place.self.parts c.chooses.new.self.parts
    c.loop-place.invariant.grown c.in_ok-chooses.ensures.grown

pub returns-then-branch-clause-comes : goal.returns-then-branch-clause-comes
returns-then-branch-clause-comes c = λ e.
    comes_still (program_of c.args.checked.now.tree) c.args.self.now.parts c.loop-place.self.parts
    c.loop-place.invariant.grown c.args.packed.now c.requires.within (states_of c.args.self.now)
    (states_of c.loop-place.self) c.loop-place.invariant.same
    (c.in_ok-chooses.ensures.comes c.if-branch.true)
