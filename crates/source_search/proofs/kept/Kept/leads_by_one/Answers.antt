use Rattle.std.proofs.Common.{◌∙◌, refl}
use Rattle.program.specs.Views.{program_of}
use Rattle.source_search.specs.Kept.{states_of}
use Rattle.source_search.proofs.Lively.{comes_still}
use Rattle.source_search.proofs.Packing.{grown_none, grown_twice, within_still}
use Rattle.source_search.proofs.kept.Kept.leads_by_one.Goals as goal

pub loop-k-init : goal.loop-k-init
loop-k-init c = record {
  sound = c.requires.sound;
  grown = grown_none c.args.self.now.parts;
  same = refl;
}

pub leads_by-requires-clause-within : goal.leads_by-requires-clause-within
leads_by-requires-clause-within c = within_still c.args.self.now.parts c.loop-k.self.parts
    c.loop-k.invariant.grown c.args.packed.now c.requires.within

pub loop-k-preserved : goal.loop-k-preserved
loop-k-preserved c = record {
  sound = c.in_ok-leads_by.ensures.sound;
  grown = grown_twice c.args.self.now.parts c.loop-k.self.parts c.leads_by.new.self.parts
      c.loop-k.invariant.grown c.in_ok-leads_by.ensures.grown;
  same = c.in_ok-leads_by.ensures.same ∙ c.loop-k.invariant.same;
}

pub returns-then-branch-clause-grown : goal.returns-then-branch-clause-grown
returns-then-branch-clause-grown c = grown_twice c.args.self.now.parts c.loop-k.self.parts c.leads_by.new.self.parts
    c.loop-k.invariant.grown c.in_ok-leads_by.ensures.grown

pub returns-then-branch-clause-comes : goal.returns-then-branch-clause-comes
returns-then-branch-clause-comes c = λ e.
    comes_still (program_of c.args.checked.now.tree) c.args.self.now.parts c.loop-k.self.parts
    c.loop-k.invariant.grown c.args.packed.now c.requires.within (states_of c.args.self.now)
    (states_of c.loop-k.self) c.loop-k.invariant.same
    (c.in_ok-leads_by.ensures.comes c.if-branch.true)
