use Rattle.std.proofs.Common.{ℕ, subst, suc}
use Rattle.std.proofs.lemmas.List.{take_all}
use Rattle.program.specs.Views.{program_of}
use Rattle.source_reaching.specs.Among.{AreCovered}
use Rattle.source_search.specs.Kept.{states_of}
use Rattle.source_search.specs.Known.{behind, behind_all}
use Rattle.source_search.specs.Packed.{unpacked}
use Rattle.source_search.specs.declared.memo.Outcome.{Outcome}
use Rattle.source_search.proofs.Coverage.{ends_none}
use Rattle.source_search.proofs.Keeping.{longer_none, longer_twice}
use Rattle.source_search.proofs.Packing.{grown_none, grown_twice, within_still}
use Rattle.source_search.proofs.Remembered.{outcome_covered, there_still}
use Rattle.source_search.proofs.kept.Kept.cover_known.Goals as goal

pub loop-k-init : goal.loop-k-init
loop-k-init c = record {
  sound = c.requires.sound;
  grown = grown_none c.args.self.now.parts;
  longer = longer_none (states_of c.args.self.now);
  covered = ends_none (program_of c.args.checked.now.tree)
      (λ (o : Outcome). behind c.args.self.now.parts (suc c.args.place) o)
      (unpacked c.args.self.now.parts c.args.packed.now).process c.args.outcomes.now
      (states_of c.args.self.now);
}

pub cover_outcome-requires-clause-within : goal.cover_outcome-requires-clause-within
cover_outcome-requires-clause-within c =
    within_still c.args.self.now.parts c.loop-k.self.parts c.loop-k.invariant.grown c.args.packed.now c.requires.within

pub cover_outcome-requires-clause-there : goal.cover_outcome-requires-clause-there
cover_outcome-requires-clause-there c =
    there_still c.args.self.now.parts c.loop-k.self.parts c.loop-k.invariant.grown (suc c.args.place) _
    (c.requires.there c.loop-k.k _ c.loop-k-test.true)

pub loop-k-preserved : goal.loop-k-preserved
loop-k-preserved c =
    let a = c.args.self.now.parts in
    let b = c.loop-k.self.parts in
    let kept = states_of c.loop-k.self in
    let kept' = states_of c.cover_outcome.new.self in
    record {
      sound = c.in_ok-cover_outcome.ensures.sound;
      grown = grown_twice a b c.cover_outcome.new.self.parts c.loop-k.invariant.grown c.in_ok-cover_outcome.ensures.grown;
      longer = longer_twice (states_of c.args.self.now) kept kept' c.loop-k.invariant.longer
          c.in_ok-cover_outcome.ensures.longer;
      covered = outcome_covered (program_of c.args.checked.now.tree) a b c.loop-k.invariant.grown c.args.packed.now
          (suc c.args.place) c.args.outcomes.now kept kept' c.in_ok-cover_outcome.ensures.longer c.loop-k.k _
          c.loop-k-test.true c.requires.there c.requires.within c.loop-k.invariant.covered
          (c.in_ok-cover_outcome.ensures.covered c.if-not-branch.false);
    }

pub returns-clause-covered : goal.returns-clause-covered
returns-clause-covered c = λ e.
    subst (λ outcomes. (n : ℕ) × AreCovered (program_of c.args.checked.now.tree) (states_of c.loop-k.self) n
    (unpacked c.args.self.now.parts c.args.packed.now).process
    (behind_all c.args.self.now.parts (suc c.args.place) outcomes))
    (take_all c.loop-k.k c.args.outcomes.now c.loop-k-test.false)
    c.loop-k.invariant.covered
