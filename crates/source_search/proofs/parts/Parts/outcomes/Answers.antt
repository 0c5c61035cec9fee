use Rattle.std.proofs.Common.{subst, sym}
use Rattle.std.proofs.lemmas.List.{take_all}
use Rattle.program.specs.Views.{program_of}
use Rattle.source_reaching.specs.Ends.{ends_in}
use Rattle.source_states.specs.States.{state_of}
use Rattle.source_search.specs.Known.{AreOutcomes, IsOutcome}
use Rattle.source_search.proofs.Packing.{grown_none, grown_twice}
use Rattle.source_search.proofs.Remembered.{no_outcomes, one_outcome}
use Rattle.source_search.proofs.parts.Parts.outcomes.Goals as goal

pub loop-k-init : goal.loop-k-init
loop-k-init c = record {
  grown = grown_none c.args.self.now;
  numbered = subst (AreOutcomes (program_of c.args.checked.now.tree) c.args.self.now c.args.spot.process _)
      (sym c.in_ok-outcomes.ensures.items)
      (no_outcomes (program_of c.args.checked.now.tree) c.args.self.now c.args.spot.process c.args.ends.now);
}

pub loop-k-preserved : goal.loop-k-preserved
loop-k-preserved c =
    let one : IsOutcome (program_of c.args.checked.now.tree) c.outcome.new.self c.args.spot.process
    (state_of c.index-ends-k.result.state) c.in-Some.outcome =
    rw c.in-Some.is at c.in_ok-outcome.ensures.numbered in
    record {
      grown = grown_twice c.args.self.now c.loop-k.self c.outcome.new.self c.loop-k.invariant.grown
          c.in_ok-outcome.ensures.grown;
      numbered = one_outcome (program_of c.args.checked.now.tree) c.loop-k.self c.outcome.new.self
          c.in_ok-outcome.ensures.grown c.args.spot.process c.args.ends.now c.loop-k.k c.index-ends-k.result
          c.loop-k.outcomes.items c.push.new.self.items c.in-Some.outcome c.loop-k-test.true c.index-ends-k.is
          c.loop-k.invariant.numbered one c.in_ok-push.ensures.items;
    }

pub returns-clause-numbered : goal.returns-clause-numbered
returns-clause-numbered c = subst (λ ends. AreOutcomes (program_of c.args.checked.now.tree) c.loop-k.self
    c.args.spot.process (ends_in ends) c.loop-k.outcomes.items)
    (take_all c.loop-k.k c.args.ends.now c.loop-k-test.false) c.loop-k.invariant.numbered
