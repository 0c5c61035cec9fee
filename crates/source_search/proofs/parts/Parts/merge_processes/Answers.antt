use Rattle.std.proofs.Common.{◌≡◌, Some, get_or, refl, sym, subst}
use Rattle.std.proofs.lemmas.List.{take_all}
use Rattle.source_offers.specs.Stages.{process_of}
use Rattle.source_states.specs.States.{state_of}
use Rattle.source_search.specs.Packed.{process_in}
use Rattle.source_search.specs.Spots.{IsMergedTo}
use Rattle.source_search.proofs.Merged.{merged_more, merged_none}
use Rattle.source_search.proofs.Packing.{grown_none, grown_twice}
use Rattle.source_search.proofs.parts.Parts.merge_processes.Goals as goal

pub loop-number-init : goal.loop-number-init
loop-number-init c = record {
  grown = grown_none c.args.self.now;
  so_far = λ all. merged_none c.args.self.now.processes.items c.args.processes.now c.in_ok-parts.parts.items
      (state_of c.args.state.now).process c.args.numbers.now all c.in_ok-parts.ensures.items;
}

pub loop-number-preserved : goal.loop-number-preserved
loop-number-preserved c =
    let there : process_in c.process_number.new.self.processes.items c.in-Some-2.part ≡ Some (process_of c.in-Some.process.now) =
    rw c.in-Some-2.is at c.in_ok-part.ensures.there in
    record {
      grown = grown_twice c.args.self.now c.loop-number.self c.process_number.new.self c.loop-number.invariant.grown
          c.in_ok-part.ensures.grown;
      so_far = λ all. merged_more c.args.self.now.processes.items c.loop-number.self.processes.items
          c.process_number.new.self.processes.items (c.in_ok-part.ensures.grown).processes c.args.processes.now
          c.loop-number.parts.items c.put_part.new.processes.items (state_of c.args.state.now).process c.args.numbers.now
          c.loop-number.number-index (get_or c.args.numbers.now c.loop-number.number-index 0) c.in-Some-2.part
          (process_of c.in-Some.process.now) (c.loop-number.invariant.so_far all)
          (c.in_ok-put_part.ensures c.if-not-branch.false) there (sym c.in-Some.ensures) c.loop-number-test.true refl;
    }

pub returns-clause-merged : goal.returns-clause-merged
returns-clause-merged c = λ all.
    subst (λ ns. IsMergedTo c.args.self.now.processes.items c.loop-number.self.processes.items c.args.processes.now
    (state_of c.args.state.now).process ns c.loop-number.parts.items)
    (take_all c.loop-number.number-index c.args.numbers.now c.loop-number-test.false) (c.loop-number.invariant.so_far all)
