use Rattle.std.proofs.Common.{◌≡◌, ◌∙◌, ◌+◌, suc, Some, ap, arith, get_or, sym}
use Rattle.std.proofs.lemmas.Bool.Decides.{nat_tests}
use Rattle.std.proofs.lemmas.Option.{slice_get-get_or}
use Rattle.source_offers.specs.Stages.{process_of}
use Rattle.source_states.specs.States.{state_of}
use Rattle.source_search.proofs.Packing.{grown_twice, packed_more}
use Rattle.source_search.proofs.parts.Parts.pack_processes.Goals as goal

pub loop-k-preserved : goal.loop-k-preserved
loop-k-preserved c =
    let k = c.loop-k.k in
    let process = (state_of c.args.state.now).process in
    let number : get_or c.args.numbers.now k 0 ≡ k + 1 = grind (arith, nat_tests, c.if-number-k.false) in
    let next : suc k ≡ get_or c.args.numbers.now k 0 = omega (arith, number) in
    record {
      grown = grown_twice c.args.self.now c.loop-k.self c.process_number.new.self c.loop-k.invariant.grown
          c.in_ok-part.ensures.grown;
      so_far = packed_more c.loop-k.self.processes.items c.process_number.new.self.processes.items
          (c.in_ok-part.ensures.grown).processes c.loop-k.parts.items c.push.new.self.items c.args.numbers.now k
          c.in-Some-2.part process (process_of c.in-Some.process.now) c.loop-k.invariant.so_far
          c.in_ok-push.ensures.items (rw c.in-Some-2.is at c.in_ok-part.ensures.there)
          (ap process next ∙ sym c.in-Some.ensures)
          (slice_get-get_or c.args.numbers.now k 0 c.loop-k-test.true ∙ ap Some (sym next));
    }
