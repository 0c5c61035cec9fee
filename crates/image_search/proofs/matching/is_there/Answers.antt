use Rattle.std.proofs.Common.{◌≡◌, ◌∙◌, Some, ap, slice_get, sym}
use Rattle.words.specs.Versions.{most_of}
use Rattle.image_search.proofs.matching.is_there.Goals as goal

pub returns-then-has_memory : goal.returns-then-has_memory
returns-then-has_memory c = λ e.
    let t = c.threads_so.ensures e in
    let x = c.in-Some.packed.now in
    let here : slice_get c.args.kept.now.states.items c.args.place ≡ Some x = rw c.in-Some.is at c.state.ensures in
    record {
      packed = x;
      here = here;
      most = sym c.most_threads.ensures ∙ c.if-most_threads-most_processes.false ∙ c.most_processes.ensures
          ∙ ap most_of c.version.ensures.value;
      words = c.has_memory.ensures c.if-has_memory.true;
      made = t.0;
      few = t.1;
      sleeps = λ k less. (t.2 k less).0;
      stands = λ k less. (t.2 k less).1;
    }
