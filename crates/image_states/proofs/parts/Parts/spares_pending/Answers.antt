use Rattle.std.proofs.Common.{◌≡◌, ◌<◌, ◌∙◌, ◌+◌, ap, inr, length, sym}
use Rattle.std.specs.Prelude.{slice_index}
use Rattle.words.specs.Process.{process_word}
use Rattle.image_states.specs.Packed.{words_in}
use Rattle.image_states.proofs.parts.Parts.spares_pending.Goals as goal

pub returns-in-Some : goal.returns-in-Some
returns-in-Some c = λ e a uses.
    let words = words_in c.args.self.now.memories.items c.args.packed.now.memory in
    let there : (c.block.result.0 < length words) × (c.in-Some.entry ≡ slice_index words c.block.result.0) =
    rw c.in-Some.is at c.word.ensures in
    let is : c.in-Some.entry ≡ slice_index words (process_word c.args.t 1) =
    there.1 ∙ ap (slice_index words) c.block.ensures in
    c.spares_entry.ensures e a (inr (uses.1 ∙ ap (λ w. w + 1) (sym is)))
