use Rattle.std.proofs.Common.{◌≡◌, ◌<◌, ◌∙◌, length, sym, ◌≤◌, arith}
use Rattle.std.proofs.lemmas.Result.{IfOk-weaker}
use Rattle.std.specs.Prelude.{slice_index}
use Rattle.image_states.specs.Packed.{words_in}
use Rattle.image_states.proofs.Growing.{more_none}
use Rattle.image_states.proofs.parts.Parts.requeue_again.Goals as goal

pub returns-then-w-expected-clause-more : goal.returns-then-w-expected-clause-more
returns-then-w-expected-clause-more c = more_none c.args.self.now c.args.found.now.items

pub returns-then-w-expected-clause-reaches : goal.returns-then-w-expected-clause-reaches
returns-then-w-expected-clause-reaches c =
    let there : (c.args.from.0 < length (words_in c.args.self.now.memories.items c.args.packed.now.memory))
    × (c.in-Some.w ≡ slice_index (words_in c.args.self.now.memories.items c.args.packed.now.memory) c.args.from.0) =
    rw c.in-Some.is at c.word.ensures in
    λ none here stands differs. absurd (differs (sym there.1 ∙ c.if-w-expected.true))

pub returns-else-w-expected-clause-reaches : goal.returns-else-w-expected-clause-reaches
returns-else-w-expected-clause-reaches c =
    IfOk-weaker c.answer_again.result _ _ (λ o r none here stands differs. r none here stands) c.answer_again.ensures.reaches

pub unreachable-requires : goal.unreachable-requires
unreachable-requires c =
    let outside : length (words_in c.args.self.now.memories.items c.args.packed.now.memory) ≤ c.args.from.0 =
    rw c.in-None.is at c.word.ensures in
    omega (arith, outside, c.requires.lies)
