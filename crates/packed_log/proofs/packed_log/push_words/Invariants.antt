use Rattle.std.proofs.Common.{◌≡◌, ◌+◌, ◌++◌, take, vec_len, vec_capacity}
use Rattle.packed_log.proofs.packed_log.push_words.Given as goal

abbrev pub invariant-loop-word : goal.invariant-loop-word
invariant-loop-word l =
    (l.sets.items ≡ l.initial.sets.items ++ take l.word-index l.words)
    × (vec_capacity l.sets ≡ vec_capacity l.initial.sets) × (vec_len l.sets ≡ vec_len l.initial.sets + l.word-index)
