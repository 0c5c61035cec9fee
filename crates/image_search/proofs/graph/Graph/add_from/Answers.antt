use Rattle.std.proofs.Common.{◌<◌, length, subst, sym}
use Rattle.image_search.proofs.Flagging.{sound_parts, still_parts}
use Rattle.image_search.proofs.graph.Graph.add_from.Goals as goal

pub returns-clause-sound : goal.returns-clause-sound
returns-clause-sound c = sound_parts c.args.kept.now c.nexts_at.new.parts c.in_ok-why.ensures.grown c.requires.sound

pub returns-clause-still : goal.returns-clause-still
returns-clause-still c = still_parts c.args.kept.now c.nexts_at.new.parts c.in_ok-why.ensures.grown

pub nexts_at-requires-clause-place : goal.nexts_at-requires-clause-place
nexts_at-requires-clause-place c =
    subst (λ xs. c.args.place < length xs) (sym c.as_slice.ensures.value) c.requires.place
