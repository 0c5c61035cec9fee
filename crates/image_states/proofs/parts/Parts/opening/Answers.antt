use Rattle.std.proofs.Common.{ap, length, replicate, sym, ◌∙◌}
use Rattle.std.proofs.lemmas.List.{length-replicate, length-set}
use Rattle.std.proofs.lemmas.Option.{IfSome_then}
use Rattle.isa.specs.Programs.{memory_size}
use Rattle.image_states.proofs.Begun.{opening_covers, opening_within}
use Rattle.image_states.proofs.Growing.{grown_twice}
use Rattle.image_states.proofs.Results.{if_both, on_ok}
use Rattle.image_states.proofs.parts.Parts.opening.Goals as goal

pub keep_memory-requires : goal.keep_memory-requires
keep_memory-requires c =
    ap length c.in_ok-words.ensures ∙ length-set (replicate (memory_size c.args.image.now) 0) 3 1
    ∙ length-replicate (memory_size c.args.image.now) 0 ∙ sym c.requires.size

pub returns-in-None-clause-full : goal.returns-in-None-clause-full
returns-in-None-clause-full c = rw c.in-None.is at c.in_ok-keep_memory.ensures.full

pub open-requires : goal.open-requires
open-requires c = rw (c.in-Some.is, c.in_ok-words.ensures) at c.in_ok-keep_memory.ensures.there

pub returns-in-Some-clause-grown : goal.returns-in-Some-clause-grown
returns-in-Some-clause-grown c = on_ok c.open.result _ _ c.open.ensures.grown
    (λ g. grown_twice c.args.self.now c.keep_memory.new.self c.open.new.self c.in_ok-keep_memory.ensures.grown g)

pub returns-in-Some-clause-within : goal.returns-in-Some-clause-within
returns-in-Some-clause-within c =
    if_both c.open.result _ _ _ c.open.ensures.grown c.open.ensures.opens (λ g o h. IfSome_then o h (λ x is.
    opening_within c.args.image.now c.open.new.self x
    (g.most ∙ (c.in_ok-keep_memory.ensures.grown).most ∙ c.requires.most) is))

pub returns-in-Some-clause-covers : goal.returns-in-Some-clause-covers
returns-in-Some-clause-covers c =
    if_both c.open.result _ _ _ c.open.ensures.grown c.open.ensures.opens (λ g o h. IfSome_then o h (λ x is.
    opening_covers c.args.image.now c.open.new.self x
    (g.most ∙ (c.in_ok-keep_memory.ensures.grown).most ∙ c.requires.most) is))
