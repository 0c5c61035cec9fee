use Rattle.std.proofs.Common.{◌<◌, length, refl, subst, sym}
use Rattle.image_states.specs.Exits.{IsMarkIn}
use Rattle.image_states.specs.Packed.{words_in, IsMarked}
use Rattle.image_states.proofs.Growing.{grown_none}
use Rattle.image_states.proofs.Marking.{marked_so, some_two}
use Rattle.image_states.proofs.parts.Parts.marked.Goals as goal

pub returns-in-None-clause-grown : goal.returns-in-None-clause-grown
returns-in-None-clause-grown c = grown_none c.args.self.now

pub returns-in-None-clause-marked : goal.returns-in-None-clause-marked
returns-in-None-clause-marked c =
    subst (λ m. IsMarked c.args.self.now c.args.memory m c.args.memory) (sym c.in-None.is)
    (record { within = c.requires.memory; words = λ a. refl; size = refl })

pub returns-in-Some-clause-marked : goal.returns-in-Some-clause-marked
returns-in-Some-clause-marked c =
    let lies : c.in-Some.a.0 < length (words_in c.args.self.now.memories.items c.args.memory) =
    subst (IsMarkIn (length (words_in c.args.self.now.memories.items c.args.memory))) c.in-Some.is c.requires.lies in
    some_two c.stored.result _ _ _ c.stored.ensures.grown c.stored.ensures.there (λ g n there. subst (λ m. IsMarked c.stored.new.self c.args.memory m n) (sym c.in-Some.is)
    (marked_so c.args.self.now c.stored.new.self c.args.memory n c.in-Some.a c.in-Some.v g c.requires.memory there lies))

pub stored-requires : goal.stored-requires
stored-requires c =
    subst (IsMarkIn (length (words_in c.args.self.now.memories.items c.args.memory))) c.in-Some.is c.requires.lies
