use Rattle.std.proofs.Common.{◌∷◌, [], length, subst, sym}
use Rattle.words.specs.declared.outcome.Cause.TheVariants.{Killed as Killed'}
use Rattle.locals.specs.Threads.{Dies}
use Rattle.image_states.specs.Nexts.{IsBase}
use Rattle.image_states.specs.Room.{AreThreads}
use Rattle.image_states.proofs.Growing.{more_grown}
use Rattle.image_states.proofs.Turned.{kill_done}
use Rattle.image_states.proofs.Within.{one_thread}
use Rattle.image_states.proofs.parts.Parts.kill.Goals as goal

pub returns-in-None-clause-more : goal.returns-in-None-clause-more
returns-in-None-clause-more c =
    more_grown c.args.self.now c.stand_killed.new.self c.args.found.now.items c.in_ok-stand_killed.ensures.grown

pub returns-in-None-clause-why : goal.returns-in-None-clause-why
returns-in-None-clause-why c = rw c.in-None.is at c.in_ok-stand_killed.ensures.full

pub push_killed-requires : goal.push_killed-requires
push_killed-requires c =
    let x = c.args.packed.now in
    let base : IsBase c.args.image.now c.stand_killed.new.self x c.args.k x.memory (Dies Killed') c.in-Some.state =
    rw c.in-Some.is at c.in_ok-stand_killed.ensures.stands in
    subst (λ ns. AreThreads (length ns) (c.args.t ∷ [])) (sym base.moved.places)
    (one_thread c.args.self.now x c.requires.within c.args.k c.args.t c.requires.number c.requires.made)

pub returns-in_ok-push_killed-in-Some-clause-more : goal.returns-in_ok-push_killed-in-Some-clause-more
returns-in_ok-push_killed-in-Some-clause-more c = record {
  parts = c.in_ok-stand_killed.ensures.grown;
  nexts = c.in_ok-push_killed-in-Some.ensures.longer;
}

pub returns-in_ok-push_killed-in-Some-clause-done : goal.returns-in_ok-push_killed-in-Some-clause-done
returns-in_ok-push_killed-in-Some-clause-done c =
    let x = c.args.packed.now in
    let state = c.in-Some.state in
    let base : IsBase c.args.image.now c.stand_killed.new.self x c.args.k x.memory (Dies Killed') state =
    rw c.in-Some.is at c.in_ok-stand_killed.ensures.stands in
    λ none. kill_done c.args.image.now c.args.self.now c.stand_killed.new.self x state c.args.k c.args.t c.push_killed.new.found.items
    c.requires.number c.in_ok-stand_killed.ensures.grown c.requires.within base c.in_ok-push_killed-in-Some.ensures.killed
