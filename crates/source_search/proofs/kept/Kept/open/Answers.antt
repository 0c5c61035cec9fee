use Rattle.std.proofs.Common.{sym, ◌∙◌}
use Rattle.std.proofs.lemmas.Result.{IfOk-weaker}
use Rattle.program.specs.Views.{program_of}
use Rattle.source_states.specs.States.{state_of}
use Rattle.source_search.specs.Found.{interleaves}
use Rattle.source_search.specs.Kept.{states_of}
use Rattle.source_search.specs.Packed.{IsPackedOf, unpacked}
use Rattle.source_search.proofs.Coverage.{covered_like}
use Rattle.source_search.proofs.Keeping.{seen_covered, seen_kept}
use Rattle.source_search.proofs.Packing.{sound_still}
use Rattle.source_search.proofs.kept.Kept.open.Goals as goal

pub returns-then-interleaves-clause-seen : goal.returns-then-interleaves-clause-seen
returns-then-interleaves-clause-seen c = IfOk-weaker c.keep.result _ _ (λ b h e.
    seen_kept (program_of c.args.checked.now.tree) (interleaves c.args.outside) (states_of c.keep.new.self)
    (state_of c.args.state) (h e))
    c.keep.ensures.kept

pub returns-in_default-clause-sound : goal.returns-in_default-clause-sound
returns-in_default-clause-sound c =
    sound_still c.args.self.now.parts c.pack.new.self c.in_ok-packed.ensures.grown c.args.self.now.states.items
    c.requires.sound

pub cover-requires-clause-sound : goal.cover-requires-clause-sound
cover-requires-clause-sound c =
    sound_still c.args.self.now.parts c.pack.new.self c.in_ok-packed.ensures.grown c.args.self.now.states.items
    c.requires.sound

pub cover-requires-clause-within : goal.cover-requires-clause-within
cover-requires-clause-within c =
    let are : IsPackedOf c.pack.new.self c.in-Some.packed (state_of c.args.state) =
    rw c.in-Some.is at c.in_ok-packed.ensures.packed in
    are.within

pub returns-clause-seen : goal.returns-clause-seen
returns-clause-seen c =
    let p = program_of c.args.checked.now.tree in
    let kept = states_of c.cover.new.self in
    let s = state_of c.args.state in
    let are : IsPackedOf c.pack.new.self c.in-Some.packed s = rw c.in-Some.is at c.in_ok-packed.ensures.packed in
    IfOk-weaker c.cover.result _ _ (λ b h e.
    seen_covered p (interleaves c.args.outside) kept s (sym c.interleaves.ensures ∙ c.if-interleaves.false)
    (covered_like p kept (unpacked c.pack.new.self c.in-Some.packed) s (h e) are.like))
    c.cover.ensures.covered
