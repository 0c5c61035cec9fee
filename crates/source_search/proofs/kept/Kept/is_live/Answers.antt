use Rattle.program.specs.Views.{program_of}
use Rattle.source_search.specs.Kept.{states_of}
use Rattle.source_search.specs.Packed.{unpacked}
use Rattle.source_search.proofs.Lively.{comes_still, live_on}
use Rattle.source_search.proofs.Packing.{within_still}
use Rattle.source_search.proofs.Remembered.{all_still}
use Rattle.source_search.proofs.kept.Kept.is_live.Goals as goal

pub goes_by_choice-requires-clause-within : goal.goes_by_choice-requires-clause-within
goes_by_choice-requires-clause-within c = within_still c.args.self.now.parts c.goes_on.new.self.parts
    c.in_ok-goes_on.ensures.grown c.args.packed.now c.requires.within

pub returns-then-branch-2-clause-live : goal.returns-then-branch-2-clause-live
returns-then-branch-2-clause-live c = λ e.
    live_on (program_of c.args.checked.now.tree) c.args.aim (states_of c.args.self.now)
    (unpacked c.args.self.now.parts c.args.packed.now) c.requires.live (c.in_ok-goes_on.ensures.comes c.if-branch-2.true)

pub returns-clause-known : goal.returns-clause-known
returns-clause-known c = all_still c.goes_on.new.self.parts c.goes_by_choice.new.self.parts c.in_ok-live.ensures.grown
    (program_of c.args.checked.now.tree) c.goes_on.new.memo c.in_ok-goes_on.ensures.known

pub returns-clause-live : goal.returns-clause-live
returns-clause-live c = λ e.
    let p = program_of c.args.checked.now.tree in
    live_on p c.args.aim (states_of c.args.self.now) (unpacked c.args.self.now.parts c.args.packed.now) c.requires.live
    (comes_still p c.args.self.now.parts c.goes_on.new.self.parts c.in_ok-goes_on.ensures.grown c.args.packed.now
    c.requires.within (states_of c.args.self.now) (states_of c.goes_on.new.self) c.in_ok-goes_on.ensures.same
    (c.in_ok-live.ensures.comes e))
