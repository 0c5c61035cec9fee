use Rattle.std.proofs.Common.{All, subst}
use Rattle.std.proofs.lemmas.List.{take_all}
use Rattle.std.proofs.lemmas.List.Elements.{All-more}
use Rattle.program.specs.Views.{program_of}
use Rattle.proof_exploration.specs.Blocking.{IsLive}
use Rattle.source_search.specs.Packed.{unpacked}
use Rattle.source_search.specs.declared.packed.Packed.{Packed}
use Rattle.source_search.proofs.Lively.{live_one, rests_one}
use Rattle.source_search.proofs.kept.Kept.first_rest.Goals as goal

pub loop-place-preserved : goal.loop-place-preserved
loop-place-preserved c =
    let P = λ (x : Packed). IsLive (program_of c.args.checked.now.tree) (unpacked c.args.self.now.parts x) c.args.process in
    All-more P c.args.states.now c.loop-place.place c.index-states-place.result c.loop-place-test.true
    c.loop-place.invariant (subst P c.index-states-place.is (rw c.if-branch.false at c.in_ok-rests_in.ensures))

pub returns-then-branch : goal.returns-then-branch
returns-then-branch c =
    rests_one (program_of c.args.checked.now.tree) c.args.self.now.parts c.args.states.now c.loop-place.place
    c.index-states-place.result c.args.process c.loop-place-test.true c.index-states-place.is
    (rw c.if-branch.true at c.in_ok-rests_in.ensures)

pub returns : goal.returns
returns c =
    let p = program_of c.args.checked.now.tree in
    let parts = c.args.self.now.parts in
    live_one p parts c.args.states.now c.args.process
    (subst (All (λ x. IsLive p (unpacked parts x) c.args.process))
    (take_all c.loop-place.place c.args.states.now c.loop-place-test.false) c.loop-place.invariant)
