use Rattle.std.proofs.Common.{◌≡◌, subst, sym, true}
use Rattle.std.specs.Prelude.{IfOk}
use Rattle.program.specs.Views.{program_of}
use Rattle.source_search.specs.Living.{IsLiveTo}
use Rattle.source_search.specs.Packed.{unpacked}
use Rattle.source_search.proofs.Ended.{end_here}
use Rattle.source_search.proofs.kept.Kept.is_there.Goals as goal

pub returns-in-Act : goal.returns-in-Act
returns-in-Act c =
    let s = unpacked c.args.self.now.parts c.args.packed.now in
    subst (λ aim. IfOk c.are_able.result (λ b. b ≡ true → IsLiveTo (program_of c.args.checked.now.tree) aim s))
    (sym c.in-Act.is) c.are_able.ensures

pub returns-in-End : goal.returns-in-End
returns-in-End c = λ e.
    let p = program_of c.args.checked.now.tree in
    let s = unpacked c.args.self.now.parts c.args.packed.now in
    subst (λ aim. IsLiveTo p aim s) (sym c.in-End.is) (end_here p s (c.are_over.ensures.over e))
