use Rattle.std.proofs.Common.{◌≡◌, ◌∙◌, Some, ap, length, slice_get}
use Rattle.std.proofs.lemmas.List.{length-set}
use Rattle.std.proofs.lemmas.Result.{IfOk-weaker}
use Rattle.image_states.proofs.Within.{its_size, not_missing}
use Rattle.image_states.proofs.parts.Parts.with_word.Goals as goal

pub returns-clause-size : goal.returns-clause-size
returns-clause-size c =
    let there : slice_get c.args.self.now.memories.items c.args.number ≡ Some c.in-Some.old.now =
    rw c.in-Some.is at c.memory.ensures in
    IfOk-weaker c.with_word.result _ _ (λ m is. ap length is ∙ length-set c.in-Some.old.now c.args.a.0 c.args.v
    ∙ its_size c.args.self.now c.args.number c.requires c.in-Some.old.now there) c.with_word.ensures

pub unreachable-requires : goal.unreachable-requires
unreachable-requires c =
    not_missing c.args.self.now c.args.number c.requires (rw c.in-None.is at c.memory.ensures)
