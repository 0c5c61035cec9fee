use Rattle.std.proofs.Common.{Some, ap, ◌∙◌}
use Rattle.std.proofs.lemmas.Option.{IfSome_then}
use Rattle.std.proofs.lemmas.Result.{IfOk-weaker}
use Rattle.image_states.proofs.parts.Parts.store.Goals as goal

pub memory_number-requires : goal.memory_number-requires
memory_number-requires c = c.in_ok-memory.ensures.size

pub returns-clause-there : goal.returns-clause-there
returns-clause-there c =
    IfOk-weaker c.memory_number.result _ _
    (λ o h. IfSome_then o h (λ n there. there ∙ ap (λ ws. Some ws) c.in_ok-memory.ensures.is))
    c.memory_number.ensures.there
