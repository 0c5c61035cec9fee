use Rattle.std.proofs.Common.{subst}
use Rattle.source_search.specs.Packed.{HasKey}
use Rattle.source_search.proofs.kept.Kept.is_noted.Goals as goal

pub returns : goal.returns
returns c = λ e. subst (λ xs. HasKey xs c.args.packed.now) c.as_slice.ensures.value (c.is_kept.ensures e)
