use Rattle.std.proofs.Common.{subst}
use Rattle.image_search.specs.Kept.{HasKey}
use Rattle.image_search.proofs.Keeping.{more_none}
use Rattle.image_search.proofs.kept.KeptStates.keep.Goals as goal

pub returns-then-is_kept-clause-more : goal.returns-then-is_kept-clause-more
returns-then-is_kept-clause-more c = more_none c.args.self.now

pub returns-then-is_kept-clause-kept : goal.returns-then-is_kept-clause-kept
returns-then-is_kept-clause-kept c =
    subst (λ xs. HasKey xs c.args.packed) c.as_slice.ensures.value (c.is_kept.ensures c.if-is_kept.true)
