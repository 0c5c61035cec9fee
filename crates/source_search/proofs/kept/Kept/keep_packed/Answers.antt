use Rattle.std.proofs.Common.{subst}
use Rattle.source_search.specs.Packed.{HasKey}
use Rattle.source_search.proofs.Keeping.{kept_key}
use Rattle.source_search.proofs.kept.Kept.keep_packed.Goals as goal

pub returns-then-is_kept-clause-kept : goal.returns-then-is_kept-clause-kept
returns-then-is_kept-clause-kept c = λ e.
    kept_key c.args.self.now.parts c.args.self.now.states.items c.args.packed
    (subst (λ xs. HasKey xs c.args.packed) c.as_slice.ensures.value (c.is_kept.ensures c.if-is_kept.true))
