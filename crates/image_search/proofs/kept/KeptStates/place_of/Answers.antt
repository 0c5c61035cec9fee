use Rattle.std.proofs.Common.{subst}
use Rattle.std.specs.Prelude.{IfSome}
use Rattle.image_search.specs.Kept.{HasKeyAt}
use Rattle.image_search.proofs.kept.KeptStates.place_of.Goals as goal

pub returns : goal.returns
returns c = subst (λ xs. IfSome c.find.result (λ n. HasKeyAt xs n c.args.packed.now)) c.as_slice.ensures.value c.find.ensures
