use Rattle.std.proofs.Common.{◌≡◌, [], ◌∷◌, List, Option, Some, None, IfNone, slice_get}
use Rattle.locals.proofs.stack.Stack.top.Goals as goal

empty_by : {A : Type 0} → (xs : List A) (o : Option A) → o ≡ slice_get xs 0 → IfNone o (xs ≡ [])
empty_by xs (Some x) e = tt
empty_by [] None e = λ i. []
empty_by (x ∷ xs) None e = absurd (cc)

pub returns-clause-none : goal.returns-clause-none
returns-clause-none g c = empty_by c.args.self.now c.below_top.result c.below_top.ensures
