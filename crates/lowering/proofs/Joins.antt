-- Lists that grow at their end.
use Rattle.std.proofs.Common.{◌≡◌, List, ◌++◌, ap, ◌∙◌, append_assoc}

-- two steps are one
pub joined : {A : Type 0} {n m : List A} (o a b : List A) → n ≡ o ++ a → m ≡ n ++ b → m ≡ o ++ (a ++ b)
joined o a b e f = f ∙ ap (λ l. l ++ b) e ∙ append_assoc o a b
