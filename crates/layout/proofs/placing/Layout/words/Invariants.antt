use Rattle.std.proofs.Common.{◌≡◌, ◌++◌, drop, map}
use Rattle.layout.proofs.placing.Layout.words.Given as goal

abbrev pub invariant-loop-place : goal.invariant-loop-place
invariant-loop-place l =
    l.words.items ++ map (λ m. m.words) (drop l.place-index l.place-items) ≡ map (λ m. m.words) l.place-items
