-- What a loop has gathered.
use Rattle.std.specs.Prelude.{List, [], ◌∷◌}

-- elements put before a tree, the first one first
abbrev pub chain : {X A : Type 0} → (X → A → A) → List X → A → A
chain add [] later = later
chain add (x ∷ xs) later = add x (chain add xs later)
