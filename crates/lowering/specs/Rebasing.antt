-- Code within other code.
use Rattle.std.specs.Prelude.{◌≡◌, ℕ, List, ◌++◌, length}
use Rattle.lowering.specs.declared.mark.Marked.{Marked}

-- a part stands in all of it from a place on
pub record StandsFrom (all : List Marked) (place : ℕ) (part : List Marked) : Type 0 where
  pub front : List Marked
  pub back : List Marked
  pub is : all ≡ front ++ (part ++ back)
  pub at : length front ≡ place
