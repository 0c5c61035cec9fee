-- How many buckets there can be.
use Rattle.std.specs.Prelude.{ℕ, List, [], ◌∷◌, IsTrue}
use Rattle.buckets.specs.Places.{names}

-- the powers of two from 1 to 256
abbrev pub bucket_counts : List ℕ
bucket_counts = 1 ∷ 2 ∷ 4 ∷ 8 ∷ 16 ∷ 32 ∷ 64 ∷ 128 ∷ 256 ∷ []

-- there can be so many buckets
abbrev pub IsBucketCount : ℕ → Type 0
IsBucketCount n = IsTrue (names bucket_counts n)
