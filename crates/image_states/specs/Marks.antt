-- Words of which one was changed.
use Rattle.std.specs.Prelude.{ℕ, Option, Some, None}
use Rattle.words.specs.Updates.{put}
use Rattle.words.specs.declared.mem.Addr.{Addr}

-- the words with one changed, if one is
abbrev pub marked : Option (Addr × ℕ) → (ℕ → ℕ) → ℕ → ℕ
marked None word = word
marked (Some (a, v)) word = put word a.0 v
