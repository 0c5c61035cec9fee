-- Where workers park.
use Rattle.std.specs.Prelude.{ℕ, ◌≡◌, List, slice_get, Some}
use Rattle.crossbeam_utils.specs.declared.cache_padded.CachePadded.{CachePadded}
use Rattle.crossbeam_utils.specs.Padded.{padded_value}
use Rattle.workers.specs.declared.parker.Parker.{Parker}

-- each parker is that of the thread with its number
abbrev pub AreNumbered : List (CachePadded Parker) → Type 0
AreNumbered parkers = (t : ℕ) (p : CachePadded Parker) → slice_get parkers t ≡ Some p → (padded_value p).thread ≡ t
