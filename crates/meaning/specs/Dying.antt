-- What a dying process offers, by the monitor that it abandons next and those that it holds after that.
use Rattle.std.specs.Prelude.{ℕ, List, Option, Some, None}
use Rattle.meaning.specs.Labels.{Cause, Aborted, Abandons, Ends}
use Rattle.meaning.specs.Offers.{Offer, Does, Nothing}
use Rattle.meaning.specs.Processes.{Dying, Over}

-- it abandons the monitor m, if there is one more, and else it ends
abbrev pub offer_dying : Option ℕ → Cause → List ℕ → Offer
offer_dying (Some m) cause left = Does (Abandons m) Nothing (Dying cause left)
offer_dying None cause left = Does (Ends (Aborted cause)) Nothing (Over (Aborted cause))
