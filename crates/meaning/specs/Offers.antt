-- What a process does next, for itself: it is determined but for what it learns of the others.
use Rattle.std.specs.Prelude.{ℕ, ◌≡◌, ◌⊎◌, Bool, List, [], ◌∷◌, Some, if◌then◌else◌}
use Rattle.program.specs.Trees.{Program}
use Rattle.meaning.specs.Values.{Variables}
use Rattle.meaning.specs.Labels.{End, Ended, Aborted, Label, Alone, Forks, FindsFull, Claims, FindsClaimed, Joins}
use Rattle.meaning.specs.Labels.{Enters, Resumes, Notifies, Broadcasts, Abandons, Ends}
use Rattle.meaning.specs.Labels as L
use Rattle.meaning.specs.Processes.{Process, Entering, Before, Suspended, Joining, Returning, Failing, Dying, Leaving}
use Rattle.meaning.specs.Processes.{Over, goes_on, recovers, hands_over}
pub use Rattle.meaning.specs.Offering.{Effect, Nothing, Puts, Writes, Makes, Offer, Rests, Does, Takes, MakesOne}
pub use Rattle.meaning.specs.Offering.{ClaimsOne, JoinsOne, NotifiesSome, NotifiesAll}
pub use Rattle.meaning.specs.Statements.{dies, faults, with_value, with_values, with_index, answers, chosen_block}
pub use Rattle.meaning.specs.Statements.{joined_part, after_join, claims, assigns, return_value, statement_offer}
pub use Rattle.meaning.specs.Statements.{rest_offer}

-- what a process offers to do next
abbrev pub offer : Program → Variables → Process → Offer
offer p v (Entering m f callers) = Takes (Enters m) (goes_on (Some m) f callers) (recovers p m f callers)
offer p v (Before entered f callers) = rest_offer p v f callers f.rest
offer p v (Suspended c f callers) = Takes (Resumes c.monitor) (goes_on (Some c.monitor) f callers)
    (recovers p c.monitor f callers)
offer p v (Joining child into part f callers) = JoinsOne child (after_join into part f callers)
offer p v (Returning z callers) = Does (Alone L.Return) Nothing (hands_over z callers)
offer p v (Failing fault entered f callers) = faults fault f callers
offer p v (Dying cause []) = Does (Ends (Aborted cause)) Nothing (Over (Aborted cause))
offer p v (Dying cause (m ∷ ms)) = Does (Abandons m) Nothing (Dying cause ms)
offer p v (Leaving z) = Does (Ends (Ended z)) Nothing (Over (Ended z))
offer p v (Over end) = Rests

-- an offer is taken up: by an action of this label, with this effect, after which the process stands here
abbrev pub TakesUp : Offer → Label → Effect → Process → Type 0
TakesUp Rests label effect after = ⊥
TakesUp (Does l e q) label effect after = (label ≡ l) × (effect ≡ e) × (after ≡ q)
TakesUp (Takes l free abandoned) label effect after =
    (was_abandoned : Bool) × (label ≡ l was_abandoned) × (effect ≡ Nothing)
    × (after ≡ (if was_abandoned then abandoned else free))
TakesUp (MakesOne child q full) label effect after =
    ((n : ℕ) × (label ≡ Forks n) × (effect ≡ Makes n child) × (after ≡ q n))
    ⊎ ((label ≡ FindsFull) × (effect ≡ Nothing) × (after ≡ full))
TakesUp (ClaimsOne child q refused) label effect after =
    ((label ≡ Claims child) × (effect ≡ Nothing) × (after ≡ q))
    ⊎ ((label ≡ FindsClaimed child) × (effect ≡ Nothing) × (after ≡ refused))
TakesUp (JoinsOne child q) label effect after = (end : End) × (label ≡ Joins child end) × (effect ≡ Nothing)
    × (after ≡ q end)
TakesUp (NotifiesSome c q) label effect after = (resumed : List ℕ) × (label ≡ Notifies c resumed) × (effect ≡ Nothing)
    × (after ≡ q)
TakesUp (NotifiesAll c q) label effect after = (resumed : List ℕ) × (label ≡ Broadcasts c resumed)
    × (effect ≡ Nothing) × (after ≡ q)
