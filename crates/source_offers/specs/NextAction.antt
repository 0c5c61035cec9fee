-- What the code finds that a process offers wherever it stands, as an offer of the meaning.
use Rattle.std.specs.Prelude.{Some}
use Rattle.program.specs.Trees.{Program}
use Rattle.meaning.specs.Labels.{Enters, Resumes}
use Rattle.meaning.specs.Processes.{goes_on, recovers}
use Rattle.meaning.specs.Offers as O
use Rattle.meaning.specs.Offers.{Takes, JoinsOne, after_join}
use Rattle.source_offers.specs.declared.next_action.Offer.{Offer as OfferOf}
use Rattle.source_offers.specs.declared.next_action.Offer.TheVariants.{Own as Own', Enters as Enters'}
use Rattle.source_offers.specs.declared.next_action.Offer.TheVariants.{Resumes as Resumes', Joins as Joins'}
use Rattle.source_offers.specs.declared.process.Process.{Process as ProcessOf}
use Rattle.source_offers.specs.Frames.{frame_of, callers_of}
use Rattle.source_offers.specs.Stages.{part_at}
use Rattle.source_offers.specs.Offered.{offer_with}

-- an offer, with the process that made it
abbrev pub offer_of : Program → OfferOf → ProcessOf → O.Offer
offer_of p (Own' o) q = offer_with o q
offer_of p (Enters' m) q =
    Takes (Enters m) (goes_on (Some m) (frame_of q.frame) (callers_of q.callers.items))
    (recovers p m (frame_of q.frame) (callers_of q.callers.items))
offer_of p (Resumes' m) q =
    Takes (Resumes m) (goes_on (Some m) (frame_of q.frame) (callers_of q.callers.items))
    (recovers p m (frame_of q.frame) (callers_of q.callers.items))
offer_of p (Joins' child into aborted) q =
    JoinsOne child (after_join into (part_at aborted) (frame_of q.frame) (callers_of q.callers.items))
