-- What the code finds that a process offers, as an offer of the meaning.
use Rattle.std.specs.Prelude.{None, pos}
use Rattle.words.specs.declared.outcome.Fault.TheVariants.{HandleNotJoinable, ProcessTableFull}
use Rattle.meaning.specs.Labels as L
use Rattle.meaning.specs.Labels.{Label, Alone, Stores, Exits, Waits, Abandons, Ends}
use Rattle.meaning.specs.Processes.{Joining, goes_on, with_local}
use Rattle.meaning.specs.Offers as O
use Rattle.meaning.specs.Offers.{Effect, Offer, Rests, Does, MakesOne, ClaimsOne, NotifiesSome, NotifiesAll, dies}
use Rattle.source_offers.specs.declared.offers.Label.{Label as LabelOf}
use Rattle.source_offers.specs.declared.offers.Label.TheVariants.{Assigns as Assigns', Tests as Tests', Calls as Calls'}
use Rattle.source_offers.specs.declared.offers.Label.TheVariants.{Returns as Returns', Prints as Prints'}
use Rattle.source_offers.specs.declared.offers.Label.TheVariants.{Fails as Fails', Stores as Stores', Exits as Exits'}
use Rattle.source_offers.specs.declared.offers.Label.TheVariants.{Waits as Waits', Abandons as Abandons', Ends as Ends'}
use Rattle.source_offers.specs.declared.offers.Effect.{Effect as EffectOf}
use Rattle.source_offers.specs.declared.offers.Effect.TheVariants.{Nothing as Nothing', Puts as Puts'}
use Rattle.source_offers.specs.declared.offers.Effect.TheVariants.{Writes as Writes'}
use Rattle.source_offers.specs.declared.offers.Offered.{Offered}
use Rattle.source_offers.specs.declared.offers.Offered.TheVariants.{Rests as Rests', Does as Does', Makes as Makes'}
use Rattle.source_offers.specs.declared.offers.Offered.TheVariants.{Claims as Claims', NotifiesSome as NotifiesSome'}
use Rattle.source_offers.specs.declared.offers.Offered.TheVariants.{NotifiesAll as NotifiesAll'}
use Rattle.source_offers.specs.declared.process.Process.{Process as ProcessOf}
use Rattle.source_offers.specs.Frames.{frame_of, callers_of}
use Rattle.source_offers.specs.Stages.{end_of, part_at, process_of}

-- what an offer does by itself
abbrev pub label_of : LabelOf → Label
label_of Assigns' = Alone L.Assign
label_of Tests' = Alone L.Test
label_of Calls' = Alone L.Call
label_of Returns' = Alone L.Return
label_of (Prints' z) = Alone (L.Print z)
label_of (Fails' fault) = Alone (L.Fails fault)
label_of (Stores' m) = Stores m
label_of (Exits' m) = Exits m
label_of (Waits' c) = Waits c
label_of (Abandons' m) = Abandons m
label_of (Ends' end) = Ends (end_of end)

-- what an offer changes
abbrev pub effect_of : EffectOf → Effect
effect_of Nothing' = O.Nothing
effect_of (Puts' place z) = O.Puts place.monitor place.member place.index z
effect_of (Writes' z) = O.Writes z

-- an offer, with the process that made it
abbrev pub offer_with : Offered → ProcessOf → Offer
offer_with Rests' q = Rests
offer_with (Does' label effect) q = Does (label_of label) (effect_of effect) (process_of q)
offer_with (Makes' child into) q =
    MakesOne (process_of child.value)
    (λ n. goes_on None (with_local (frame_of q.frame) into (pos n)) (callers_of q.callers.items))
    (dies ProcessTableFull (frame_of q.frame) (callers_of q.callers.items))
offer_with (Claims' child into aborted) q =
    ClaimsOne child (Joining child into (part_at aborted) (frame_of q.frame) (callers_of q.callers.items))
    (dies HandleNotJoinable (frame_of q.frame) (callers_of q.callers.items))
offer_with (NotifiesSome' c) q = NotifiesSome c (process_of q)
offer_with (NotifiesAll' c) q = NotifiesAll c (process_of q)
