-- Offers that can be taken up whatever the others do.
use Rattle.meaning.specs.Labels.{Label, Alone, Stores, Exits, Waits, Abandons, Ends}
use Rattle.meaning.specs.Offers.{Offer, Does, MakesOne, ClaimsOne, NotifiesSome, NotifiesAll}
use Rattle.std.specs.Prelude.{⊤}

-- the table allows each action of this label
abbrev pub IsFreeLabel : Label → Type 0
IsFreeLabel (Alone kind) = ⊤
IsFreeLabel (Stores m) = ⊤
IsFreeLabel (Exits m) = ⊤
IsFreeLabel (Waits c) = ⊤
IsFreeLabel (Abandons m) = ⊤
IsFreeLabel (Ends end) = ⊤
IsFreeLabel other = ⊥

-- the offer can be taken up, whatever the others do
abbrev pub IsFree : Offer → Type 0
IsFree (Does label effect after) = IsFreeLabel label
IsFree (MakesOne child after full) = ⊤
IsFree (ClaimsOne child after refused) = ⊤
IsFree (NotifiesSome c after) = ⊤
IsFree (NotifiesAll c after) = ⊤
IsFree other = ⊥
