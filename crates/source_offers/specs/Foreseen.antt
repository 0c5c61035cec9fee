-- What a process does next, as far as where it stands tells.
use Rattle.std.specs.Prelude.{◌≡◌, ⊤}
use Rattle.meaning.specs.Offers.{Offer, Does, NotifiesSome, NotifiesAll}
use Rattle.meaning.specs.Processes.{Process}
use Rattle.source_offers.specs.declared.foreseeing.Foreseen.{Foreseen}
use Rattle.source_offers.specs.declared.foreseeing.Foreseen.TheVariants.{Acts, Notifies, Broadcasts, Unknown}

-- one action of the process's own
abbrev pub IsOneAction : Offer → Type 0
IsOneAction (Does label effect after) = ⊤
IsOneAction other = ⊥

-- this offer was foreseen
abbrev pub IsForeseen : Foreseen → Offer → Type 0
IsForeseen Acts o = IsOneAction o
IsForeseen (Notifies c) o = (after : Process) × (o ≡ NotifiesSome c after)
IsForeseen (Broadcasts c) o = (after : Process) × (o ≡ NotifiesAll c after)
IsForeseen Unknown o = ⊤
