-- Which visible action a process takes next, by its offer.
use Rattle.std.specs.Prelude.{ℕ, ◌+◌, List, Option, Some, None, nat_lt, if◌then◌else◌}
use Rattle.program.specs.declared.kinds.Member.{Member}
use Rattle.meaning.specs.Labels.{Kind, kind_of}
use Rattle.meaning.specs.Labels as L
use Rattle.source_offers.specs.declared.offers.Label.{Label}
use Rattle.source_offers.specs.declared.offers.Offered.{Offered}
use Rattle.source_offers.specs.declared.offers.Offered.TheVariants.{Rests, Does, Makes, Claims, NotifiesSome}
use Rattle.source_offers.specs.declared.offers.Offered.TheVariants.{NotifiesAll}
use Rattle.source_offers.specs.declared.next_action.Offer.{Offer}
use Rattle.source_offers.specs.declared.next_action.Offer.TheVariants.{Own, Enters, Resumes, Joins}
use Rattle.source_offers.specs.Offered.{label_of}

-- the action that the code's label is
abbrev pub visible_label : Label → Kind
visible_label label = kind_of (label_of label)

-- the visible action of a process with this offer, where there can be so many processes and so many were made; a notify
-- or a broadcast resumes these
abbrev pub visible_own : Offered → (most made : ℕ) → List ℕ → Option Kind
visible_own Rests most made resumed = None
visible_own (Does label effect) most made resumed = Some (visible_label label)
visible_own (Makes child into) most made resumed = if nat_lt made most then Some (L.Fork (made + 1)) else None
visible_own (Claims child into aborted) most made resumed = Some (L.Claim child)
visible_own (NotifiesSome c) most made resumed = Some (L.Notify c resumed)
visible_own (NotifiesAll c) most made resumed = Some (L.Broadcast c resumed)

-- the visible action, if it is one; a fork makes a process of the number that comes next
abbrev pub visible_kind : Offer → (most made : ℕ) → List ℕ → Option Kind
visible_kind (Own o) most made resumed = visible_own o most made resumed
visible_kind (Enters m) most made resumed = Some (L.Enter m)
visible_kind (Resumes m) most made resumed = Some (L.Resume m)
visible_kind (Joins child into aborted) most made resumed = Some (L.Join child)

-- the condition that it notifies or broadcasts
abbrev pub resumed_own : Offered → Option Member
resumed_own (NotifiesSome c) = Some c
resumed_own (NotifiesAll c) = Some c
resumed_own other = None

-- the condition whose waiters an offer resumes, if it resumes any
abbrev pub resumed_only : Offer → Option Member
resumed_only (Own o) = resumed_own o
resumed_only other = None
