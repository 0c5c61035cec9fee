-- Processes that keep to the rules of monitors: what they do next fits where it stands, INTERNAL procedures and RECOVER
-- parts run under an ENTRY procedure of their monitor, and no monitor is held twice.
use Rattle.std.proofs.Common.{◌≡◌, ◌⊎◌, ℕ, Bool, true, false, List, [], ◌∷◌}
use Rattle.std.specs.Prelude.{⊤}
use Rattle.program.specs.declared.kinds.Member.{Member}
use Rattle.program.specs.declared.kinds.Role.{Role}
use Rattle.program.specs.declared.kinds.Role.TheVariants.{Entry, Internal, Recover, External, Main}
use Rattle.program.specs.Trees.{Block, Part, NoPart, SomePart, Program, followed_by}
use Rattle.program.specs.Scope.{Scope}
use Rattle.program.specs.Typing.{BlockFits}
use Rattle.meaning.specs.Labels.{End, Kind, Notify, Broadcast, Label, Alone, Enters, Resumes, Exits, Waits, Notifies}
use Rattle.meaning.specs.Labels.{Broadcasts, Abandons}
use Rattle.meaning.specs.Table.{Hold, HeldBy, enterable}
use Rattle.meaning.specs.Processes.{Frame, Caller, Process, Entering, Before, Suspended, Joining, Returning, Failing}
use Rattle.meaning.specs.Processes.{Dying, Leaving, Over, callers_monitors, all_monitors, holds}
use Rattle.meaning.specs.Offers.{Effect, Puts, Makes, Offer, Rests, Does, Takes, MakesOne, ClaimsOne, JoinsOne}
use Rattle.meaning.specs.Offers.{NotifiesSome, NotifiesAll}
use Rattle.words.specs.Updates.{put}
use Rattle.meaning.proofs.Members.{IsIn, IsDistinct}

-- these statements fit into a procedure of this role
abbrev pub RestFits : Program → Role → Block → Type 0
RestFits p role b = (s : Scope) × (s.program ≡ p) × (s.role ≡ role) × BlockFits s b

-- a procedure of this role runs over these callers
abbrev pub StandsOn : Role → List Caller → Type 0
StandsOn (Entry m) cs = ⊤
StandsOn (Internal m) cs = IsIn (callers_monitors cs) m
StandsOn (Recover m) cs = IsIn (callers_monitors cs) m
StandsOn External cs = ⊤
StandsOn Main cs = cs ≡ []

abbrev pub CallersFit : Program → List Caller → Type 0
CallersFit p [] = ⊤
CallersFit p (c ∷ cs) = RestFits p c.frame.role c.frame.rest × StandsOn c.frame.role cs × CallersFit p cs

abbrev pub StackFits : Program → Frame → List Caller → Type 0
StackFits p f cs = RestFits p f.role f.rest × StandsOn f.role cs × CallersFit p cs

-- what an ABORTED part leads to
abbrev pub PartLeads : Program → Frame → Part → Type 0
PartLeads p f NoPart = ⊤
PartLeads p f (SomePart b) = RestFits p f.role (followed_by b f.rest)

abbrev pub ProcessFits : Program → Process → Type 0
ProcessFits p (Entering m f cs) = (f.role ≡ Entry m) × StackFits p f cs × IsDistinct (callers_monitors cs)
ProcessFits p (Before entered f cs) = StackFits p f cs × IsDistinct (all_monitors f cs)
ProcessFits p (Suspended c f cs) =
    IsIn (all_monitors f cs) c.monitor × StackFits p f cs × IsDistinct (all_monitors f cs)
ProcessFits p (Joining child into part f cs) = PartLeads p f part × StackFits p f cs × IsDistinct (all_monitors f cs)
ProcessFits p (Returning z cs) = CallersFit p cs × IsDistinct (callers_monitors cs)
ProcessFits p (Failing fault entered f cs) = IsDistinct (all_monitors f cs)
ProcessFits p (Dying cause ms) = IsDistinct ms
ProcessFits p (Leaving z) = ⊤
ProcessFits p (Over end) = ⊤

-- a process that keeps to the rules, and holds these monitors
abbrev pub Keeps : Program → List ℕ → Process → Type 0
Keeps p hs b = ProcessFits p b × (holds b ≡ hs)

-- what an action changes of who holds which monitor
pub data Change : Type 0 where
  Same : Change
  Taken : (monitor : ℕ) → Change
  Given : (monitor : ℕ) (is_abandoned : Bool) → Change

abbrev pub change_of : Label → Change
change_of (Enters m w) = Taken m
change_of (Resumes m w) = Taken m
change_of (Exits m) = Given m false
change_of (Waits c) = Given c.monitor false
change_of (Abandons m) = Given m true
change_of other = Same

abbrev pub hold_after : ℕ → Change → (ℕ → Hold) → ℕ → Hold
hold_after q Same hold = hold
hold_after q (Taken m) hold = put hold m (HeldBy q)
hold_after q (Given m is_abandoned) hold = put hold m (enterable is_abandoned)

-- what is held before and after a change
abbrev pub Moves : Change → List ℕ → List ℕ → Type 0
Moves Same hs ks = ks ≡ hs
Moves (Taken m) hs ks = (n : ℕ) → (IsIn ks n → (n ≡ m) ⊎ IsIn hs n) × ((n ≡ m) ⊎ IsIn hs n → IsIn ks n)
Moves (Given m is_abandoned) hs ks =
    IsIn hs m × ((n : ℕ) → (IsIn ks n → (n ≡ m → ⊥) × IsIn hs n) × ((n ≡ m → ⊥) × IsIn hs n → IsIn ks n))

-- a monitor that is taken can be entered
abbrev pub Opens : Change → (ℕ → Hold) → Type 0
Opens Same hold = ⊤
Opens (Taken m) hold = (is_abandoned : Bool) × (hold m ≡ enterable is_abandoned)
Opens (Given m is_abandoned) hold = ⊤

-- a variable is changed by one that holds its monitor; a process that is made holds nothing
abbrev pub EffectFits : Program → List ℕ → Effect → Type 0
EffectFits p hs (Puts m n i z) = IsIn hs m
EffectFits p hs (Makes child q) = Keeps p [] q
EffectFits p hs other = ⊤

abbrev pub WaitsAt : Member → Process → Type 0
WaitsAt c (Suspended d f cs) = d ≡ c
WaitsAt c other = ⊥

-- neither a notify nor a broadcast
abbrev pub IsSilent : Kind → Type 0
IsSilent (Notify c resumed) = ⊥
IsSilent (Broadcast c resumed) = ⊥
IsSilent other = ⊤

-- who waits stands there afterwards; who notifies holds the monitor
abbrev pub LabelFits : List ℕ → Label → Process → Type 0
LabelFits hs (Waits c) b = WaitsAt c b
LabelFits hs (Notifies c resumed) b = IsIn hs c.monitor
LabelFits hs (Broadcasts c resumed) b = IsIn hs c.monitor
LabelFits hs (Alone kind) b = IsSilent kind
LabelFits hs other b = ⊤

-- an action of a process that holds these monitors, and stands here after it
pub record ActFits (p : Program) (hs : List ℕ) (l : Label) (e : Effect) (b : Process) : Type 0 where
  pub fits : ProcessFits p b
  pub moves : Moves (change_of l) hs (holds b)
  pub effect : EffectFits p hs e
  pub label : LabelFits hs l b

abbrev pub TakesFits : Program → List ℕ → ℕ → Process → Type 0
TakesFits p hs m b = ProcessFits p b × Moves (Taken m) hs (holds b)

abbrev pub OfferFits : Program → List ℕ → Offer → Type 0
OfferFits p hs Rests = ⊤
OfferFits p hs (Does l e b) = ActFits p hs l e b
OfferFits p hs (Takes l free abandoned) =
    (m : ℕ) × ((l ≡ Enters m) ⊎ (l ≡ Resumes m))
    × ((IsIn hs m → ⊥) → TakesFits p hs m free × TakesFits p hs m abandoned)
OfferFits p hs (MakesOne child b full) = Keeps p [] child × ((n : ℕ) → Keeps p hs (b n)) × Keeps p hs full
OfferFits p hs (ClaimsOne child b refused) = Keeps p hs b × Keeps p hs refused
OfferFits p hs (JoinsOne child b) = (end : End) → Keeps p hs (b end)
OfferFits p hs (NotifiesSome c b) = IsIn hs c.monitor × Keeps p hs b
OfferFits p hs (NotifiesAll c b) = IsIn hs c.monitor × Keeps p hs b
