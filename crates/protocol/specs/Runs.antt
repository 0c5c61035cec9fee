-- Runs of moves, what they carry in order, and what is owed to them.
use Rattle.std.specs.Prelude.{◌≡◌, ℕ, ◌<◌, ◌≤◌, Bool, true, false, Some, None, List, [], ◌∷◌, ◌⊎◌, length}
use Rattle.words.specs.declared.version.ImageVersion.{ImageVersion}
use Rattle.words.specs.Versions.{most_of}
use Rattle.program.specs.declared.kinds.Member.{Member}
use Rattle.meaning.specs.Labels.{End, Label, Enters, Resumes, Joins}
use Rattle.meaning.specs.Table.{Hold, Free, Abandoned, HeldBy, Table, first_table, Allows}
use Rattle.protocol.specs.Word.{owner, owner_died_bit}
use Rattle.protocol.specs.Points.{ToEnter, ToReenter, ToResume, Owned, Spot, OnSequence, Point, Unmade, TakeReads}
use Rattle.protocol.specs.Points.{JoinReads, JoinSleeps, JoinLearns, JoinTakes, Walks, ClearsId, LastWakes, HasEnded}
use Rattle.protocol.specs.Points.{entry_at}
use Rattle.protocol.specs.Rules.{ReleaseRule, ClearsWord, Rules, version_rules}
use Rattle.protocol.specs.World.{World, opening_under, mem}
use Rattle.protocol.specs.Moves.{Move}
use Rattle.protocol.specs.Steps.{Can, after}
use Rattle.protocol.specs.Finds.{CarriesFinding}
use Rattle.protocol.specs.Carries.{Event, Permits, event_of, table_after, with_event}

-- moves from a world to another: of any threads, in any order
abbrev pub Leads : World → List (ℕ × Move) → World → Type 0
Leads w [] w' = w' ≡ w
Leads w (s ∷ ss) w' = Can w s.0 s.1 × Leads (after w s.0 s.1) ss w'

-- the events that they carry, in order, and the table that these lead to
abbrev pub events : World → Table → List (ℕ × Move) → List Event
events w T [] = []
events w T (s ∷ ss) = with_event (event_of w T s.0 s.1) (events (after w s.0 s.1) (table_after w T s.0 s.1) ss)

-- the source's table behind these moves
abbrev pub last_table : World → Table → List (ℕ × Move) → Table
last_table w T [] = T
last_table w T (s ∷ ss) = last_table (after w s.0 s.1) (table_after w T s.0 s.1) ss

-- the source allows these events one after another
abbrev pub PermitsAll : List Event → Table → Table → Type 0
PermitsAll [] T T' = T' ≡ T
PermitsAll (e ∷ es) T T' = (mid : Table) × Permits e T mid × PermitsAll es mid T'

-- the word of a free monitor: 0, or, where releases keep the waiters bit, what they leave
abbrev pub FreeIs : ReleaseRule → ℕ → Type 0
FreeIs ClearsWord v = v ≡ 0
FreeIs rule v = (owner v ≡ 0) × (owner_died_bit v ≡ 0)

-- a monitor's state, and its lock word
abbrev pub HoldIs : ReleaseRule → Hold → ℕ → Type 0
HoldIs rule Free v = FreeIs rule v
HoldIs rule (HeldBy p) v = (owner v ≡ p) × (0 < p) × (owner_died_bit v ≡ 0)
HoldIs rule Abandoned v = (owner v ≡ 0) × (owner_died_bit v ≡ 1073741824)

-- a claim word is 1 where its process was claimed, else 0
abbrev pub ClaimIs : Bool → ℕ → Type 0
ClaimIs true v = v ≡ 1
ClaimIs false v = v ≡ 0

-- a monitor that a thread has: on its list, or pending with the thread its owner
abbrev pub Has : World → ℕ → ℕ → Type 0
Has w t m = (mem m (w.at t).list ≡ true) ⊎ (entry_at (w.at t).point ≡ Owned m)

-- the end of a thread that is past the clearing of its id word
abbrev pub IsOver : Point → End → Type 0
IsOver (LastWakes end) e = e ≡ end
IsOver (HasEnded end) e = e ≡ end
IsOver p e = ⊥

-- what a thread that joined has learned
abbrev pub HasJoined : Point → ℕ → End → Type 0
HasJoined (JoinLearns q end) x e = (x ≡ q) × (e ≡ end)
HasJoined (JoinTakes q end) x e = (x ≡ q) × (e ≡ end)
HasJoined p x e = ⊥

-- the table is that of the world
pub record Matches (rules : Rules) (w : World) (T : Table) : Type 0 where
  -- who holds
  pub hold : (m : ℕ) → HoldIs rules.release (T.hold m) (w.lock m)
  pub held : (m t : ℕ) → T.hold m ≡ HeldBy t → Has w t m
  pub has : (m t : ℕ) → Has w t m → T.hold m ≡ HeldBy t
  -- who waits: each sleeper on a condition's word; and no thread but one that was made
  pub sleeper : (t : ℕ) (c : Member) → w.asleep t ≡ Some (OnSequence c) → T.waits t ≡ Some c
  pub waiter : (t : ℕ) (c : Member) → T.waits t ≡ Some c → (0 < t) × (t ≤ w.made)
  -- claimed, made, over
  pub claimed : (q : ℕ) → ClaimIs (T.claimed q) (w.claim q)
  pub made : T.made ≡ w.made
  pub most : T.most ≡ w.most
  pub over : (q : ℕ) (end : End) → T.over q ≡ Some end → IsOver (w.at q).point end ×
      CarriesFinding end (w.outcome q) (w.result q)
  pub ended : (q : ℕ) (end : End) → IsOver (w.at q).point end → T.over q ≡ Some end
  -- who has joined knows the end
  pub joined : (t q : ℕ) (end : End) → HasJoined (w.at t).point q end → T.over q ≡ Some end

-- what the process of a thread does next by the protocol, where that is determined
abbrev pub IsNext : Point → Label → Type 0
IsNext (TakeReads m ToEnter) l = (was_abandoned : Bool) × (l ≡ Enters m was_abandoned)
IsNext (TakeReads m ToReenter) l = (was_abandoned : Bool) × (l ≡ Enters m was_abandoned)
IsNext (TakeReads m (ToResume c)) l = (was_abandoned : Bool) × (l ≡ Resumes m was_abandoned)
IsNext (JoinReads q) l = (end : End) × (l ≡ Joins q end)
IsNext (JoinSleeps q) l = (end : End) × (l ≡ Joins q end)
IsNext Unmade l = ⊥
IsNext (HasEnded end) l = ⊥
IsNext p l = Unit {0}

-- the table doesn't allow the process of a thread any next action
abbrev pub CannotAct : World → Table → ℕ → Type 0
CannotAct w T t = (l : Label) (T' : Table) → IsNext (w.at t).point l → Allows t l T T' → ⊥

-- a thread that was made and hasn't ended
abbrev pub Goes : Point → Type 0
Goes Unmade = ⊥
Goes (HasEnded end) = ⊥
Goes p = Unit {0}

-- a thread is awake and has a step to take
abbrev pub CanStep : World → ℕ → Type 0
CanStep w t = (w.asleep t ≡ None) × Goes (w.at t).point

-- outside the taking and giving up of locks, and not exiting; or ended, or not made
abbrev pub IsOutside : Point → ℕ → Type 0
IsOutside Unmade pending = Unit {0}
IsOutside (Walks a x end) pending = ⊥
IsOutside (ClearsId end) pending = ⊥
IsOutside (LastWakes end) pending = ⊥
IsOutside (HasEnded end) pending = Unit {0}
IsOutside p pending = pending ≡ 0

-- no wake was lost
pub record LosesNoWake (w : World) (T : Table) : Type 0 where
  pub sleepers : ((t : ℕ) → w.asleep t ≡ None → IsOutside (w.at t).point (w.pending t)) →
      (t : ℕ) (s : Spot) → w.asleep t ≡ Some s → CannotAct w T t
  pub at_rest : ((t : ℕ) → CanStep w t → ⊥) → (t : ℕ) → CannotAct w T t

-- a run of moves from the opening world of an image of this version is explained by the source
pub record IsExplainedUnder (version : ImageVersion) (rules : Rules) (ss : List (ℕ × Move)) (w : World) : Type 0 where
  pub permits : PermitsAll (events (opening_under version rules) (first_table (most_of version)) ss)
      (first_table (most_of version)) (last_table (opening_under version rules) (first_table (most_of version)) ss)
  pub matches : Matches rules w (last_table (opening_under version rules) (first_table (most_of version)) ss)
  pub waking : LosesNoWake w (last_table (opening_under version rules) (first_table (most_of version)) ss)
  -- a sequence number counts no more steps than were taken
  pub numbers : (c : Member) → w.sequence c ≤ length ss

-- the same by the rules of the version
abbrev pub IsExplainedByMoves : ImageVersion → List (ℕ × Move) → World → Type 0
IsExplainedByMoves version ss w = IsExplainedUnder version (version_rules version) ss w
