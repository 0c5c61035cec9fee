-- What a process does next, and where that leads: a function of the state, where it is known whether it is visible.
use Rattle.std.specs.Prelude.{ℕ, ◌+◌, Bool, true, false, List, [], ◌∷◌, Option, Some, None, if◌then◌else◌}
use Rattle.words.specs.Updates.{put}
use Rattle.machine.specs.States.{State}
use Rattle.program.specs.Trees.{Program}
use Rattle.meaning.specs.Values.{Variables}
use Rattle.meaning.specs.Labels.{End, Kind, Label, Forks, FindsFull, Claims, FindsClaimed, Joins, Enters}
use Rattle.meaning.specs.Labels.{Resumes, Exits, Waits, Notifies, Broadcasts, Abandons, Ends, kind_of}
use Rattle.meaning.specs.Table.{Table, Hold, Free, Abandoned, HeldBy, without_waiters}
use Rattle.meaning.specs.Processes.{Process}
use Rattle.meaning.specs.Offers.{Effect, Nothing, Makes, Offer, Rests, Does, Takes, MakesOne, ClaimsOne, JoinsOne}
use Rattle.meaning.specs.Offers.{NotifiesSome, NotifiesAll, offer}
use Rattle.meaning.specs.States.{SourceState}
use Rattle.proof_simulation.specs.Ordering.{state_after, awake_waiters}

-- an action of a process's own, what it does beside the process, and where the process stands after it
pub record NextAction : Type 0 where
  pub label : Label
  pub effect : Effect
  pub after : Process

-- the internal action of an offer, where it has one: a process finds the table full, or another one claimed
abbrev pub internal_next : Offer → Option NextAction
internal_next (Does l e q) = Some (record { label = l; effect = e; after = q })
internal_next (MakesOne child q full) = Some (record { label = FindsFull; effect = Nothing; after = full })
internal_next (ClaimsOne child q refused) = Some
    (record { label = FindsClaimed child; effect = Nothing; after = refused })
internal_next other = None

-- whether a monitor is abandoned
abbrev pub is_abandoned : Hold → Bool
is_abandoned Abandoned = true
is_abandoned other = false

-- the monitor that is entered
abbrev pub entered_monitor : Label → ℕ
entered_monitor (Enters m was_abandoned) = m
entered_monitor (Resumes m was_abandoned) = m
entered_monitor label = 0

-- a JOIN of a child, once the child has ended
abbrev pub joins_next : ℕ → (End → Process) → Option End → Option NextAction
joins_next child q None = None
joins_next child q (Some end) = Some (record { label = Joins child end; effect = Nothing; after = q end })

-- the visible action of an offer, in this table; a notify or a broadcast resumes those who wait on the condition and
-- don't sleep on its word in this state of the machine
abbrev pub visible_next : Program → State → Table → Offer → Option NextAction
visible_next p s T Rests = None
visible_next p s T (Does l e q) = Some (record { label = l; effect = e; after = q })
visible_next p s T (Takes l free abandoned) =
    let b = is_abandoned (T.hold (entered_monitor (l false))) in
    Some (record { label = l b; effect = Nothing; after = if b then abandoned else free })
visible_next p s T (MakesOne child q full) =
    let n = T.made + 1 in Some (record { label = Forks n; effect = Makes n child; after = q n })
visible_next p s T (ClaimsOne child q refused) = Some (record { label = Claims child; effect = Nothing; after = q })
visible_next p s T (JoinsOne child q) = joins_next child q (T.over child)
visible_next p s T (NotifiesSome c q) =
    Some (record { label = Notifies c (awake_waiters p s T c); effect = Nothing; after = q })
visible_next p s T (NotifiesAll c q) =
    Some (record { label = Broadcasts c (awake_waiters p s T c); effect = Nothing; after = q })

-- the table behind an action of process t
abbrev pub table_after : (t : ℕ) → Label → Table → Table
table_after t (Forks child) T = record T { made = T.made + 1 }
table_after t (Claims child) T = record T { claimed = put T.claimed child true }
table_after t (Enters m was_abandoned) T = record T { hold = put T.hold m (HeldBy t) }
table_after t (Resumes m was_abandoned) T = record T { hold = put T.hold m (HeldBy t) }
table_after t (Exits m) T = record T { hold = put T.hold m Free }
table_after t (Waits c) T = record T { hold = put T.hold c.monitor Free; waits = put T.waits t (Some c) }
table_after t (Notifies c resumed) T = record T { waits = without_waiters resumed T.waits }
table_after t (Broadcasts c resumed) T = record T { waits = without_waiters resumed T.waits }
table_after t (Abandons m) T = record T { hold = put T.hold m Abandoned }
table_after t (Ends end) T = record T { over = put T.over t (Some end) }
table_after t label T = T

-- the state behind it
abbrev pub after_next : (t : ℕ) → Option NextAction → SourceState → SourceState
after_next t None a = a
after_next t (Some x) a = state_after a t x.effect x.after (table_after t x.label a.table)

-- what a process offers, if there is one
abbrev pub offer_of_process : Program → Variables → Option Process → Offer
offer_of_process p v None = Rests
offer_of_process p v (Some q) = offer p v q

-- its name
abbrev pub next_kinds : Option NextAction → List Kind
next_kinds None = []
next_kinds (Some x) = kind_of x.label ∷ []

-- the internal actions of process t, as many as these, are taken
abbrev pub take_deferred : Program → (t : ℕ) → List Kind → SourceState → SourceState
take_deferred p t [] a = a
take_deferred p t (k ∷ ks) a = take_deferred p t ks
    (after_next t (internal_next (offer_of_process p a.variable (a.process t))) a)

-- the visible action that process t takes next
abbrev pub next_visible : Program → State → (t : ℕ) → SourceState → Option NextAction
next_visible p s t a = visible_next p s a.table (offer_of_process p a.variable (a.process t))
