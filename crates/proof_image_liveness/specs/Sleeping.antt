-- Threads that sleep for good, and states from which a thread is woken.
use Rattle.std.specs.Prelude.{ℕ, ◌≡◌, ◌<◌, ◌≤◌, ◌⊎◌, ⊤, Bool, true, Some, None, List, [], ◌∷◌, Contains}
use Rattle.isa.specs.Programs.{Program}
use Rattle.futexcalls.specs.FutexCalls.{IsChoice}
use Rattle.locals.specs.Threads.{Thread}
use Rattle.locals.specs.Looks.{AskWake, Asks, look}
use Rattle.machine.specs.States.{State}
use Rattle.machine.specs.Runs.{Step, Own, CanStep, NextIsBroken}
use Rattle.machine.specs.PieceStates.{PieceState}
use Rattle.machine.specs.PieceSteps.{GoesByPieces}
use Rattle.proof_pieces.specs.WholeCalls.{IsWholeStep}
use Rattle.proof_image_search.specs.Searching.{IsApart, IsCovered, Kept}

-- steps of the threads' own
abbrev pub AreOwn : List Step → Type 0
AreOwn [] = ⊤
AreOwn (step ∷ steps) = (step.doing ≡ Own) × AreOwn steps

-- a run of the threads' own steps from a state leads to where thread t is awake
pub record IsWoken (p : Program) (s : PieceState) (t : ℕ) : Type 0 where
  pub steps : List Step
  pub after : PieceState
  pub goes : GoesByPieces p s steps after
  pub own : AreOwn steps
  pub awake : after.base.asleep t ≡ None

-- thread t sleeps, and no run of the threads' own steps wakes it
pub record SleepsForGood (p : Program) (s : PieceState) (t : ℕ) : Type 0 where
  pub place : ℕ
  pub sleeps : s.base.asleep t ≡ Some place
  pub never : IsWoken p s t → ⊥

-- only threads before this number sleep, and no more were made than can be
pub record IsFew (s : State) : Type 0 where
  pub most : ℕ
  pub asleep : (u a : ℕ) → s.asleep u ≡ Some a → u < most
  pub made : s.made ≤ s.most

-- a thread can step, and whatever its step does, it leads to what these cover
pub record LeadsOn (p : Program) (alone : Bool) (lives : List Kept) (r : Kept) : Type 0 where
  pub thread : ℕ
  pub can : CanStep r.state thread
  pub whole : NextIsBroken p r.state thread → ⊥
  pub few : IsFew r.state
  pub apart : alone ≡ true → IsApart p r.state
  pub leads : (woken : List ℕ) (s : State) → IsWholeStep p r.state thread woken s
      → (m : ℕ) × IsCovered p alone lives m s r.killed

-- a thread can wake these sleepers by a futex call, and where it wakes them, that leads to what these cover
pub record LeadsOnBy (p : Program) (alone : Bool) (lives : List Kept) (r : Kept) : Type 0 where
  pub thread : ℕ
  pub local : Thread
  pub stands : r.state.thread thread ≡ Some local
  pub awake : r.state.asleep thread ≡ None
  pub address : ℕ
  pub count : ℕ
  pub go : ℕ → Thread
  pub asks : look p thread local ≡ Asks (AskWake address count) go
  pub lies : address < r.state.size
  pub woken : List ℕ
  pub choice : IsChoice r.state.asleep address count woken
  pub few : IsFew r.state
  pub apart : alone ≡ true → IsApart p r.state
  pub leads : (s : State) → IsWholeStep p r.state thread woken s → (m : ℕ) × IsCovered p alone lives m s r.killed

-- thread t is awake, or some step leads on
abbrev pub IsLive : Program → (alone : Bool) → ℕ → List Kept → Kept → Type 0
IsLive p alone t lives r = (r.state.asleep t ≡ None) ⊎ LeadsOn p alone lives r ⊎ LeadsOnBy p alone lives r

-- each state of a list is live, by those behind it
abbrev pub AreLive : Program → (alone : Bool) → ℕ → List Kept → Type 0
AreLive p alone t [] = ⊤
AreLive p alone t (r ∷ lives) = IsLive p alone t lives r × AreLive p alone t lives

-- it is one of a list of live states
pub record IsWakened (p : Program) (alone : Bool) (t : ℕ) (r : Kept) : Type 0 where
  pub behind : List Kept
  pub lives : AreLive p alone t behind
  pub live : IsLive p alone t behind r

-- each of these states is few, and whoever sleeps there is wakened
pub record AreWakened (p : Program) (alone : Bool) (r : Kept) : Type 0 where
  pub few : IsFew r.state
  pub wakened : (t a : ℕ) → r.state.asleep t ≡ Some a → IsWakened p alone t r

-- thread t sleeps in each of these, and each step of a thread's own from one leads to what they cover
pub record AreAsleep (p : Program) (alone : Bool) (t : ℕ) (dead : List Kept) : Type 0 where
  pub sleeps : (r : Kept) → Contains dead r → (a : ℕ) × (r.state.asleep t ≡ Some a)
  pub closed : (r : Kept) → Contains dead r → (u : ℕ) (woken : List ℕ) (s : State)
      → IsWholeStep p r.state u woken s → (m : ℕ) × IsCovered p alone dead m s r.killed
  pub apart : alone ≡ true → (r : Kept) → Contains dead r → IsApart p r.state
