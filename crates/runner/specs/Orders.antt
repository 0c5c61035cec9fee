-- In which order the threads of a run on one thread go.
use Rattle.std.specs.Prelude.{ℕ, ◌≡◌, ◌<◌, ◌≤◌, ◌⊎◌, ◌++◌, List, [], ◌∷◌, Bool, true, false}
use Rattle.isa.specs.Programs.{Program}
use Rattle.machine.specs.ConcreteSteps.{can_move}
use Rattle.machine.specs.declared.event.Entry.{Entry}
use Rattle.piece_machine.specs.PieceConcrete.{PieceConcrete}
use Rattle.runner.specs.declared.report.Report.{Report}
use Rattle.runner.specs.Logs.{Outside, Runs, opening}
use Rattle.runner.specs.Reports.{IsNextEntry, IsReport, IsStopped}
use Rattle.runner.specs.Views.{LogState}

-- a thread's number lies between two others round the ring: behind the first and before the second, where the numbers rise
-- and begin again behind the greatest
abbrev pub LiesBetween : ℕ → ℕ → ℕ → Type 0
LiesBetween last t u = ((last < u) × (u < t)) ⊎ ((t ≤ last) × ((last < u) ⊎ (u < t)))

-- each thread between two others that can move is stopped where the log leads
abbrev pub AllBetween : Program → ℕ → LogState → ℕ → ℕ → Type 0
AllBetween p limit h last t =
    (u : ℕ) → LiesBetween last t u → can_move h.concrete.concrete u ≡ true → IsStopped p limit h.log h.concrete u

-- behind a log whose last entry is of the thread `last` this entry is due: its thread can move where the log leads, it is its
-- next one there, and each thread between the two that can move is stopped there
pub record IsDue (p : Program) (limit : ℕ) (log : List Entry) (last : ℕ) (e : Entry) : Type 0 where
  pub concrete : PieceConcrete
  pub leads : Runs p (opening p) log concrete
  pub moves : can_move concrete.concrete e.thread ≡ true
  pub next : IsNextEntry p concrete e.thread e.local e.event
  pub stopped : AllBetween p limit (record { log = log; concrete = concrete }) last e.thread

-- entries come in order behind such a log: each is due behind those before it
abbrev pub ComesInOrder : Program → ℕ → List Entry → ℕ → List Entry → Type 0
ComesInOrder p limit log last [] = Unit {0}
ComesInOrder p limit log last (e ∷ es) = IsDue p limit log last e × ComesInOrder p limit (log ++ e ∷ []) e.thread es

-- a log is in order from its beginning on, where thread 0 stands for the thread before
abbrev pub IsInOrder : Program → ℕ → List Entry → Type 0
IsInOrder p limit log = ComesInOrder p limit [] 0 log

-- of one program and one limit all reports whose logs are in order have one log
abbrev pub OneLogSo : Type 0
OneLogSo =
    (p : Program) (may : Outside) (limit : ℕ) (r s : Report) → IsReport p may limit r → IsInOrder p limit r.log.items
    → IsReport p may limit s → IsInOrder p limit s.log.items → r.log.items ≡ s.log.items

-- the thread of the last entry, or the one before where there is none
abbrev pub last_of : ℕ → List Entry → ℕ
last_of last [] = last
last_of last (e ∷ es) = last_of e.thread es

-- a log has grown by entries in order, as from a beginning, the last of which is of the thread `last`
pub record GoesOnTo (p : Program) (limit : ℕ) (start log : List Entry) (last : ℕ) : Type 0 where
  pub entries : List Entry
  pub grows : log ≡ start ++ entries
  pub order : ComesInOrder p limit start 0 entries
  pub ends : last ≡ last_of 0 entries

-- the same of some thread
abbrev pub GoesOn : Program → ℕ → List Entry → List Entry → Type 0
GoesOn p limit start log = (last : ℕ) × GoesOnTo p limit start log last

-- a log has exactly one entry more, which was the next one of thread t, which could move
abbrev pub HasMade : Program → ℕ → LogState → LogState → Type 0
HasMade p t old new =
    (e : Entry) × (e.thread ≡ t) × (can_move old.concrete.concrete t ≡ true)
    × IsNextEntry p old.concrete t e.local e.event × (new.log ≡ old.log ++ e ∷ [])

-- nothing has changed, or a log that had grown in order has done so still, and its last entry is of thread t
abbrev pub HasGoneAlone : Program → ℕ → ℕ → LogState → LogState → Type 0
HasGoneAlone p limit t old new =
    (new ≡ old) ⊎ ((start : List Entry) (last : ℕ) → GoesOnTo p limit start old.log last → GoesOnTo p limit start new.log t)

-- each thread behind that of the last entry that can move is stopped, or there is no such entry
abbrev pub IsRoundOver : Program → ℕ → LogState → ℕ → Type 0
IsRoundOver p limit h last =
    (last ≡ 0) ⊎ ((u : ℕ) → last < u → can_move h.concrete.concrete u ≡ true → IsStopped p limit h.log h.concrete u)

-- a log has grown in order, up to an entry of thread 1, or else up to the end of a round
abbrev pub HasBegun : Bool → Program → ℕ → List Entry → LogState → Type 0
HasBegun true p limit start h = GoesOnTo p limit start h.log 1
HasBegun false p limit start h = (last : ℕ) × GoesOnTo p limit start h.log last × IsRoundOver p limit h last
