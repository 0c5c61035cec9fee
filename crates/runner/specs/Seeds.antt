-- Which entries a run makes that draws its threads by the numbers of a seed.
use Rattle.std.specs.Prelude.{ℕ, zero, suc, ◌≡◌, ◌+◌, ◌%◌, ◌==◌, ◌≤◌, ◌&&◌, ◌||◌, ◌⊎◌, ◌++◌, not, nat_lt, nat_le, if◌then◌else◌}
use Rattle.std.specs.Prelude.{Bool, true, false, List, [], ◌∷◌, length, slice_get, slice_set, slice_index_or}
use Rattle.std.specs.Prelude.{Option, Some, None, is_some}
use Rattle.std.specs.Int.{trailing_zeros, w64}
use Rattle.rand_core.specs.Stream.{Stream, next_u64}
use Rattle.rand_core.specs.Steps.{stream_of}
use Rattle.rand_xoshiro.specs.SplitMix64.{splitmix_steps}
use Rattle.isa.specs.Programs.{Program}
use Rattle.locals.specs.Threads.{Thread, is_dying}
use Rattle.machine.specs.declared.event.Entry.{Entry}
use Rattle.machine.specs.States.{ConcreteState, thread_of}
use Rattle.machine.specs.ConcreteSteps.{can_move}
use Rattle.runner.specs.declared.drawing.Drawn.{Drawn}
use Rattle.runner.specs.declared.drawing.Drawn.TheVariants.{Living, Mover, Sleeper}
use Rattle.runner.specs.declared.drawing.Outside.{Outside}
use Rattle.runner.specs.Logs.{Runs, cost, kills_in, opening}
use Rattle.runner.specs.Views.{LogState}
use Rattle.runner.specs.Entries.{TakesKill, TakesOutside}
use Rattle.runner.specs.Orders.{HasMade}
use Rattle.runner.specs.Reports.{IsHeldUp, PassesLimit}

-- the numbers that SplitMix64 gives from a state on
unfoldable pub numbers_from : ℕ → Stream
numbers_from state = stream_of splitmix_steps state

-- the next one of such numbers, and those behind it
abbrev pub next_of : Stream → ℕ
next_of numbers = (next_u64 numbers).0

abbrev pub behind : Stream → Stream
behind numbers = (next_u64 numbers).1

-- what may come from outside in the run, and how often, and the numbers behind: where there may be kills, the first number
-- says how often they come
abbrev pub outside_by : Option ℕ → ℕ → Stream → Outside × Stream
outside_by strays zero numbers = (record { strays = strays; kills = 0; doublings = 0 }, numbers)
outside_by strays (suc n) numbers =
    (record { strays = strays; kills = suc n; doublings = 1 + next_of numbers % 12 }, behind numbers)

-- a moment of the run, at which a thread is drawn: the log and where it leads, the numbers to come, whether a thread was
-- refused, as its entry would pass the limit, and whether it is passed over until an entry is made
pub record Moment : Type 0 where
  pub state : LogState
  pub numbers : Stream
  pub refused : ℕ → Bool
  pub passed : ℕ → Bool

-- nobody; and one thread more
abbrev pub nobody : ℕ → Bool
nobody t = false

abbrev pub and_also : (ℕ → Bool) → ℕ → ℕ → Bool
and_also who t u = u == t || who u

-- the threads from 1 up to a number that pass a test, by rising number
abbrev pub those : (ℕ → Bool) → ℕ → List ℕ
those test zero = []
those test (suc t) = those test t ++ (if test (suc t) then suc t ∷ [] else [])

-- who can move, wasn't refused and isn't passed over
abbrev pub is_mover : ConcreteState → (ℕ → Bool) → (ℕ → Bool) → ℕ → Bool
is_mover k refused passed t = can_move k t && not (refused t) && not (passed t)

-- who sleeps
abbrev pub is_asleep : ConcreteState → ℕ → Bool
is_asleep k t = is_some (k.common.asleep t)

-- who was made, isn't dying, and wasn't refused
abbrev pub is_alive : Option Thread → Bool
is_alive None = false
is_alive (Some x) = not (is_dying x)

abbrev pub is_living : ConcreteState → (ℕ → Bool) → ℕ → Bool
is_living k refused t = is_alive (thread_of k t) && not (refused t)

-- all of them
abbrev pub movers_of : ConcreteState → (ℕ → Bool) → (ℕ → Bool) → List ℕ
movers_of k refused passed = those (is_mover k refused passed) (length k.threads)

abbrev pub sleepers_of : ConcreteState → List ℕ
sleepers_of k = those (is_asleep k) (length k.threads)

abbrev pub living_of : ConcreteState → (ℕ → Bool) → List ℕ
living_of k refused = those (is_living k refused) (length k.threads)

-- of these threads the one at the place, from 0, that the next number has modulo how many there are
abbrev pub picked : List ℕ → Stream → Option ℕ × Stream
picked threads numbers = (slice_get threads (next_of numbers % length threads), behind numbers)

-- the same where one is to be drawn and there are some; else nobody, and no number is drawn
abbrev pub picked_if : Bool → List ℕ → Stream → Option ℕ × Stream
picked_if false threads numbers = (None, numbers)
picked_if true [] numbers = (None, numbers)
picked_if true (t ∷ ts) numbers = picked (t ∷ ts) numbers

-- whether a wake from outside is due: where there is a number from 1, the next one is a multiple of it
abbrev pub stray_due : Option ℕ → Stream → Bool × Stream
stray_due None numbers = (false, numbers)
stray_due (Some zero) numbers = (false, numbers)
stray_due (Some (suc n)) numbers = (next_of numbers % suc n == 0, behind numbers)

-- whether a kill is due: the number is a multiple of 2 to the power of `doublings`, as so many of its lowest bits are 0
abbrev pub kill_due : ℕ → ℕ → Bool
kill_due doublings number = nat_le doublings (trailing_zeros w64 number)

-- who is woken from outside: one that sleeps, where that is due and the limit leaves room
abbrev pub sleeper_drawn : Option ℕ → ℕ → LogState → Stream → Option ℕ × Stream
sleeper_drawn strays limit h numbers =
    let due = stray_due strays numbers in
    picked_if (due.0 && nat_lt (cost h.log) limit) (sleepers_of h.concrete.concrete) due.1

-- who is killed: one that lives and wasn't refused, where there may be a kill more, one is due, and the limit leaves room
abbrev pub living_drawn_if : Bool → ℕ → ℕ → LogState → (ℕ → Bool) → Stream → Option ℕ × Stream
living_drawn_if false doublings limit h refused numbers = (None, numbers)
living_drawn_if true doublings limit h refused numbers =
    picked_if (kill_due doublings (next_of numbers) && nat_lt (cost h.log) limit) (living_of h.concrete.concrete refused)
    (behind numbers)

abbrev pub living_drawn : Outside → ℕ → LogState → (ℕ → Bool) → Stream → Option ℕ × Stream
living_drawn outside limit h refused numbers =
    living_drawn_if (nat_lt (kills_in h.log) outside.kills) outside.doublings limit h refused numbers

-- what was drawn, and where that is nobody, what is drawn by the numbers behind
abbrev pub or_else : (ℕ → Drawn) → Option ℕ × Stream → (Stream → Option Drawn × Stream) → Option Drawn × Stream
or_else kind (Some t, numbers) next = (Some (kind t), numbers)
or_else kind (None, numbers) next = next numbers

-- what is drawn where these can move: a wake, or else a kill, or else the entry of one of them; nothing where there are none
abbrev pub drawn_among : Outside → ℕ → LogState → (ℕ → Bool) → List ℕ → Stream → Option Drawn × Stream
drawn_among outside limit h refused [] numbers = (None, numbers)
drawn_among outside limit h refused (t ∷ ts) numbers =
    or_else (λ u. Sleeper u) (sleeper_drawn outside.strays limit h numbers) (λ first.
    or_else (λ u. Living u) (living_drawn outside limit h refused first) (λ second.
    or_else (λ u. Mover u) (picked (t ∷ ts) second) (λ third. (None, third))))

-- what is drawn at a moment, and the numbers behind
abbrev pub drawn_at : Outside → ℕ → Moment → Option Drawn × Stream
drawn_at outside limit m =
    drawn_among outside limit m.state m.refused (movers_of m.state.concrete.concrete m.refused m.passed) m.numbers

-- the entry that was drawn was made
abbrev pub MakesDrawn : Program → ℕ → LogState → Drawn → LogState → Type 0
MakesDrawn p limit h (Mover t) h' = HasMade p t h h' × (cost h'.log ≤ limit)
MakesDrawn p limit h (Sleeper t) h' = TakesOutside limit h t h'
MakesDrawn p limit h (Living t) h' = TakesKill p limit h t h'

-- behind an entry nobody is passed over but those that were refused
pub record IsMade (p : Program) (limit : ℕ) (m : Moment) (drawn : Drawn) (m' : Moment) : Type 0 where
  pub makes : MakesDrawn p limit m.state drawn m'.state
  pub refused : m'.refused ≡ m.refused
  pub passed : m'.passed ≡ nobody

-- thread t can't make its next entry: that would pass the limit, and it is refused from then on; or a held bucket is in its way
abbrev pub StopsSo : Program → ℕ → LogState → ℕ → (ℕ → Bool) → (ℕ → Bool) → Type 0
StopsSo p limit h t refused refused' =
    (PassesLimit p limit h.log h.concrete t × (refused' ≡ and_also refused t))
    ⊎ (IsHeldUp p h.concrete t × (refused' ≡ refused))

-- one that was drawn and can't make its next entry is passed over
abbrev pub IsPassedOver : Program → ℕ → Moment → Drawn → Moment → Type 0
IsPassedOver p limit m (Mover t) m' =
    StopsSo p limit m.state t m.refused m'.refused × (m'.state ≡ m.state) × (m'.passed ≡ and_also m.passed t)
IsPassedOver p limit m (Sleeper t) m' = ⊥
IsPassedOver p limit m (Living t) m' = ⊥

-- a draw leads from one moment to the next
pub record IsDraw (p : Program) (outside : Outside) (limit : ℕ) (m m' : Moment) : Type 0 where
  pub leads : Runs p (opening p) m.state.log m.state.concrete
  pub drawn : Drawn
  pub draws : (Some drawn, m'.numbers) ≡ drawn_at outside limit m
  pub comes : IsMade p limit m drawn m' ⊎ IsPassedOver p limit m drawn m'

-- so many draws lead from one moment to another
abbrev pub DrawsTo : Program → Outside → ℕ → ℕ → Moment → Moment → Type 0
DrawsTo p outside limit zero m m' = m' ≡ m
DrawsTo p outside limit (suc n) m m' = (mid : Moment) × DrawsTo p outside limit n m mid × IsDraw p outside limit mid m'

-- nothing is drawn
abbrev pub IsOver : Outside → ℕ → Moment → Type 0
IsOver outside limit m = (drawn_at outside limit m).0 ≡ None

-- draws lead from a moment to one at which nothing is drawn, behind this log
pub record EndsBehind (p : Program) (outside : Outside) (limit : ℕ) (m : Moment) (log : List Entry) : Type 0 where
  pub count : ℕ
  pub last : Moment
  pub draws : DrawsTo p outside limit count m last
  pub leads : Runs p (opening p) last.state.log last.state.concrete
  pub over : IsOver outside limit last
  pub log_is : log ≡ last.state.log

-- the moment at which nobody was refused yet; and the first one of a run
abbrev pub begun_at : LogState → Stream → Moment
begun_at h numbers = record { state = h; numbers = numbers; refused = nobody; passed = nobody }

abbrev pub first_moment : Program → Stream → Moment
first_moment p numbers = begun_at (record { log = []; concrete = opening p }) numbers

-- the log of a run by this seed, where about one entry in `strays` is asked to be a wake, and at most so many to be kills
abbrev pub IsBySeed : Program → Option ℕ → ℕ → ℕ → ℕ → List Entry → Type 0
IsBySeed p strays kills limit seed log =
    let begun = outside_by strays kills (numbers_from seed) in
    EndsBehind p begun.0 limit (first_moment p begun.1) log

-- a program, what was asked for from outside, a limit and a seed have one log
abbrev pub OneLogBySeedSo : Type 0
OneLogBySeedSo =
    (p : Program) (strays : Option ℕ) (kills limit seed : ℕ) (log log' : List Entry)
    → IsBySeed p strays kills limit seed log → IsBySeed p strays kills limit seed log' → log ≡ log'

-- which threads are marked in a list that has a place for each
abbrev pub marked : List Bool → ℕ → Bool
marked marks t = slice_index_or marks t false

-- the moment with these marks
abbrev pub moment_of : LogState → Stream → List Bool → List Bool → Moment
moment_of h numbers refused passed = record {
  state = h;
  numbers = numbers;
  refused = marked refused;
  passed = marked passed;
}

-- some number of draws does
abbrev pub HasDrawn : Program → Outside → ℕ → Moment → Moment → Type 0
HasDrawn p outside limit m m' = (count : ℕ) × DrawsTo p outside limit count m m'

-- the same of a list in which those that were refused are marked: thread t can't make its next entry
abbrev pub MarksSo : Program → ℕ → LogState → ℕ → List Bool → List Bool → Type 0
MarksSo p limit h t refused refused' =
    (PassesLimit p limit h.log h.concrete t × (refused' ≡ slice_set refused t true))
    ⊎ (IsHeldUp p h.concrete t × (refused' ≡ refused))

-- as far as it can move there and wasn't refused
abbrev pub MarksIf : Program → ℕ → LogState → ℕ → List Bool → List Bool → Type 0
MarksIf p limit h t refused refused' =
    can_move h.concrete.concrete t ≡ true → slice_get refused t ≡ Some false → MarksSo p limit h t refused refused'
