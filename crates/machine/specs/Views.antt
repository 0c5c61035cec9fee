-- A machine as contracts see it.
use Rattle.std.specs.Prelude.{ℕ, ◌+◌, ◌*◌, ◌<◌, ◌≤◌, ◌≡◌, ◌⊎◌, true, false, List, ℤ, length, take, sum, Option, Some}
use Rattle.std.specs.Prelude.{None}
use Rattle.words.specs.declared.mem.Addr.{Addr}
use Rattle.isa.specs.Programs.{Program, memory_size}
use Rattle.buckets.specs.Places.{Agree}
use Rattle.words.specs.declared.version.ImageVersion.{ImageVersion}
use Rattle.words.specs.Limits.{most_threads}
use Rattle.words.specs.Versions.{most_of, base_of}
use Rattle.buckets.specs.Sleepers.{Sleepers, IsSound, queue, place_of, thread_count}
use Rattle.machine.specs.declared.event.Event.{Event}
use Rattle.machine.specs.declared.event.EventName.{EventName}
use Rattle.machine.specs.declared.event.EventName.TheVariants as name
use Rattle.locals.specs.Threads.{Thread}
use Rattle.machine.specs.declared.thread_set.ThreadSet.{ThreadSet}
use Rattle.machine.specs.ThreadSets.{has, has_bit, IsThread}
use Rattle.machine.specs.States.{Common, ConcreteState, thread_of}
use Rattle.machine.specs.Runs.{has_ended}
use Rattle.machine.specs.ConcreteSteps.{can_move}

-- no thread can move
abbrev pub IsQuiet : ConcreteState → Type 0
IsQuiet k = (t : ℕ) → can_move k t ≡ false

-- each thread that was made has ended
abbrev pub AllEnded : ConcreteState → Type 0
AllEnded k = (t : ℕ) → 0 < t → t ≤ length k.threads → has_ended (thread_of k t) ≡ true

-- what always holds of a concrete state: the memory has the program's size, there can be as many threads as its version
-- says, which a machine can run, some were made and no more than that, lists and places agree, and who sleeps is one of
-- them
pub record IsWellFormed (p : Program) (k : ConcreteState) : Type 0 where
  pub sized : length k.common.words ≡ memory_size p
  pub some : 1 ≤ length k.threads
  pub most : k.common.most ≡ most_of p.version
  pub fits : k.common.most ≤ most_threads
  pub few : length k.threads ≤ k.common.most
  pub agree : Agree k.common.queue k.common.asleep
  pub made : (t a : ℕ) → k.common.asleep t ≡ Some a → (1 ≤ t) × (t ≤ length k.threads)

-- what all threads share, of the words, the sleepers and the output: there can be as many as can sleep
abbrev pub common_of : List ℕ → Sleepers → List ℤ → Common
common_of words sleepers output =
    record {
      most = thread_count sleepers;
      words = words;
      queue = queue sleepers;
      asleep = place_of sleepers;
      output = output;
    }

-- a state of the machine, of its parts
abbrev pub concrete_of : List ℕ → Sleepers → List Thread → List ℤ → ConcreteState
concrete_of words sleepers threads output = record { common = common_of words sleepers output; threads = threads }

-- what a `Common` stands for: the words, who sleeps, the numbers printed, and how many numbers there is room for in all
pub record CommonView : Type 0 where
  pub words : List ℕ
  pub sleepers : Sleepers
  pub output : List ℤ
  pub capacity : ℕ

-- what threads share, as a step sees it
abbrev pub common : CommonView → Common
common v = common_of v.words v.sleepers v.output

-- what a machine keeps, of what its threads share and of them
abbrev pub parts_of : CommonView → List Thread → ConcreteState
parts_of v threads = record { common = common v; threads = threads }

-- what always holds of it: the words of all threads are there, who sleeps is one of them, and a set has room for them
pub record IsCommon (words : List ℕ) (sleepers : Sleepers) : Type 0 where
  pub wide : 1 + 6 * thread_count sleepers ≤ length words
  pub sound : IsSound sleepers
  pub places : thread_count sleepers ≤ most_threads

-- the bit of a thread is set just where the thread can move
abbrev pub IsBitSo : List ℕ → ConcreteState → ℕ → Type 0
IsBitSo words k t = has_bit words t ≡ can_move k t

-- each bit that was right is right still
abbrev pub KeepsBits : (old new : List ℕ) → ConcreteState → Type 0
KeepsBits old new k = (t : ℕ) → 1 ≤ t → IsBitSo old k t → IsBitSo new k t

-- the bits are right of thread t, of those of a set, and of the last thread, should it be new since so many were made
abbrev pub MendsBits : (new : List ℕ) → ConcreteState → (made t : ℕ) → ThreadSet → Type 0
MendsBits new k made t set =
    (u : ℕ) → IsThread u → (u ≡ t) ⊎ ((made < length k.threads) × (u ≡ length k.threads)) ⊎ (has set u ≡ true)
    → IsBitSo new k u

-- the bits show who can move
abbrev pub ShowsAble : List ℕ → ConcreteState → Type 0
ShowsAble words k = (t : ℕ) → 1 ≤ t → IsBitSo words k t

-- the program that runs, the parts of its concrete state, and how many numbers can be printed without taking memory
pub record View : Type 0 where
  pub program : Program
  pub words : List ℕ
  pub sleepers : Sleepers
  pub threads : List Thread
  pub output : List ℤ
  pub room : ℕ

-- what a machine keeps
abbrev pub concrete : View → ConcreteState
concrete v = concrete_of v.words v.sleepers v.threads v.output

-- the address of a member word of a monitor: before it stand the words of processes, the link word, the lock word and
-- the members of each earlier monitor, and the monitor's own link word and lock word
abbrev pub variable_address : ImageVersion → List ℕ → ℕ → ℕ → ℕ
variable_address version members monitor index = base_of version + 2 * monitor + sum (take monitor members) + 2 + index

-- an address as a number
abbrev pub address_of : Option Addr → Option ℕ
address_of None = None
address_of (Some a) = Some a.0

-- how many numbers a step printed
abbrev pub printed_by_name : EventName → ℕ
printed_by_name name.Print = 1
printed_by_name name.Local = 0
printed_by_name name.Load = 0
printed_by_name name.Store = 0
printed_by_name name.Swap = 0
printed_by_name name.CompareSwap = 0
printed_by_name name.FetchOr = 0
printed_by_name name.FetchAdd = 0
printed_by_name name.Fork = 0
printed_by_name name.Wait = 0
printed_by_name name.Wake = 0
printed_by_name name.Requeue = 0
printed_by_name name.FutexLock = 0
printed_by_name name.FutexCompare = 0
printed_by_name name.Ret = 0
printed_by_name name.RetValue = 0
printed_by_name name.Die = 0
printed_by_name name.Entry = 0
printed_by_name name.Pending = 0
printed_by_name name.Clear = 0
printed_by_name name.Last = 0
printed_by_name name.Stray = 0
printed_by_name name.Kill = 0

-- how many numbers an event printed
abbrev pub printed_by : Event → ℕ
printed_by e = printed_by_name e.name
