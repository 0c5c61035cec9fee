-- A state of the machine: the concrete one, which the code has, and the abstract one, which it stands for.
use Rattle.std.specs.Prelude.{ℕ, zero, suc, List, [], ◌∷◌, length, slice_get, slice_index, slice_set, replicate}
use Rattle.std.specs.Prelude.{Option, Some, None, ℤ}
use Rattle.isa.specs.Programs.{Program, memory_size}
use Rattle.words.specs.Process.{process_word}
use Rattle.words.specs.Versions.{most_of}
use Rattle.robustexit.specs.RobustExit.{put}
use Rattle.locals.specs.Threads.{Thread, opening_thread}

-- what threads share: how many there can be; the words; who sleeps on each address, in the order of their arrival, and
-- where each sleeps; and the numbers printed
pub record Common : Type 0 where
  pub most : ℕ
  pub words : List ℕ
  pub queue : ℕ → List ℕ
  pub asleep : ℕ → Option ℕ
  pub output : List ℤ

-- what a machine keeps: threads by number, from 1
pub record ConcreteState : Type 0 where
  pub common : Common
  pub threads : List Thread

-- a state: how many threads there can be, the word at each address below the size, how many threads were made, each of
-- them, and where it sleeps, if it does
pub record State : Type 0 where
  pub most : ℕ
  pub word : ℕ → ℕ
  pub size : ℕ
  pub made : ℕ
  pub thread : ℕ → Option Thread
  pub asleep : ℕ → Option ℕ
  pub output : List ℤ

-- the thread of this number in a list, in which the first has number 1
abbrev pub thread_at : List Thread → ℕ → Option Thread
thread_at threads zero = None
thread_at threads (suc t) = slice_get threads t

-- the thread of this number
abbrev pub thread_of : ConcreteState → ℕ → Option Thread
thread_of k t = thread_at k.threads t

-- the abstract state that a concrete one stands for
abbrev pub state_of : ConcreteState → State
state_of k = record {
  most = k.common.most;
  word = λ a. slice_index k.common.words a;
  size = length k.common.words;
  made = length k.threads;
  thread = thread_of k;
  asleep = k.common.asleep;
  output = k.common.output;
}

-- the first process stands at the start, and its id word is its number; all other words are 0, and nobody sleeps
abbrev pub opening_concrete : Program → ConcreteState
opening_concrete p = record {
  common = record {
    most = most_of p.version;
    words = slice_set (replicate (memory_size p) 0) 3 1;
    queue = λ a. [];
    asleep = λ t. None;
    output = [];
  };
  threads = opening_thread p.start [] ∷ [];
}

-- the state in which a program begins: process 1 is made, and all words but its id are 0
abbrev pub opening_state : Program → State
opening_state p = record {
  most = most_of p.version;
  word = put (λ a. 0) (process_word 1 2) 1;
  size = memory_size p;
  made = 1;
  thread = put (λ t. None) 1 (Some (opening_thread p.start []));
  asleep = λ t. None;
  output = [];
}

-- the state with thread t changed
abbrev pub with_thread : State → ℕ → Thread → State
with_thread s t x = record s { thread = put s.thread t (Some x) }

-- the state with one word changed
abbrev pub with_word : State → ℕ → ℕ → State
with_word s a v = record s { word = put s.word a v }

-- the state with other sleepers
abbrev pub with_sleepers : State → (ℕ → Option ℕ) → State
with_sleepers s asleep = record s { asleep = asleep }
