-- Accesses that a thread made on words of its own, ahead of the machine.
use Rattle.std.specs.Prelude.{ℕ, ◌≡◌, ◌≢◌, ◌<◌, ◌⊎◌, ⊤, List, [], ◌∷◌, Some, length, slice_get, slice_set}
use Rattle.isa.specs.Programs.{Program}
use Rattle.robustexit.specs.declared.phase.ExitPhase.TheVariants.{Ended}
use Rattle.locals.specs.declared.access.AccessKind.TheVariants.{Store}
use Rattle.locals.specs.Accesses.{accessing}
use Rattle.locals.specs.Looks.{look}
use Rattle.locals.specs.Steps.{local_after}
use Rattle.locals.specs.Threads.{Thread, Exits}
use Rattle.machine.specs.declared.speculation.SpeculativeAccess.{SpeculativeAccess}
use Rattle.machine.specs.Accessing.{MadeFrom}
use Rattle.machine.specs.States.{thread_of}
use Rattle.machine.specs.Views.{View, concrete}

-- the word is there that an access wants; a store wants none
abbrev pub Finds : SpeculativeAccess → List ℕ → Type 0
Finds a words =
    (a.access.address.0 < length words)
    × ((a.access.kind ≡ Store) ⊎ (slice_get words a.access.address.0 ≡ Some a.access.value))

-- the words behind an access
abbrev pub word_put : SpeculativeAccess → List ℕ → List ℕ
word_put a words = slice_set words a.access.address.0 a.after

-- and behind several, one after the other
abbrev pub words_after : List SpeculativeAccess → List ℕ → List ℕ
words_after [] words = words
words_after (a ∷ rest) words = words_after rest (word_put a words)

-- each finds its word behind those before it
abbrev pub FindsAll : List SpeculativeAccess → List ℕ → Type 0
FindsAll [] words = ⊤
FindsAll (a ∷ rest) words = Finds a words × FindsAll rest (word_put a words)

-- the first accesses, one for each word before them, each found its word and led from these words to those
abbrev pub LeadsTo : List SpeculativeAccess → List ℕ → List ℕ → List ℕ → Type 0
LeadsTo accesses [] start words = words ≡ start
LeadsTo [] (b ∷ before) start words = ⊥
LeadsTo (a ∷ accesses) (b ∷ before) start words =
    Finds a start × (slice_get start a.access.address.0 ≡ Some b) × LeadsTo accesses before (word_put a start) words

-- local steps lead thread t from x to the access, which it makes so wherever its word is there, and goes on at y
pub record Speculates (p : Program) (t : ℕ) (x : Thread) (a : SpeculativeAccess) (y : Thread) : Type 0 where
  pub here : Thread
  pub goes : local_after p t a.local x ≡ Some here
  pub makes : (words : List ℕ) → Finds a words
      → accessing (look p t here) words ≡ Some (record { told = a.access; words = word_put a words; thread = y })
  pub lives : y ≢ Exits Ended

-- one after the other
abbrev pub SpeculatesAll : Program → ℕ → Thread → List SpeculativeAccess → Thread → Type 0
SpeculatesAll p t x [] y = x ≡ y
SpeculatesAll p t x (a ∷ rest) y = (mid : Thread) × Speculates p t x a mid × SpeculatesAll p t mid rest y

-- thread t, from x, made the accesses on the machine, each behind its local steps, and stands at y
abbrev pub Commits : View → ℕ → Thread → List SpeculativeAccess → View → Thread → Type 0
Commits v t x [] v' y = (v' ≡ v) × (y ≡ x)
Commits v t x (a ∷ rest) v' y =
    (here : Thread) × (mid : View) × (z : Thread) × (local_after v.program t a.local x ≡ Some here)
    × MadeFrom a.access v t here mid z × Commits mid t z rest v' y

-- the same from where it stood
pub record Committed (v : View) (t : ℕ) (made : List SpeculativeAccess) (v' : View) (y : Thread) : Type 0 where
  pub origin : Thread
  pub stands : thread_of (concrete v) t ≡ Some origin
  pub commits : Commits v t origin made v' y
