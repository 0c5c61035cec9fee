-- The machine's steps with futex calls in pieces: a call takes its buckets, compares and acts, each in a step of its
-- own, and steps of other threads come between.
use Rattle.std.specs.Prelude.{ℕ, ◌≡◌, ◌≢◌, ◌+◌, ◌%◌, Bool, true, false, Option, Some, None, List, [], ◌∷◌, length}
use Rattle.words.specs.declared.outcome.Cause.TheVariants.{Killed as Killed'}
use Rattle.isa.specs.Programs.{Program}
use Rattle.words.specs.Updates.{put}
use Rattle.buckets.specs.Places.{with_place}
use Rattle.futexcalls.specs.declared.pieces.FutexCall.{FutexCall}
use Rattle.futexcalls.specs.declared.pieces.FutexPhase.TheVariants.{First, Compare, Act}
use Rattle.futexcalls.specs.Pieces.{buckets_of, takes_at, after_lock, LiesIn, Compares, Acts}
pub use Rattle.futexcalls.specs.Pieces.{again_of}
use Rattle.robustexit.specs.RobustExit.{Shared, ExitStep}
use Rattle.robustexit.specs.Waking.{WakesOn}
use Rattle.robustexit.specs.declared.phase.ExitPhase.{ExitPhase}
use Rattle.locals.specs.Threads.{Thread, Dies, Exits}
use Rattle.locals.specs.Looks.{Request, Look, Goes, Asks, Leaves, Breaks, Rests, look}
use Rattle.machine.specs.States.{State, with_thread, with_sleepers}
use Rattle.machine.specs.AbstractServing.{Serves, shared_of, with_shared}
use Rattle.machine.specs.Runs.{Step, Doing, Own, Strayed, Killed, IsStrayStep, IsKillStep, NextIsBroken, has_ended}
use Rattle.machine.specs.Runs.{is_paused}
use Rattle.machine.specs.PieceStates.{PieceState, request_of, call_of, held, opening_pieces}
use Rattle.robustexit.specs.declared.rule.ExitRule.{ExitRule}
use Rattle.robustexit.specs.ExitRules.{exit_of}

-- the thread goes on outside calls, in a state with these threads, words and sleepers, and gives up these buckets
abbrev pub goes_outside : PieceState → ℕ → State → List ℕ → Thread → PieceState
goes_outside s t mid buckets x = record s {
  base = with_thread mid t x;
  phase = put s.phase t First;
  holder = with_place s.holder buckets None;
}

-- one step of thread t, which is x
pub data Piece (p : Program) (s : PieceState) (t : ℕ) (x : Thread) (woken : List ℕ) (s' : PieceState) : Type 0 where
  -- a local step, and a request that is no futex call
  IsLocal : (y : Thread) → look p t x ≡ Goes y → s.phase t ≡ First → woken ≡ []
      → s' ≡ goes_outside s t s.base [] y → Piece p s t x woken s'
  IsPlain : (request : Request) (go : ℕ → Thread) (answer : ℕ) (mid : State) → look p t x ≡ Asks request go
      → call_of request ≡ None → s.phase t ≡ First → Serves t request s.base woken answer mid
      → s' ≡ goes_outside s t mid [] (go answer) → Piece p s t x woken s'
  -- a step of its exit: should it wake on a word, that word's bucket is free
  IsExit : (phase : ExitPhase) (after : Shared) (next : ExitPhase) → look p t x ≡ Leaves phase → s.phase t ≡ First
      → ExitStep (exit_of p.version) s.base.size t phase (shared_of s.base) woken after next
      → ((a : ℕ) → WakesOn (exit_of p.version) s.base.size t phase s.base.word a
      → s.holder (a % s.buckets) ≡ None)
      → s' ≡ goes_outside s t (with_shared s.base after) [] (Exits next) → Piece p s t x woken s'
  -- a bucket is taken
  IsLock : (call : FutexCall) (go : ℕ → Thread) (b : ℕ) → look p t x ≡ Asks (request_of call) go
      → LiesIn s.base.size call → takes_at s.buckets (s.phase t) call ≡ Some b → s.holder b ≡ None → woken ≡ []
      → s' ≡ record s {
        phase = put s.phase t (after_lock s.buckets (s.phase t) call);
        holder = put s.holder b (Some t);
      } → Piece p s t x woken s'
  -- the comparison, where the word is as expected, and where it differs
  IsEqual : (call : FutexCall) (go : ℕ → Thread) (a v : ℕ) → look p t x ≡ Asks (request_of call) go
      → Compares call a v → s.phase t ≡ Compare → s.base.word a ≡ v → woken ≡ []
      → s' ≡ record s { phase = put s.phase t Act } → Piece p s t x woken s'
  IsAgain : (call : FutexCall) (go : ℕ → Thread) (a v : ℕ) → look p t x ≡ Asks (request_of call) go
      → Compares call a v → s.phase t ≡ Compare → s.base.word a ≢ v → woken ≡ []
      → s' ≡ goes_outside s t s.base (buckets_of s.buckets call) (go (again_of call)) → Piece p s t x woken s'
  -- the act, whose answer is how many it woke or moved
  IsAct : (call : FutexCall) (go : ℕ → Thread) (moved : List ℕ) (after : ℕ → Option ℕ)
      → look p t x ≡ Asks (request_of call) go → s.phase t ≡ Act → Acts t call s.base.asleep woken moved after
      → s' ≡ goes_outside s t (with_sleepers s.base after) (buckets_of s.buckets call)
      (go (length woken + length moved))
      → Piece p s t x woken s'

-- one step of a thread that was made and doesn't sleep
pub record IsOwnPiece (p : Program) (s : PieceState) (step : Step) (s' : PieceState) : Type 0 where
  pub thread : Thread
  pub stands : s.base.thread step.thread ≡ Some thread
  pub awake : s.base.asleep step.thread ≡ None
  pub piece : Piece p s step.thread thread step.woken s'
  pub pauses : step.pauses ≡ is_paused s'.base step.thread

-- a wake from outside of a thread that sleeps, and so holds nothing
pub record IsPieceStray (a : ℕ) (s : PieceState) (step : Step) (s' : PieceState) : Type 0 where
  pub strays : IsStrayStep a s.base step s'.base
  pub others : s' ≡ record s { base = s'.base }

-- behind a kill of thread t: where it begins to die by it, it has left its sleep or its call, and gives up the buckets
-- that it held; else nothing is changed
abbrev pub killed_piece : Program → Bool → PieceState → ℕ → PieceState
killed_piece p true s t =
    goes_outside s t (with_sleepers s.base (put s.base.asleep t None)) (held p s t) (Dies Killed')
killed_piece p false s t = s

-- a kill from outside
pub record IsPieceKill (p : Program) (begins : Bool) (s : PieceState) (step : Step) (s' : PieceState) : Type 0 where
  pub kills : IsKillStep begins s.base step s'.base
  pub after : s' ≡ killed_piece p begins s step.thread

-- a step, by what it is
abbrev pub IsPieceDone : Program → PieceState → Step → PieceState → Doing → Type 0
IsPieceDone p s step s' Own = IsOwnPiece p s step s'
IsPieceDone p s step s' (Strayed a) = IsPieceStray a s step s'
IsPieceDone p s step s' (Killed begins) = IsPieceKill p begins s step s'

-- one step of the machine with calls in pieces
abbrev pub IsPieceStep : Program → PieceState → Step → PieceState → Type 0
IsPieceStep p s step s' = IsPieceDone p s step s' step.doing

-- steps from a state to another, one after another
abbrev pub GoesByPieces : Program → PieceState → List Step → PieceState → Type 0
GoesByPieces p s [] s' = s ≡ s'
GoesByPieces p s (step ∷ steps) s' = (mid : PieceState) × IsPieceStep p s step mid × GoesByPieces p mid steps s'

-- a run, from the opening state with so many buckets
abbrev pub PieceRun : Program → ℕ → List Step → PieceState → Type 0
PieceRun p n steps s = GoesByPieces p (opening_pieces p n) steps s

-- another thread holds the bucket that a call takes next
abbrev pub BlocksCall : PieceState → ℕ → Option FutexCall → Type 0
BlocksCall s t None = ⊥
BlocksCall s t (Some call) =
    LiesIn s.base.size call × (b : ℕ) × (u : ℕ) × (takes_at s.buckets (s.phase t) call ≡ Some b)
    × (s.holder b ≡ Some u)

-- a held bucket is in the way of a thread that looks so
abbrev pub BlocksAt : ExitRule → PieceState → ℕ → Look → Type 0
BlocksAt rule s t (Asks request go) = BlocksCall s t (call_of request)
BlocksAt rule s t (Leaves phase) =
    (a : ℕ) × (u : ℕ) × WakesOn rule s.base.size t phase s.base.word a × (s.holder (a % s.buckets) ≡ Some u)
BlocksAt rule s t (Goes x) = ⊥
BlocksAt rule s t Breaks = ⊥
BlocksAt rule s t Rests = ⊥

-- the thread was made, doesn't sleep, has not ended, and no held bucket is in its way
pub record CanTakePiece (p : Program) (s : PieceState) (t : ℕ) : Type 0 where
  pub thread : Thread
  pub stands : s.base.thread t ≡ Some thread
  pub awake : s.base.asleep t ≡ None
  pub goes_on : has_ended (Some thread) ≡ false
  pub free : BlocksAt (exit_of p.version) s t (look p t thread) → ⊥

-- the thread's next step may not be: it stands outside calls
abbrev pub NextPieceIsBroken : Program → PieceState → ℕ → Type 0
NextPieceIsBroken p s t = (s.phase t ≡ First) × NextIsBroken p s.base t
