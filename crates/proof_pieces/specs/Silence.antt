-- Which pieces of a call are its step with whole calls, and what they answer.
use Rattle.std.specs.Prelude.{ℕ, ◌≡◌, ◌+◌, Bool, true, false, not, Some, None, List, [], length}
use Rattle.isa.specs.Programs.{Program}
use Rattle.futexcalls.specs.declared.pieces.FutexCall.{FutexCall}
use Rattle.futexcalls.specs.declared.pieces.FutexCall.TheVariants.{Wait, Wake, Requeue}
use Rattle.robustexit.specs.declared.rule.ExitRule.{ExitRule}
use Rattle.robustexit.specs.ExitRules.{exit_of}
use Rattle.locals.specs.Threads.{Thread}
use Rattle.locals.specs.Looks.{Look, Goes, Asks, Leaves, Breaks, Rests, look}
use Rattle.machine.specs.States.{State, with_thread}
use Rattle.machine.specs.Runs.{Step}
use Rattle.machine.specs.PieceStates.{PieceState}
use Rattle.machine.specs.PieceSteps.{Piece, IsLocal, IsPlain, IsExit, IsLock, IsEqual, IsAgain, IsAct, again_of}
use Rattle.proof_pieces.specs.Traces.{KeepsTime, TakesPiece, taken}
use Rattle.proof_pieces.specs.Whole.{whole}
use Rattle.proof_pieces.specs.WholeCalls.{ServesWhole, MovesWhole, IsWholeStep}

-- whether a call is a wait
abbrev pub is_wait : FutexCall → Bool
is_wait (Wait a expected) = true
is_wait (Wake a wakes) = false
is_wait (Requeue a b wakes moves expected) = false

-- whether a piece is silent: a bucket is taken; a requeue finds its word equal; or a wait acts, which sleeps already where
-- calls are whole
abbrev pub is_silent : (p : Program) (s : PieceState) (t : ℕ) (x : Thread) (woken : List ℕ) (s' : PieceState)
    → Piece p s t x woken s' → Bool
is_silent p s t x woken s' (IsLocal y looks first nobody after) = false
is_silent p s t x woken s' (IsPlain request go answer mid looks isnt first serves after) = false
is_silent p s t x woken s' (IsExit phase shared next looks first step free after) = false
is_silent p s t x woken s' (IsLock call go b looks lies takes free nobody after) = true
is_silent p s t x woken s' (IsEqual call go a v looks compares at equal nobody after) = not (is_wait call)
is_silent p s t x woken s' (IsAgain call go a v looks compares at differs nobody after) = false
is_silent p s t x woken s' (IsAct call go moved sleepers looks at acts after) = is_wait call

-- what another piece answers to its thread, 0 where it asked for nothing
abbrev pub piece_answer : (p : Program) (s : PieceState) (t : ℕ) (x : Thread) (woken : List ℕ) (s' : PieceState)
    → Piece p s t x woken s' → ℕ
piece_answer p s t x woken s' (IsLocal y looks first nobody after) = 0
piece_answer p s t x woken s' (IsPlain request go answer mid looks isnt first serves after) = answer
piece_answer p s t x woken s' (IsExit phase shared next looks first step free after) = 0
piece_answer p s t x woken s' (IsLock call go b looks lies takes free nobody after) = 0
piece_answer p s t x woken s' (IsEqual call go a v looks compares at equal nobody after) = 0
piece_answer p s t x woken s' (IsAgain call go a v looks compares at differs nobody after) = again_of call
piece_answer p s t x woken s' (IsAct call go moved sleepers looks at acts after) = length woken + length moved

-- what a thread that looks so does in one step with whole calls, if this is the answer to what it asks
abbrev pub MovesAnswered : ExitRule → State → ℕ → List ℕ → (answer : ℕ) → Look → State → Type 0
MovesAnswered rule s t woken answer (Goes x) s' = MovesWhole rule s t woken (Goes x) s'
MovesAnswered rule s t woken answer (Asks request go) s' =
    (mid : State) × ServesWhole t request s woken answer mid × (s' ≡ with_thread mid t (go answer))
MovesAnswered rule s t woken answer (Leaves phase) s' = MovesWhole rule s t woken (Leaves phase) s'
MovesAnswered rule s t woken answer Breaks s' = ⊥
MovesAnswered rule s t woken answer Rests s' = ⊥

abbrev pub moves_whole : (rule : ExitRule) → (s : State) → (t : ℕ) → (woken : List ℕ) → (answer : ℕ) → (l : Look) → (s' : State)
    → MovesAnswered rule s t woken answer l s' → MovesWhole rule s t woken l s'
moves_whole rule s t woken answer (Goes x) s' moves = moves
moves_whole rule s t woken answer (Asks request go) s' moves = (answer, moves.0, moves.1, moves.2)
moves_whole rule s t woken answer (Leaves phase) s' moves = moves
moves_whole rule s t woken answer Breaks s' moves = moves
moves_whole rule s t woken answer Rests s' moves = moves

-- one step of a thread that stands here and doesn't sleep, with this answer
pub record IsAnswered (p : Program) (s : State) (t : ℕ) (x : Thread) (woken : List ℕ) (answer : ℕ) (s' : State) : Type 0
  where
    pub stands : s.thread t ≡ Some x
    pub awake : s.asleep t ≡ None
    pub moves : MovesAnswered (exit_of p.version) s t woken answer (look p t x) s'

-- it is one of the steps with whole calls
abbrev pub whole_step : (p : Program) → (s : State) → (t : ℕ) → (x : Thread) → (woken : List ℕ) → (answer : ℕ)
    → (s' : State) → IsAnswered p s t x woken answer s' → IsWholeStep p s t woken s'
whole_step p s t x woken answer s' h = record {
  thread = x;
  stands = h.stands;
  awake = h.awake;
  moves = moves_whole (exit_of p.version) s t woken answer (look p t x) s' h.moves;
}

-- a step is nothing with whole calls, in time
abbrev pub IsHushed : Program → PieceState → Step → PieceState → Type 0
IsHushed p s step s' = (step.woken ≡ []) × (whole p s' ≡ whole p s)
    × (step.pauses ≡ false → TakesPiece p (whole p s) (taken p s) step (taken p s'))

-- or one step, of a thread that stands here, with this answer, in time
abbrev pub IsHeard : Program → PieceState → Step → Thread → (answer : ℕ) → PieceState → Type 0
IsHeard p s step x answer s' = IsAnswered p (whole p s) step.thread x step.woken answer (whole p s')
    × KeepsTime p (whole p s) (taken p s) step (whole p s')
