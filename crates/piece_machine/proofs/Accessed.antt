-- An access that a thread makes in its place is the step in pieces that it has.
use Rattle.std.proofs.Common.{◌≡◌, ℕ, List, true, false, Option, Some, None, Ok, is_some, ap, sym, refl, subst, ◌∙◌}
use Rattle.std.specs.Prelude.{MatchOption}
use Rattle.futexcalls.specs.declared.pieces.FutexPhase.{FutexPhase}
use Rattle.robustexit.specs.declared.rule.ExitRule.{ExitRule}
use Rattle.locals.specs.declared.access.Access.{Access}
use Rattle.locals.specs.Accesses.{Accessing, Found, accessing, found, goes_on}
use Rattle.locals.specs.Steps.{local_next}
use Rattle.locals.specs.Threads.{Thread}
use Rattle.locals.specs.Looks.{Request, AskLoad, AskStore, AskSwap, AskCompareSwap, AskOr, AskAdd, AskFork, AskPrint}
use Rattle.locals.specs.Looks.{AskWait, AskWake, AskRequeue, AskReturn, AskReturnValue, AskFault, Look, Goes, Asks}
use Rattle.locals.specs.Looks.{Leaves, Breaks, Rests, look}
use Rattle.machine.specs.declared.event.Event.{Event}
use Rattle.machine.specs.Accessing.{AccessesFrom, HasNoAccess, MakesAccess, placed, told_access}
use Rattle.machine.specs.ConcreteSteps.{can_move}
use Rattle.machine.specs.LocalRuns.{WalksOn}
use Rattle.machine.specs.PieceStates.{PieceState, call_at, call_of}
use Rattle.machine.specs.PieceSteps.{BlocksAt, BlocksCall}
use Rattle.machine.specs.Views.{View, concrete}
use Rattle.machine.proofs.Accessing.{access_steps, awake}
use Rattle.machine.proofs.Placing.{thread_at-put}
use Rattle.piece_machine.specs.PieceConcrete.{piece_of}
use Rattle.piece_machine.specs.PieceViews.{PieceView, DoneFrom, GoesTo, HasNoLocal, IsApart, IsKept, WalksFrom, parts, pieces}
use Rattle.piece_machine.proofs.Locally.{local_put}
use Rattle.piece_machine.proofs.OwnCalls.{one_thread}
use Rattle.piece_machine.proofs.Taken.{kept_step, whole_gives}

-- an access is no futex call
no_call : (request : Request) (ws : List ℕ) (f : Found) → found request ws ≡ Some f → call_of request ≡ None
no_call (AskLoad a) ws f h = refl
no_call (AskStore a v) ws f h = refl
no_call (AskSwap a v) ws f h = refl
no_call (AskCompareSwap a expected new) ws f h = refl
no_call (AskOr a v) ws f h = refl
no_call (AskAdd a v) ws f h = refl
no_call (AskFork entry arguments has_room) ws f h = refl
no_call (AskPrint number) ws f h = refl
no_call (AskWait a expected) ws f h = absurd cc
no_call (AskWake a n) ws f h = absurd cc
no_call (AskRequeue a b n m expected) ws f h = absurd cc
no_call AskReturn ws f h = refl
no_call (AskReturnValue v) ws f h = refl
no_call (AskFault cause) ws f h = refl

of_found : (request : Request) (go : ℕ → Thread) (ws : List ℕ) (a : Accessing) (o : Option Found)
    → found request ws ≡ o → goes_on go o ≡ Some a → call_of request ≡ None
of_found request go ws a None is h = absurd cc
of_found request go ws a (Some f) is h = no_call request ws f is

calls_none : (l : Look) (ws : List ℕ) (a : Accessing) → accessing l ws ≡ Some a → call_at l ≡ None
calls_none (Asks request go) ws a h = of_found request go ws a (found request ws) refl h
calls_none (Goes x) ws a h = absurd cc
calls_none (Leaves phase) ws a h = absurd cc
calls_none Breaks ws a h = absurd cc
calls_none Rests ws a h = absurd cc

blocks_none : (rule : ExitRule) (s : PieceState) (t : ℕ) (l : Look) (ws : List ℕ) (a : Accessing) → accessing l ws ≡ Some a
    → BlocksAt rule s t l → ⊥
blocks_none rule s t (Asks request go) ws a h blocks =
    subst (BlocksCall s t) (calls_none (Asks request go) ws a h) blocks
blocks_none rule s t (Goes x) ws a h blocks = absurd cc
blocks_none rule s t (Leaves phase) ws a h blocks = absurd cc
blocks_none rule s t Breaks ws a h blocks = absurd cc
blocks_none rule s t Rests ws a h blocks = absurd cc

apart : (v v' : View) (phases : List FutexPhase) (t : ℕ) (e : Event) → can_move (concrete v) t ≡ true
    → MakesAccess v t e v' → IsApart v.program (pieces (record { view = v; phases = phases })) t
apart v v' phases t e can m = record {
  thread = m.origin;
  stands = m.stands;
  awake = awake (concrete v) t can;
  none = calls_none (look v.program t m.origin) v.words m.access m.makes;
  free = blocks_none _ (pieces (record { view = v; phases = phases })) t (look v.program t m.origin) v.words m.access m.makes;
}

-- nor is it a local step
not_local : (l : Look) (ws : List ℕ) (a : Accessing) → accessing l ws ≡ Some a → is_some (local_next l) ≡ false
not_local (Asks request go) ws a h = refl
not_local (Goes x) ws a h = absurd cc
not_local (Leaves phase) ws a h = refl
not_local Breaks ws a h = refl
not_local Rests ws a h = refl

no_local : (v v' : View) (t : ℕ) (e : Event) → MakesAccess v t e v' → HasNoLocal v t
no_local v v' t e m = λ x at.
    ap (λ (y : Thread). is_some (local_next (look v.program t y))) (one_thread x m.origin (sym at ∙ m.stands))
    ∙ not_local (look v.program t m.origin) v.words m.access m.makes

-- the holders are as before
holders_as : (v v' : View) (t : ℕ) (e : Event) → MakesAccess v t e v' → v'.sleepers.holders ≡ v.sleepers.holders
holders_as v v' t e m = ap (λ (q : View). q.sleepers.holders) m.after

gives : (v v' : View) (phases : List FutexPhase) (t : ℕ) (e : Event) → can_move (concrete v) t ≡ true
    → MakesAccess v t e v'
    → piece_of v.program (parts (record { view = v; phases = phases })) t
    ≡ Ok (parts (record { view = v'; phases = phases }), e)
gives v v' phases t e can m =
    whole_gives v v' phases t e (apart v v' phases t e can m) (holders_as v v' t e m) (access_steps v v' t e can m)

pub access_kept : (v v' : View) (phases : List FutexPhase) (t : ℕ) (made : Option Access) → IsKept v phases
    → can_move (concrete v) t ≡ true
    → MatchOption made ((v' ≡ v) × HasNoAccess v t) (λ told. MakesAccess v t (told_access told) v')
    → IsKept v' phases
access_kept v v' phases t (Some told) kept can m =
    kept_step v v' phases phases t (told_access told) kept (ap (λ (q : View). q.program) m.after) refl
    (gives v v' phases t (told_access told) can m)
access_kept v v' phases t None kept can m = subst (λ (q : View). IsKept q phases) (sym m.0) kept

pub access_done : (v v' : View) (phases : List FutexPhase) (t : ℕ) (made : Option Access)
    → can_move (concrete v) t ≡ true
    → MatchOption made ((v' ≡ v) × HasNoAccess v t) (λ told. MakesAccess v t (told_access told) v')
    → MatchOption made
    ((let w : PieceView = record { view = v'; phases = phases } in w) ≡ record { view = v; phases = phases }
    × HasNoAccess v t)
    (λ told. (piece_of v.program (parts (record { view = v; phases = phases })) t
    ≡ Ok (parts (record { view = v'; phases = phases }), told_access told))
    × HasNoLocal v t)
access_done v v' phases t (Some told) can m =
    (gives v v' phases t (told_access told) can m, no_local v v' t (told_access told) m)
access_done v v' phases t None can m = ((λ i. record { view = m.0 i; phases = phases }), m.1)

pub access_program : (v v' : View) (t : ℕ) (made : Option Access)
    → MatchOption made ((v' ≡ v) × HasNoAccess v t) (λ told. MakesAccess v t (told_access told) v')
    → v'.program ≡ v.program
access_program v v' t (Some told) m = ap (λ (q : View). q.program) m.after
access_program v v' t None m = ap (λ (q : View). q.program) m.0

-- local steps and the access behind them
pub walk_kept : (v v' : View) (phases : List FutexPhase) (t budget count : ℕ) (made : Option Access) → IsKept v phases
    → can_move (concrete v) t ≡ true → WalksOn v t budget count made v' → IsKept v' phases
walk_kept v v' phases t budget count made kept can w =
    let r = w.runs in
    access_kept w.mid v' phases t made (local_put v w.mid phases t r.here kept can
    (record { origin = r.origin; count = count; stands = r.stands; goes = r.goes }) r.after) w.moves w.made

pub walk_done : (v v' : View) (phases : List FutexPhase) (t budget count : ℕ) (made : Option Access)
    → WalksOn v t budget count made v'
    → WalksFrom (record { view = v; phases = phases }) t budget count made (record { view = v'; phases = phases })
walk_done v v' phases t budget count made w = record {
  mid = record { view = w.mid; phases = phases };
  runs = w.runs;
  moves = w.moves;
  phases = refl;
  made = access_done w.mid v' phases t made w.moves w.made;
}

pub walk_program : (v v' : View) (t budget count : ℕ) (made : Option Access) → WalksOn v t budget count made v'
    → v'.program ≡ v.program
walk_program v v' t budget count made w =
    access_program w.mid v' t made w.made ∙ ap (λ (q : View). q.program) w.runs.after

-- the same from where its local steps led the thread
pub from_kept : (v v' : View) (phases : List FutexPhase) (t : ℕ) (here there : Thread) (made : Option Access)
    → IsKept v phases → can_move (concrete v) t ≡ true → GoesTo v t here → AccessesFrom made v t here v' there
    → IsKept v' phases
from_kept v v' phases t here there (Some told) kept can goes m =
    let mid = placed v t here in
    kept_step mid v' phases phases t (told_access told) (local_put v mid phases t here kept can goes refl)
    (ap (λ (q : View). q.program) m.made.after) refl (gives mid v' phases t (told_access told) m.moved m.made)
from_kept v v' phases t here there None kept can goes m = subst (λ (q : View). IsKept q phases) (sym m.0) kept

pub from_done : (v v' : View) (phases : List FutexPhase) (t : ℕ) (here there : Thread) (made : Option Access)
    → GoesTo v t here → AccessesFrom made v t here v' there
    → MatchOption made
    (((let w : PieceView = record { view = v'; phases = phases } in w) ≡ record { view = v; phases = phases })
    × (there ≡ here) × (accessing (look v.program t here) v.words ≡ None))
    (λ told. DoneFrom told (record { view = v; phases = phases }) t here (record { view = v'; phases = phases }) there)
from_done v v' phases t here there (Some told) goes m =
    let mid = placed v t here in
    record {
      gives = gives mid v' phases t (told_access told) m.moved m.made;
      shared = no_local mid v' t (told_access told) m.made here (thread_at-put v.threads t goes.origin here goes.stands);
      stands = m.stands;
      moves = m.moves;
    }
from_done v v' phases t here there None goes m = ((λ i. record { view = m.0 i; phases = phases }), m.1, m.2)

pub from_program : (v v' : View) (t : ℕ) (here there : Thread) (made : Option Access) → AccessesFrom made v t here v' there
    → v'.program ≡ v.program
from_program v v' t here there (Some told) m = ap (λ (q : View). q.program) m.made.after
from_program v v' t here there None m = ap (λ (q : View). q.program) m.0
