-- Runs of the threads' own steps in pieces, and where no thread is within a call.
use Rattle.std.proofs.Common.{◌≡◌, ◌≢◌, ◌∙◌, ◌++◌, ℕ, zero, suc, true, false, List, [], ◌∷◌, Option, Some, None}
use Rattle.std.proofs.Common.{refl, sym, ap, subst}
use Rattle.std.specs.Prelude.{ℤ}
use Rattle.words.specs.Updates.{put}
use Rattle.words.proofs.Updates.{at_put, put_itself, put_same}
use Rattle.isa.specs.Programs.{Program}
use Rattle.buckets.specs.Places.{names}
use Rattle.futexcalls.specs.declared.pieces.FutexPhase.{FutexPhase}
use Rattle.futexcalls.specs.declared.pieces.FutexPhase.TheVariants.{First}
use Rattle.futexcalls.specs.Pieces.{held_at}
use Rattle.locals.specs.Threads.{Thread}
use Rattle.locals.specs.Looks.{Look, Asks, Breaks, Goes, Leaves, Rests, look}
use Rattle.locals.specs.Steps.{local_next}
use Rattle.machine.specs.Runs.{Step, Own, is_paused}
use Rattle.machine.specs.PieceStates.{PieceState, IsHeldRight, called, committed, committed_at}
use Rattle.machine.specs.PieceSteps.{GoesByPieces, IsLocal, IsPieceStep, Piece, goes_outside}
use Rattle.proof_pieces.specs.Whole.{either, whole, whole_at}
use Rattle.proof_pieces.proofs.Runs.{held_kept}
use Rattle.proof_image_search.proofs.Ahead.{Ahead, AheadAt, AllAhead, ahead, put_both}
use Rattle.proof_image_liveness.specs.Sleeping.{AreOwn}

-- a run of the threads' own steps from one state to another
pub record OwnRun (p : Program) (s s' : PieceState) : Type 0 where
  pub steps : List Step
  pub goes : GoesByPieces p s steps s'
  pub own : AreOwn steps

pub no_run : (p : Program) (s : PieceState) → OwnRun p s s
no_run p s = record { steps = []; goes = refl; own = tt }

pub one_run : (p : Program) (s s' : PieceState) (step : Step) → step.doing ≡ Own → IsPieceStep p s step s' → OwnRun p s s'
one_run p s s' step own h = record { steps = step ∷ []; goes = (s', h, refl); own = (own, tt) }

pub goes_both : (p : Program) (steps more : List Step) (s mid s' : PieceState) → GoesByPieces p s steps mid
    → GoesByPieces p mid more s' → GoesByPieces p s (steps ++ more) s'
goes_both p [] more s mid s' same rest = subst (λ z. GoesByPieces p z more s') (sym same) rest
goes_both p (step ∷ steps) more s mid s' run rest =
    (run.0, run.1, goes_both p steps more run.0 mid s' run.2 rest)

own_both : (steps more : List Step) → AreOwn steps → AreOwn more → AreOwn (steps ++ more)
own_both [] more h g = g
own_both (step ∷ steps) more h g = (h.0, own_both steps more h.1 g)

pub then_run : (p : Program) (s mid s' : PieceState) → OwnRun p s mid → OwnRun p mid s' → OwnRun p s s'
then_run p s mid s' a b = record {
  steps = a.steps ++ b.steps;
  goes = goes_both p a.steps b.steps s mid s' a.goes b.goes;
  own = own_both a.steps b.steps a.own b.own;
}

-- a step of thread u, which wakes these
abbrev pub step_by : PieceState → ℕ → List ℕ → Step
step_by s' u woken = record { thread = u; woken = woken; pauses = is_paused s'.base u; doing = Own }

pub taken : (p : Program) (s s' : PieceState) (u : ℕ) (x : Thread) (woken : List ℕ) → IsHeldRight p s
    → s.base.thread u ≡ Some x → s.base.asleep u ≡ None → Piece p s u x woken s' → OwnRun p s s' × IsHeldRight p s'
taken p s s' u x woken right stands awake piece =
    let h : IsPieceStep p s (step_by s' u woken) s' =
    record { thread = x; stands = stands; awake = awake; piece = piece; pauses = refl } in
    (one_run p s s' (step_by s' u woken) refl h, held_kept p s s' (step_by s' u woken) right h)

-- no thread is within a call
abbrev pub IsOutside : PieceState → Type 0
IsOutside s = (v : ℕ) → s.phase v ≡ First

-- no other thread is
abbrev pub IsAlone : PieceState → ℕ → FutexPhase → Type 0
IsAlone s u f = (s.phase u ≡ f) × ((v : ℕ) → v ≢ u → s.phase v ≡ First)

pub outside_on : (s : PieceState) (u : ℕ) → ((v : ℕ) → v ≢ u → s.phase v ≡ First) → (v : ℕ)
    → put s.phase u First v ≡ First
outside_on s u others v = at_put s.phase u First v (λ f. f ≡ First) (λ e. refl) (λ ne. others v ne)

outside_whole : (p : Program) (u : ℕ) (o : Option Thread) → whole_at p u First o ≡ o
outside_whole p u None = refl
outside_whole p u (Some x) = refl

either_none : (o : Option ℕ) → either o None ≡ o
either_none (Some a) = refl
either_none None = refl

-- then the whole is the machine's state
pub whole_base : (p : Program) (s : PieceState) → IsOutside s → whole p s ≡ s.base
whole_base p s outside = λ k. record s.base { thread = λ u. threads u k; asleep = λ u. sleepers u k }
  where
    threads : (u : ℕ) → whole_at p u (s.phase u) (s.base.thread u) ≡ s.base.thread u
    threads u = ap (λ f. whole_at p u f (s.base.thread u)) (outside u) ∙ outside_whole p u (s.base.thread u)

    sleepers : (u : ℕ) → either (s.base.asleep u) (committed p s u) ≡ s.base.asleep u
    sleepers u = ap (λ f. either (s.base.asleep u) (committed_at f (called p u (s.base.thread u)))) (outside u)
        ∙ either_none (s.base.asleep u)

-- and no bucket is held
pub nobody_holds : (p : Program) (s : PieceState) → IsHeldRight p s → IsOutside s → (b : ℕ) → s.holder b ≡ None
nobody_holds p s right outside b = by_holder (s.holder b) refl
  where
    by_holder : (o : Option ℕ) → s.holder b ≡ o → o ≡ None
    by_holder None h = refl
    by_holder (Some u) h = absurd (let held_now : names [] b ≡ true =
        sym (ap (λ f. names (held_at s.buckets f (called p u (s.base.thread u))) b) (outside u)) ∙ right.right b u h in
        let no' : false ≡ true = held_now in cc)

local_look : (l : Look) (m : Thread) → local_next l ≡ Some m → l ≡ Goes m
local_look (Goes x) m h = let same : x ≡ m = cc in ap (λ z. Goes z) same
local_look (Asks request go) m h = absurd cc
local_look (Leaves phase) m h = absurd cc
local_look Breaks m h = absurd cc
local_look Rests m h = absurd cc

-- a state in which thread u stands where it does further on
pub record Stood (p : Program) (u : ℕ) (y : Thread) (here : ℕ → Option Thread) (output : List ℤ) (s s' : PieceState) : Type 0
  where
    pub run : OwnRun p s s'
    pub right : IsHeldRight p s'
    pub outside : IsOutside s'
    pub stands : s'.base.thread u ≡ Some y
    pub awake : s'.base.asleep u ≡ None
    pub all : AllAhead p s'.base.thread here
    pub same : ahead s'.base here output ≡ ahead s.base here output

module _ (p : Program) (u : ℕ) (y : Thread) (here : ℕ → Option Thread) (output : List ℤ) (at : here u ≡ Some y) where
  -- it takes its local steps
  pub run_up : (k : ℕ) (x : Thread) (s : PieceState) → IsHeldRight p s → IsOutside s → s.base.thread u ≡ Some x
      → s.base.asleep u ≡ None → AllAhead p s.base.thread here → Ahead p u k x y
      → (s' : PieceState) × Stood p u y here output s s'
  run_up zero x s right outside stands awake all same = (
    s,
    record {
      run = no_run p s;
      right = right;
      outside = outside;
      stands = stands ∙ ap (λ z. Some z) same;
      awake = awake;
      all = all;
      same = refl;
    },
  )
  run_up (suc k) x s right outside stands awake all (m, first, alive, rest) =
      more (λ right_mid. run_up k m mid right_mid (outside_on s u (λ v ne. outside v)) (put_same s.base.thread u (Some m))
      awake all_mid rest)
      (taken p s mid u x [] right stands awake (IsLocal m (local_look (look p u x) m first) (outside u) refl refl))
    where
      mid : PieceState
      mid = goes_outside s u s.base [] m

      all_mid : AllAhead p (put s.base.thread u (Some m)) here
      all_mid v = subst (λ w. AheadAt p v (put s.base.thread u (Some m) v) w) (put_itself here u (Some y) v at)
          (put_both p s.base.thread here u (Some m) (Some y) all (k, rest) v)

      more : (IsHeldRight p mid → (s' : PieceState) × Stood p u y here output mid s') → OwnRun p s mid × IsHeldRight p mid
          → (s' : PieceState) × Stood p u y here output s s'
      more again (run, right_mid) =
          let h = again right_mid in (
            h.0,
            record {
              run = then_run p s mid h.0 run h.1.run;
              right = h.1.right;
              outside = h.1.outside;
              stands = h.1.stands;
              awake = h.1.awake;
              all = h.1.all;
              same = h.1.same;
            },
          )
