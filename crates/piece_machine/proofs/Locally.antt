-- Local steps are steps of the machine with pieces, each by itself.
use Rattle.std.proofs.Common.{◌≡◌, ℕ, zero, suc, ◌-◌, List, [], ◌∷◌, ◌++◌, length, Option, Some, None, Ok, slice_set}
use Rattle.std.proofs.Common.{true, refl, sym, ap, ◌∙◌, subst, arith}
use Rattle.std.specs.Prelude.{slice_get}
use Rattle.isa.specs.Programs.{Program}
use Rattle.futexcalls.specs.declared.pieces.FutexPhase.{FutexPhase}
use Rattle.robustexit.specs.ExitRules.{exit_of}
use Rattle.locals.specs.Threads.{Thread}
use Rattle.locals.specs.Looks.{Look, Goes, Asks, Leaves, Breaks, Rests, look}
use Rattle.locals.specs.Steps.{local_next, local_step, and_step, local_after}
use Rattle.machine.specs.declared.event.EventName.TheVariants as name
use Rattle.machine.specs.States.{thread_at, state_of}
use Rattle.machine.specs.ConcreteServing.{plain}
use Rattle.machine.specs.ConcreteSteps.{thread_step, on_machine, step_awake, step_thread, step_of, put_thread, can_move}
use Rattle.machine.specs.PieceStates.{PieceState, opening_pieces}
use Rattle.machine.specs.PieceSteps.{IsPieceStep}
use Rattle.machine.specs.Runs.{Step}
use Rattle.machine.specs.Views.{View, concrete}
use Rattle.machine.proofs.Placing.{thread_at-put}
use Rattle.machine.proofs.Refusing.{moves_so}
use Rattle.piece_machine.specs.PieceConcrete.{PieceConcrete, pieces_at, piece_of, whole_at, with_local}
use Rattle.piece_machine.specs.PieceDetermined.{IsFit}
use Rattle.piece_machine.specs.PieceViews.{parts, own_step, IsApart, IsKept, IsComeTo, GoesTo}
use Rattle.piece_machine.proofs.Cases.{Stands, apart}
use Rattle.piece_machine.proofs.Determined.{whole_done}
use Rattle.piece_machine.proofs.Given.{whole_is}
use Rattle.piece_machine.proofs.Owns.{goes_more, kept_fit}

set_twice : {A : Type 0} → (xs : List A) (i : ℕ) (x y : A) → slice_set (slice_set xs i x) i y ≡ slice_set xs i y
set_twice [] i x y = refl
set_twice (z ∷ zs) zero x y = refl
set_twice (z ∷ zs) (suc i) x y = ap (λ ws. z ∷ ws) (set_twice zs i x y)

pub twice : (k : PieceConcrete) (t : ℕ) (x y : Thread) → with_local (with_local k t x) t y ≡ with_local k t y
twice k t x y = λ i. record k {
  concrete = record { common = k.concrete.common; threads = set_twice k.concrete.threads (t - 1) x y i };
}

-- what is put where it stood already
put_back : (xs : List Thread) (i : ℕ) (x : Thread) → slice_get xs i ≡ Some x → slice_set xs i x ≡ xs
put_back [] i x h = refl
put_back (y ∷ ys) zero x h = let e : y ≡ x = cc in ap (λ z. z ∷ ys) (sym e)
put_back (y ∷ ys) (suc i) x h = ap (λ zs. y ∷ zs) (put_back ys i x h)

pub set_same : (threads : List Thread) (t : ℕ) (x : Thread) → thread_at threads t ≡ Some x
    → slice_set threads (t - 1) x ≡ threads
set_same threads zero x h = absurd cc
set_same threads (suc t) x h =
    let e : suc t - 1 ≡ t = omega arith in ap (λ i. slice_set threads i x) e ∙ put_back threads t x h

-- what always holds, and that a run leads here
pub record IsIn (p : Program) (k : PieceConcrete) : Type 0 where
  pub fit : IsFit p k
  pub come : IsComeTo p (pieces_at k)

come_on : (p : Program) (s s' : PieceState) (step : Step) → IsComeTo p s → IsPieceStep p s step s' → IsComeTo p s'
come_on p s s' step come one = record {
  buckets = come.buckets;
  some = come.some;
  steps = come.steps ++ step ∷ [];
  run = goes_more p (opening_pieces p come.buckets) s s' come.steps step come.run one;
}

-- where a local step leads
look_goes : (l : Look) (z : Thread) → local_next l ≡ Some z → l ≡ Goes z
look_goes (Goes x) z h = let e : x ≡ z = cc in ap (λ y. Goes y) e
look_goes (Asks request go) z h = absurd cc
look_goes (Leaves phase) z h = absurd cc
look_goes Breaks z h = absurd cc
look_goes Rests z h = absurd cc

goes_apart : (p : Program) (k : PieceConcrete) (t : ℕ) (y z : Thread) → Stands p k t y → local_step p t y ≡ Some z
    → IsApart p (pieces_at k) t
goes_apart p k t y z stands goes =
    apart p k t y (Goes z) stands (look_goes (look p t y) z goes) refl (λ b. b)

goes_on : (p : Program) (k : PieceConcrete) (t : ℕ) (y z : Thread) → Stands p k t y → local_step p t y ≡ Some z
    → step_of p k.concrete t ≡ Ok (put_thread k.concrete t z, plain name.Local 0)
goes_on p k t y z stands goes =
    ap (step_thread p k.concrete t) stands.0 ∙ ap (step_awake p k.concrete t y) stands.1
    ∙ ap (λ l. on_machine k.concrete t (thread_step (exit_of p.version) (length k.concrete.threads) t k.concrete.common l))
    (look_goes (look p t y) z goes)

-- a local step is one of the machine with pieces
pub local_is : (p : Program) (k : PieceConcrete) (t : ℕ) (y z : Thread) → Stands p k t y → local_step p t y ≡ Some z
    → piece_of p k t ≡ Ok (with_local k t z, plain name.Local 0)
local_is p k t y z stands goes =
    whole_is p k t (goes_apart p k t y z stands goes) ∙ ap (whole_at k) (goes_on p k t y z stands goes)

local_one : (p : Program) (k : PieceConcrete) (t : ℕ) (y z : Thread) → IsIn p k → Stands p k t y → local_step p t y ≡ Some z
    → IsIn p (with_local k t z)
local_one p k t y z here stands goes =
    let r = whole_done p k (put_thread k.concrete t z) t (plain name.Local 0) here.fit
    (goes_apart p k t y z stands goes) (goes_on p k t y z stands goes) in
    record {
      fit = r.1;
      come = come_on p (pieces_at k) (pieces_at (with_local k t z))
          (own_step (pieces_at (with_local k t z)) t r.0.woken) here.come r.0.step;
    }

-- the thread of the step before the last
pub before_last : (p : Program) (t : ℕ) (o : Option Thread) (z : Thread) → and_step p t o ≡ Some z
    → (y : Thread) × (o ≡ Some y) × (local_step p t y ≡ Some z)
before_last p t None z h = absurd cc
before_last p t (Some y) z h = (y, refl, h)

pub locally : (p : Program) (k : PieceConcrete) (t : ℕ) (x here : Thread) (n : ℕ) → IsIn p k → Stands p k t x
    → local_after p t n x ≡ Some here → IsIn p (with_local k t here)
locally p k t x here zero is stands goes =
    let same : x ≡ here = cc in
    subst (IsIn p) (λ i. record k {
      concrete = record {
        common = k.concrete.common;
        threads = sym (set_same k.concrete.threads t here (stands.0 ∙ ap (λ y. Some y) same)) i;
      };
    }) is
locally p k t x here (suc n) is stands goes =
    let b = before_last p t (local_after p t n x) here goes in
    let mid = locally p k t x b.0 n is stands b.1 in
    subst (IsIn p) (twice k t b.0 here) (local_one p (with_local k t b.0) t b.0 here mid
    (thread_at-put k.concrete.threads t x b.0 stands.0, stands.1) b.2)

-- the same of a machine and its phases
pub local_kept : (v : View) (phases : List FutexPhase) (t : ℕ) (x here : Thread) (n : ℕ) → IsKept v phases
    → Stands v.program (parts (record { view = v; phases = phases })) t x → local_after v.program t n x ≡ Some here
    → IsKept (record v { threads = slice_set v.threads (t - 1) here }) phases
local_kept v phases t x here n kept stands goes =
    let r = locally v.program (parts (record { view = v; phases = phases })) t x here n
    (record { fit = kept_fit v phases kept; come = kept.come }) stands goes in
    record { well = r.fit.well; right = r.fit.right; come = r.come; long = kept.long }

pub local_put : (v v' : View) (phases : List FutexPhase) (t : ℕ) (here : Thread) → IsKept v phases
    → can_move (concrete v) t ≡ true → GoesTo v t here → v' ≡ record v { threads = slice_set v.threads (t - 1) here }
    → IsKept v' phases
local_put v v' phases t here kept can goes after =
    let c = (moves_so (concrete v) t).0 can in
    rw after (local_kept v phases t goes.origin here goes.count kept (goes.stands, c.awake) goes.goes)

-- a thread that its local steps led on from where it is
pub led_fit : (v : View) (phases : List FutexPhase) (t : ℕ) (here : Thread) → IsKept v phases → (goes : GoesTo v t here)
    → (state_of (concrete v)).asleep t ≡ None
    → IsFit v.program (with_local (parts (record { view = v; phases = phases })) t here)
led_fit v phases t here kept goes awake =
    (locally v.program (parts (record { view = v; phases = phases })) t goes.origin here goes.count
    (record { fit = kept_fit v phases kept; come = kept.come }) (goes.stands, awake) goes.goes).fit
