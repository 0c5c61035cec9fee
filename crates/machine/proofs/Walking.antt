-- A thread that takes local steps and makes the access behind them, both in its place.
use Rattle.std.proofs.Common.{◌≡◌, ◌≢◌, ◌≤◌, ◌-◌, ◌∙◌, ℕ, zero, suc, true, List, [], ◌∷◌, Option, Some, None, slice_set, refl, ap, subst}
use Rattle.std.specs.Prelude.{IfNone, IfSome, MatchOption}
use Rattle.isa.specs.Programs.{Program}
use Rattle.robustexit.specs.declared.phase.ExitPhase.TheVariants.{Ended}
use Rattle.locals.specs.declared.access.Access.{Access}
use Rattle.locals.specs.Looks.{look}
use Rattle.locals.specs.Threads.{Thread, Exits}
use Rattle.machine.specs.Accessing.{HasNoAccess, MakesAccess, told_access}
use Rattle.machine.specs.ConcreteSteps.{can_move}
use Rattle.machine.specs.LocalRuns.{WalkedSo, WalksOn}
use Rattle.machine.specs.States.{ConcreteState, thread_at}
use Rattle.machine.specs.Views.{CommonView, IsWellFormed, ShowsAble, parts_of}
use Rattle.machine.proofs.Ables.{keeps_put}
use Rattle.machine.proofs.Accessing.{access_keeps, access_moves, access_returns, after_view, mover_lives, shows_still, still_can}
use Rattle.machine.proofs.Placing.{thread_at-put}

put_twice : {A : Type 0} → (xs : List A) (i : ℕ) (x y : A) → slice_set (slice_set xs i x) i y ≡ slice_set xs i y
put_twice [] i x y = refl
put_twice (z ∷ zs) zero x y = refl
put_twice (z ∷ zs) (suc i) x y = ap (λ ws. z ∷ ws) (put_twice zs i x y)

-- what always holds is kept
pub walk_keeps : (p : Program) (c c' : CommonView) (threads : List Thread) (t budget count : ℕ) (x x' : Thread)
    (made : Option Access) (bits : List ℕ) → 1 ≤ t → thread_at threads t ≡ Some x
    → can_move (parts_of c threads) t ≡ true
    → IsWellFormed p (parts_of c threads) → ShowsAble bits (parts_of c threads)
    → WalkedSo p t budget c c' x x' count made
    → IsWellFormed p (parts_of c' (slice_set threads (t - 1) x'))
    × ShowsAble bits (parts_of c' (slice_set threads (t - 1) x'))
walk_keeps p c c' threads t budget count x x' made bits some stands can well shows w =
    let k : ConcreteState = parts_of c threads in
    let alive : w.here ≢ Exits Ended = w.lives (mover_lives k t x stands can) in
    let mid = slice_set threads (t - 1) w.here in
    let r = access_keeps p c c' mid t w.here x' made bits some (thread_at-put threads t x w.here stands)
    (still_can k k.common.words t w.here x stands can alive) (keeps_put p k t w.here well)
    (shows_still k k.common.words t w.here x bits some stands can alive shows) w.did w.none w.after in
    let same = put_twice threads (t - 1) w.here x' in (
      subst (λ (ts : List Thread). IsWellFormed p (parts_of c' ts)) same r.0,
      subst (λ (ts : List Thread). ShowsAble bits (parts_of c' ts)) same r.1,
    )

-- it is what the machine says of it
pub walk_returns : (p : Program) (c c' : CommonView) (threads : List Thread) (t budget count : ℕ) (x x' : Thread)
    (made : Option Access) → 1 ≤ t → thread_at threads t ≡ Some x → can_move (parts_of c threads) t ≡ true
    → WalkedSo p t budget c c' x x' count made
    → WalksOn (after_view p c threads) t budget count made (after_view p c' (slice_set threads (t - 1) x'))
walk_returns p c c' threads t budget count x x' made some stands can w =
    let k : ConcreteState = parts_of c threads in
    let alive : w.here ≢ Exits Ended = w.lives (mover_lives k t x stands can) in
    let mid = slice_set threads (t - 1) w.here in
    record {
      mid = after_view p c mid;
      runs = record {
        origin = x;
        here = w.here;
        stands = stands;
        goes = w.goes;
        within = w.within;
        whole = w.whole;
        after = refl;
      };
      moves = still_can k k.common.words t w.here x stands can alive;
      made = subst (λ (ts : List Thread). MatchOption made ((after_view p c' ts ≡ after_view p c mid)
          × HasNoAccess (after_view p c mid) t)
          (λ told. MakesAccess (after_view p c mid) t (told_access told) (after_view p c' ts)))
          (put_twice threads (t - 1) w.here x')
          (access_returns p c c' mid t w.here x' made some (thread_at-put threads t x w.here stands) w.did w.none);
    }

moves_by : (p : Program) (c c' : CommonView) (threads : List Thread) (t : ℕ) (here x' : Thread) (made : Option Access)
    → can_move (parts_of c (slice_set threads (t - 1) here)) t ≡ true → IfNone made ((x' ≡ here) × (c' ≡ c))
    → IfSome made (λ told. can_move (parts_of c' (slice_set threads (t - 1) x')) t ≡ true)
    → can_move (parts_of c' (slice_set threads (t - 1) x')) t ≡ true
moves_by p c c' threads t here x' None can none some =
    (λ i. can_move (parts_of (none.1 i) (slice_set threads (t - 1) (none.0 i))) t) ∙ can
moves_by p c c' threads t here x' (Some told) can none some = some

-- and the thread can move still
pub walk_moves : (p : Program) (c c' : CommonView) (threads : List Thread) (t budget count : ℕ) (x x' : Thread)
    (made : Option Access) → thread_at threads t ≡ Some x → can_move (parts_of c threads) t ≡ true
    → WalkedSo p t budget c c' x x' count made
    → can_move (parts_of c' (slice_set threads (t - 1) x')) t ≡ true
walk_moves p c c' threads t budget count x x' made stands can w =
    let k : ConcreteState = parts_of c threads in
    let alive : w.here ≢ Exits Ended = w.lives (mover_lives k t x stands can) in
    let mid = slice_set threads (t - 1) w.here in
    let can' = still_can k k.common.words t w.here x stands can alive in
    moves_by p c c' threads t w.here x' made can' w.none
    (subst (λ (ts : List Thread). IfSome made (λ told. can_move (parts_of c' ts) t ≡ true))
    (put_twice threads (t - 1) w.here x')
    (access_moves c c' (look p t w.here) mid t w.here x' made (thread_at-put threads t x w.here stands) can' w.did w.after))
