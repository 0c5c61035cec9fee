-- From a state outside calls, of which a live one is further on, a run of the threads' own steps wakes its thread.
use Rattle.std.proofs.Common.{◌≡◌, ◌<◌, ◌⊎◌, ℕ, zero, suc, Bool, Option, Some, None, List, [], ◌∷◌, Contains}
use Rattle.std.proofs.Common.{inl, inr, refl, sym, arith, subst}
use Rattle.std.specs.Prelude.{ℤ}
use Rattle.isa.specs.Programs.{Program}
use Rattle.futexcalls.specs.FutexCalls.{IsChoice}
use Rattle.locals.specs.Threads.{Thread}
use Rattle.locals.specs.Looks.{look}
use Rattle.machine.specs.States.{State}
use Rattle.machine.specs.Runs.{IsBroken, NextIsBroken}
use Rattle.machine.specs.PieceStates.{PieceState, IsHeldRight}
use Rattle.proof_pieces.specs.WholeCalls.{IsWholeStep}
use Rattle.proof_image_search.specs.Searching.{IsApart, Kept}
use Rattle.proof_image_search.proofs.Ahead.{Ahead, AllAhead, ahead, stands_back}
use Rattle.proof_image_search.proofs.Further.{IsFurtherOn, further, itself_further}
use Rattle.proof_image_search.proofs.Closing.{Reached, broken_on}
use Rattle.proof_image_liveness.specs.Sleeping.{AreLive, IsFew, IsLive, IsWoken, LeadsOn, LeadsOnBy}
use Rattle.proof_image_liveness.proofs.Calling.{finish, wake_so}
use Rattle.proof_image_liveness.proofs.Going.{IsOutside, OwnRun, Stood, run_up, then_run}
use Rattle.proof_image_liveness.proofs.Landing.{landed}
use Rattle.proof_image_liveness.proofs.Settling.{Ready, ready}

-- a run leads to where one of these is further on
record Went (p : Program) (alone : Bool) (lives : List Kept) (n : ℕ) (s : PieceState) : Type 0 where
  after : PieceState
  run : OwnRun p s after
  right : IsHeldRight p after
  outside : IsOutside after
  reached : Reached p alone lives after.base n

module _ (p : Program) (alone : Bool) (lives : List Kept) (n : ℕ) (s : PieceState) (here : ℕ → Option Thread) (output : List ℤ)
    (right : IsHeldRight p s) (outside : IsOutside s) (all : AllAhead p s.base.thread here) where
  -- the thread takes its local steps
  stood : (u : ℕ) (y : Thread) → here u ≡ Some y → s.base.asleep u ≡ None
      → (s' : PieceState) × Stood p u y here output s s'
  stood u y at awake = by_back (stands_back p u y (s.base.thread u) (here u) at (all u))
    where
      by_back : (x : Thread) × (k : ℕ) × (s.base.thread u ≡ Some x) × Ahead p u k x y
          → (s' : PieceState) × Stood p u y here output s s'
      by_back (x, k, stands, on) = run_up p u y here output at k x s right outside stands awake all on

  few_there : (s' : PieceState) → ahead s'.base here output ≡ ahead s.base here output → IsFew (ahead s.base here output)
      → IsFew s'.base
  few_there s' same few =
      let there : IsFew (ahead s'.base here output) = subst (λ (q : State). IsFew q) (sym same) few in
      record { most = there.most; asleep = there.asleep; made = there.made }

  -- and then its next step
  go_on : LeadsOn p alone lives (record { state = ahead s.base here output; killed = n }) → Went p alone lives n s
  go_on on = by_stood (stood on.thread on.can.thread on.can.stands on.can.awake)
    where
      by_stood : (s' : PieceState) × Stood p on.thread on.can.thread here output s s' → Went p alone lives n s
      by_stood (s', stood) =
          let whole : IsBroken s'.base (look p on.thread on.can.thread) → ⊥ = λ breaks. on.whole
          (subst (λ (q : State). NextIsBroken p q on.thread) stood.same
          (broken_on p alone s'.base here s'.base.word output (itself_further p alone s'.base here stood.all) on.thread
          (record { thread = on.can.thread; stands = stood.stands; awake = stood.awake; breaks = breaks }))) in
          let f = finish p on.thread on.can.thread s' stood.right stood.outside stood.stands stood.awake
          (few_there s' stood.same on.few) whole on.can.goes_on in
          record {
            after = f.after;
            run = then_run p s s' f.after stood.run f.run;
            right = f.right;
            outside = f.outside;
            reached = landed p alone lives n s'.base here output stood.all
                (λ f. subst (IsApart p) (sym stood.same) (on.apart f)) on.thread on.can.thread on.can.stands stood.awake
                f.woken (λ z h. on.leads f.woken z (subst (λ (q : State). IsWholeStep p q on.thread f.woken z) stood.same h))
                f.after.base f.moves;
          }

  go_by : LeadsOnBy p alone lives (record { state = ahead s.base here output; killed = n }) → IsFew (ahead s.base here output)
      → Went p alone lives n s
  go_by on few = by_stood (stood on.thread on.local on.stands on.awake)
    where
      by_stood : (s' : PieceState) × Stood p on.thread on.local here output s s' → Went p alone lives n s
      by_stood (s', stood) =
          let f = wake_so p on.thread on.local s' stood.right stood.outside stood.stands stood.awake
          (few_there s' stood.same few) on.address on.count on.go on.asks
          (subst (λ (q : State). on.address < q.size) (sym stood.same) on.lies) on.woken
          (subst (λ (q : State). IsChoice q.asleep on.address on.count on.woken)
          (sym stood.same) on.choice) in
          record {
            after = f.0.after;
            run = then_run p s s' f.0.after stood.run f.0.run;
            right = f.0.right;
            outside = f.0.outside;
            reached = landed p alone lives n s'.base here output stood.all
                (λ f. subst (IsApart p) (sym stood.same) (on.apart f)) on.thread on.local on.stands stood.awake
                f.0.woken (λ z h. on.leads z (subst (λ (q : State). IsWholeStep p q on.thread on.woken z) stood.same
                (subst (λ w. IsWholeStep p (ahead s'.base here output) on.thread w z) f.1 h)))
                f.0.after.base f.0.moves;
          }

-- a state of a list is its first one or behind it
first_or : (r x : Kept) (lives : List Kept) → Contains (r ∷ lives) x → (r ≡ x) ⊎ Contains lives x
first_or r x lives (zero, less, e) = inl e
first_or r x lives (suc k, less, e) = inr (k, omega (arith, less), e)

-- the state is first made ready
module _ (p : Program) (alone : Bool) (lives : List Kept) (n : ℕ) (s : PieceState) (right : IsHeldRight p s)
    (outside : IsOutside s) (here : ℕ → Option Thread) (words : ℕ → ℕ) (output : List ℤ)
    (all : IsFurtherOn p alone s.base here words) where
  now_few : IsFew (further s.base here words output) → IsFew s.base
  now_few few = record { most = few.most; asleep = few.asleep; made = few.made }

  then_went : (r : Ready p alone here words output s) → Went p alone lives n r.after → Went p alone lives n s
  then_went r w = record {
    after = w.after;
    run = then_run p s r.after w.after r.run w.run;
    right = w.right;
    outside = w.outside;
    reached = w.reached;
  }

  goes_on : LeadsOn p alone lives (record { state = further s.base here words output; killed = n })
      → Went p alone lives n s
  goes_on on = by_ready (ready p alone here words output s right outside all (now_few on.few))
    where
      by_ready : Ready p alone here words output s → Went p alone lives n s
      by_ready r = then_went r (go_on p alone lives n r.after here output r.right r.outside r.all
          (subst (λ (q : State). LeadsOn p alone lives (record { state = q; killed = n })) (sym r.same) on))

  goes_by : LeadsOnBy p alone lives (record { state = further s.base here words output; killed = n })
      → Went p alone lives n s
  goes_by on = by_ready (ready p alone here words output s right outside all (now_few on.few))
    where
      by_ready : Ready p alone here words output s → Went p alone lives n s
      by_ready r = then_went r (go_by p alone lives n r.after here output r.right r.outside r.all
          (subst (λ (q : State). LeadsOnBy p alone lives (record { state = q; killed = n })) (sym r.same) on)
          (subst (λ (q : State). IsFew q) (sym r.same) on.few))

-- whoever some of these states are ahead of goes on to where thread t is awake
abbrev Again : Program → Bool → ℕ → List Kept → Type 0
Again p alone t lives =
    (z : PieceState) (k : ℕ) → IsHeldRight p z → IsOutside z → Reached p alone lives z.base k → IsWoken p z t

-- by a list of live states
pub wakes : (p : Program) (alone : Bool) (t : ℕ) (lives : List Kept) → AreLive p alone t lives → (s : PieceState) (n : ℕ) → IsHeldRight p s
    → IsOutside s → Reached p alone lives s.base n → IsWoken p s t
wakes p alone t [] live s n right outside reached = absurd (let less = reached.is.1 in omega (arith, less))
wakes p alone t (r ∷ lives) live s n right outside reached = by_place (λ z k right' outside' reached'. wakes p alone t lives live.1 z k right' outside' reached') (first_or r _ lives reached.is)
  where
    more : Again p alone t lives → Went p alone lives n s → IsWoken p s t
    more again went =
        let w = again went.after n went.right went.outside went.reached in
        let run = then_run p s went.after w.after went.run (record { steps = w.steps; goes = w.goes; own = w.own }) in
        record { steps = run.steps; after = w.after; goes = run.goes; own = run.own; awake = w.awake }

    by_live : Again p alone t lives → IsLive p alone t lives (record { state = further s.base reached.here reached.words reached.output; killed = n }) → IsWoken p s t
    by_live again (inl awake) =
        record { steps = []; after = s; goes = refl; own = tt; awake = awake }
    by_live again (inr (inl on)) = more again
        (goes_on p alone lives n s right outside reached.here reached.words reached.output reached.all on)
    by_live again (inr (inr on)) = more again
        (goes_by p alone lives n s right outside reached.here reached.words reached.output reached.all on)

    by_place : Again p alone t lives → (r ≡ record { state = further s.base reached.here reached.words reached.output; killed = n })
        ⊎ Contains lives (record { state = further s.base reached.here reached.words reached.output; killed = n }) → IsWoken p s t
    by_place again (inl e) = by_live again (subst (IsLive p alone t lives) e live.0)
    by_place again (inr is) = again s n right outside
        (record { here = reached.here; words = reached.words; output = reached.output; all = reached.all; is = is })
