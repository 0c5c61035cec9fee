-- At rest no bucket is held, and the whole rests too.
use Rattle.std.proofs.Common.{◌≡◌, ◌∙◌, ℕ, zero, suc, ◌+◌, ◌%◌, ◌<◌, ◌≤◌, ◌==◌, inl, inr, Option, Some, None}
use Rattle.std.proofs.Common.{[], ◌∷◌, refl, sym, ap, subst, Bool, true, false, arith}
use Rattle.std.specs.Prelude.{if◌then◌else◌, nat_le}
use Rattle.std.proofs.lemmas.Bool.{eqb-true, or_cases, both_ways}
use Rattle.std.proofs.lemmas.Bool.Decides.{leb_tells}
use Rattle.std.proofs.lemmas.Nat.{mod_below}
use Rattle.isa.specs.Programs.{Program}
use Rattle.buckets.specs.Places.{names}
use Rattle.futexcalls.specs.declared.pieces.FutexCall.{FutexCall}
use Rattle.futexcalls.specs.declared.pieces.FutexCall.TheVariants.{Wait, Wake, Requeue}
use Rattle.futexcalls.specs.declared.pieces.FutexPhase.{FutexPhase}
use Rattle.futexcalls.specs.declared.pieces.FutexPhase.TheVariants.{First, Second, Compare, Act}
use Rattle.futexcalls.specs.Pieces.{lesser, greater, buckets_of, takes_at, IsPhase, LiesIn}
use Rattle.robustexit.specs.declared.phase.ExitPhase.TheVariants.{Entry, Pending, ClearId, LastWake, Ended}
use Rattle.locals.specs.Threads.{Thread, Runs, Dies, Exits}
use Rattle.locals.specs.Looks.{Request, AskLoad, Look, Goes, Asks, Leaves, Breaks, Rests, look}
use Rattle.machine.specs.States.{State}
use Rattle.machine.specs.AbstractServing.{IsUnserved}
use Rattle.machine.specs.Runs.{CanStep, NextIsBroken, IsBroken, has_ended}
use Rattle.machine.specs.PieceStates.{PieceState, request_of, call_of, called, committed, committed_at}
use Rattle.futexcalls.specs.Pieces.{held_at}
use Rattle.machine.specs.PieceStates.{IsHeldRight, IsWithin}
use Rattle.robustexit.specs.declared.rule.ExitRule.{ExitRule}
use Rattle.robustexit.specs.ExitRules.{exit_of}
use Rattle.machine.specs.PieceSteps.{CanTakePiece, BlocksCall, BlocksAt, NextPieceIsBroken}
use Rattle.proof_pieces.specs.Whole.{either, behind, whole_at, whole}
use Rattle.proof_pieces.proofs.Calls.{call_back, called_is}

-- whoever makes a call has not ended
asks_on : (p : Program) (t : ℕ) (x : Thread) (request : Request) (go : ℕ → Thread) → look p t x ≡ Asks request go
    → has_ended (Some x) ≡ false
asks_on p t (Runs place operands locals callers) request go h = refl
asks_on p t (Dies cause) request go h = refl
asks_on p t (Exits (Entry e seen)) request go h = refl
asks_on p t (Exits Pending) request go h = refl
asks_on p t (Exits ClearId) request go h = refl
asks_on p t (Exits LastWake) request go h = refl
asks_on p t (Exits Ended) request go h = absurd cc

one_named : (i c : ℕ) → names (i ∷ []) c ≡ true → c ≡ i
one_named i c h = elim (or_cases (c == i) false h) [ inl e ↦ eqb-true c i e | inr f ↦ absurd cc ]

below_two : (n i j c : ℕ) → i < n → j < n → names (i ∷ j ∷ []) c ≡ true → c < n
below_two n i j c low high h = elim (or_cases (c == i) _ h) [
  | inl e ↦ let is : c ≡ i = eqb-true c i e in omega (arith, low, is)
  | inr e ↦ let is : c ≡ j = one_named j c e in omega (arith, high, is)
]

if_below : (n i j : ℕ) (b : Bool) → i < n → j < n → (if b then i else j) < n
if_below n i j true low high = low
if_below n i j false low high = high

-- a bucket's number is below their count
below_of : (n : ℕ) (call : FutexCall) (c : ℕ) → 0 < n → names (buckets_of n call) c ≡ true → c < n
below_of n (Wait a expected) c some h =
    let is : c ≡ a.0 % n = one_named (a.0 % n) c h in
    let low : a.0 % n < n = mod_below a.0 n some in
    omega (arith, low, is)
below_of n (Wake a wakes) c some h =
    let is : c ≡ a.0 % n = one_named (a.0 % n) c h in
    let low : a.0 % n < n = mod_below a.0 n some in
    omega (arith, low, is)
below_of n (Requeue a b wakes moves expected) c some h =
    below_two n (lesser (a.0 % n) (b.0 % n)) (greater (a.0 % n) (b.0 % n)) c
    (if_below n _ _ (nat_le (a.0 % n) (b.0 % n)) (mod_below a.0 n some) (mod_below b.0 n some))
    (if_below n _ _ (nat_le (a.0 % n) (b.0 % n)) (mod_below b.0 n some) (mod_below a.0 n some)) h

below_at : (n : ℕ) (ph : FutexPhase) (call : FutexCall) (c : ℕ) → 0 < n → IsPhase n ph call
    → names (held_at n ph (Some call)) c ≡ true → c < n
below_at n Second (Requeue a b wakes moves expected) c some there h =
    let is : c ≡ lesser (a.0 % n) (b.0 % n) = one_named _ c h in
    let low : lesser (a.0 % n) (b.0 % n) < n =
    if_below n _ _ (nat_le (a.0 % n) (b.0 % n)) (mod_below a.0 n some) (mod_below b.0 n some) in
    omega (arith, low, is)
below_at n Second (Wait a expected) c some there h = absurd there
below_at n Second (Wake a wakes) c some there h = absurd there
below_at n First call c some there h = absurd there
below_at n Compare call c some there h = below_of n call c some h
below_at n Act call c some there h = below_of n call c some h

-- what a call holds is below what it takes
waits_above : (n : ℕ) (ph : FutexPhase) (call : FutexCall) (c b : ℕ) → IsPhase n ph call → takes_at n ph call ≡ Some b
    → names (held_at n ph (Some call)) c ≡ true → c < b
waits_above n Second (Requeue x y wakes moves expected) c b apart takes h =
    let low : c ≡ lesser (x.0 % n) (y.0 % n) = one_named _ c h in
    let high : greater (x.0 % n) (y.0 % n) ≡ b = cc in
    let less : lesser (x.0 % n) (y.0 % n) < greater (x.0 % n) (y.0 % n) = by_test (nat_le (x.0 % n) (y.0 % n)) refl in
    omega (arith, low, high, less)
  where
    by_test : (q : Bool) → nat_le (x.0 % n) (y.0 % n) ≡ q
        → (if q then x.0 % n else y.0 % n) < (if q then y.0 % n else x.0 % n)
    by_test true q = elim (leb_tells (x.0 % n) (y.0 % n)) [
      | inl le ↦ let order : x.0 % n ≤ y.0 % n = le.1 in omega (arith, apart, order)
      | inr lt ↦ absurd (both_ways _ lt.0 q)
    ]
    by_test false q = elim (leb_tells (x.0 % n) (y.0 % n)) [
      | inl le ↦ absurd (both_ways _ q le.0)
      | inr lt ↦ let order : y.0 % n < x.0 % n = lt.1 in order
    ]
waits_above n Second (Wait a expected) c b there takes h = absurd there
waits_above n Second (Wake a wakes) c b there takes h = absurd there
waits_above n First call c b there takes h = absurd there
waits_above n Compare call c b there takes h = absurd cc
waits_above n Act call c b there takes h = absurd cc

-- a call past First holds a bucket
holds_some : (n : ℕ) (ph : FutexPhase) (call : FutexCall) → IsPhase n ph call
    → (b : ℕ) × (names (held_at n ph (Some call)) b ≡ true)
holds_some n Second (Requeue x y wakes moves expected) there = (lesser (x.0 % n) (y.0 % n), grind arith)
holds_some n Compare (Requeue x y wakes moves expected) there = (lesser (x.0 % n) (y.0 % n), grind arith)
holds_some n Act (Requeue x y wakes moves expected) there = (lesser (x.0 % n) (y.0 % n), grind arith)
holds_some n Compare (Wait a expected) there = (a.0 % n, grind arith)
holds_some n Act (Wait a expected) there = (a.0 % n, grind arith)
holds_some n Act (Wake a wakes) there = (a.0 % n, grind arith)
holds_some n Compare (Wake a wakes) there = absurd there
holds_some n Second (Wait a expected) there = absurd there
holds_some n Second (Wake a wakes) there = absurd there
holds_some n First call there = absurd there

module _ (p : Program) (s : PieceState) (right : IsHeldRight p s) where
  call_within : (u : ℕ) (w : IsWithin p s u) → called p u (s.base.thread u) ≡ Some w.call
  call_within u w = called_is p u w.thread w.call w.go (s.base.thread u) w.stands w.asks

  holder_within : (b u : ℕ) → s.holder b ≡ Some u → IsWithin p s u
  holder_within b u h = elim (right.apart u) [
    | inr w ↦ w
    | inl first ↦ absurd (let held_now : names [] b ≡ true =
        sym (ap (λ f. names (held_at s.buckets f (called p u (s.base.thread u))) b) first) ∙ right.right b u h in cc)
  ]

  held_within : (b u : ℕ) (w : IsWithin p s u) → s.holder b ≡ Some u
      → names (held_at s.buckets (s.phase u) (Some w.call)) b ≡ true
  held_within b u w h =
      sym (ap (λ o. names (held_at s.buckets (s.phase u) o) b) (call_within u w)) ∙ right.right b u h

  abbrev Higher : ℕ → Type 0
  Higher b = (c v : ℕ) → b < c → s.holder c ≡ Some v → (t : ℕ) × IsWithin p s t × CanTakePiece p s t

  -- from a held bucket up to one whose holder can go on
  climb : (fuel b u : ℕ) → s.buckets ≤ b + fuel → s.holder b ≡ Some u
      → (t : ℕ) × IsWithin p s t × CanTakePiece p s t
  climb zero b u enough h =
      let w = holder_within b u h in
      let low : b < s.buckets = below_at s.buckets (s.phase u) w.call b right.some w.there (held_within b u w h) in
      absurd (omega (arith, low, enough))
  climb (suc fuel) b u enough h =
      by_next (λ c v above taken. climb fuel c v (omega (arith, above, enough)) taken)
      (takes_at s.buckets (s.phase u) w.call) refl
    where
      w : IsWithin p s u
      w = holder_within b u h

      takes : (BlocksCall s u (Some w.call) → ⊥) → (t : ℕ) × IsWithin p s t × CanTakePiece p s t
      takes free = (
        u,
        w,
        record {
          thread = w.thread;
          stands = w.stands;
          awake = w.awake;
          goes_on = asks_on p u w.thread (request_of w.call) w.go w.asks;
          free = λ blocked. free (subst (BlocksCall s u) (call_back w.call) (subst (BlocksAt (exit_of p.version) s u) w.asks blocked));
        },
      )

      by_holder : Higher b → (c : ℕ) (o : Option ℕ) → takes_at s.buckets (s.phase u) w.call ≡ Some c → s.holder c ≡ o
          → (t : ℕ) × IsWithin p s t × CanTakePiece p s t
      by_holder higher c None next free = takes (λ k. let e : Some c ≡ Some k.1 = sym next ∙ k.3 in
          let same : c ≡ k.1 = cc in
          let e' : None ≡ Some k.2 = sym free ∙ ap s.holder same ∙ k.4 in cc)
      by_holder higher c (Some v) next taken =
          let above : b < c = waits_above s.buckets (s.phase u) w.call b c w.there next (held_within b u w h) in
          higher c v above taken

      by_next : Higher b → (o : Option ℕ) → takes_at s.buckets (s.phase u) w.call ≡ o
          → (t : ℕ) × IsWithin p s t × CanTakePiece p s t
      by_next higher None none = takes (λ k. let e : None ≡ Some k.1 = sym none ∙ k.3 in cc)
      by_next higher (Some c) next = by_holder higher c (s.holder c) next refl

  free_all : ((t : ℕ) → CanTakePiece p s t → ⊥) → (b : ℕ) → s.holder b ≡ None
  free_all stuck b = by_holder (s.holder b) refl
    where
      by_holder : (o : Option ℕ) → s.holder b ≡ o → o ≡ None
      by_holder None h = refl
      by_holder (Some u) h = let r = climb s.buckets b u (omega arith) h in absurd (stuck r.0 r.2)

  all_first : ((b : ℕ) → s.holder b ≡ None) → (u : ℕ) → s.phase u ≡ First
  all_first free u = elim (right.apart u) [
    | inl first ↦ first
    | inr w ↦ absurd (let r = holds_some s.buckets (s.phase u) w.call w.there in
        let mine : s.holder r.0 ≡ Some u = right.all r.0 u
        (ap (λ o. names (held_at s.buckets (s.phase u) o) r.0) (call_within u w) ∙ r.1) in
        let e : None ≡ Some u = sym (free r.0) ∙ mine in cc)
  ]

  unblocked_call : ((b : ℕ) → s.holder b ≡ None) → (t : ℕ) (o : Option FutexCall) → BlocksCall s t o → ⊥
  unblocked_call free t None k = k
  unblocked_call free t (Some call) k = let e : None ≡ Some k.2 = sym (free k.1) ∙ k.4 in cc

  unblocked : (rule : ExitRule) → ((b : ℕ) → s.holder b ≡ None) → (t : ℕ) (l : Look) → BlocksAt rule s t l → ⊥
  unblocked rule free t (Asks request go) k = unblocked_call free t (call_of request) k
  unblocked rule free t (Leaves phase) k = let e : None ≡ Some k.1 = sym (free _) ∙ k.3 in cc
  unblocked rule free t (Goes x) k = k
  unblocked rule free t Breaks k = k
  unblocked rule free t Rests k = k

  -- a thread of the whole that is awake and outside calls is the machine's
  whole_first : (t : ℕ) (y : Thread) → s.phase t ≡ First → (whole p s).thread t ≡ Some y → s.base.thread t ≡ Some y
  whole_first t y first h = by_thread (s.base.thread t) (sym (ap (λ f. whole_at p t f (s.base.thread t)) first) ∙ h)
    where
      by_thread : (o : Option Thread) → whole_at p t First o ≡ Some y → o ≡ Some y
      by_thread None e = absurd cc
      by_thread (Some x) e = e

  awake_first : (t : ℕ) → (whole p s).asleep t ≡ None → s.base.asleep t ≡ None
  awake_first t h = by_place (s.base.asleep t) h
    where
      by_place : (o : Option ℕ) → either o (committed p s t) ≡ None → o ≡ None
      by_place None e = refl
      by_place (Some a) e = e

  outside_whole : (u : ℕ) (o : Option Thread) → whole_at p u First o ≡ o
  outside_whole u None = refl
  outside_whole u (Some x) = refl

  either_none : (o : Option ℕ) → either o None ≡ o
  either_none (Some a) = refl
  either_none None = refl

  -- where each thread is outside calls, the whole is the machine's state
  whole_base : ((u : ℕ) → s.phase u ≡ First) → whole p s ≡ s.base
  whole_base first = λ k. record s.base { thread = λ u. threads u k; asleep = λ u. sleepers u k }
    where
      threads : (u : ℕ) → whole_at p u (s.phase u) (s.base.thread u) ≡ s.base.thread u
      threads u = ap (λ f. whole_at p u f (s.base.thread u)) (first u) ∙ outside_whole u (s.base.thread u)

      sleepers : (u : ℕ) → either (s.base.asleep u) (committed p s u) ≡ s.base.asleep u
      sleepers u = ap (λ f. either (s.base.asleep u) (committed_at f (called p u (s.base.thread u)))) (first u)
          ∙ either_none (s.base.asleep u)

  rests_so : ((t : ℕ) → CanTakePiece p s t → ⊥)
      → ((b : ℕ) → s.holder b ≡ None) × (whole p s ≡ s.base) × ((t : ℕ) → CanStep (whole p s) t → ⊥)
  rests_so stuck = (
    free_all stuck,
    whole_base (all_first (free_all stuck)),
    λ t c. stuck t (record {
      thread = c.thread;
      stands = whole_first t c.thread (all_first (free_all stuck) t) c.stands;
      awake = awake_first t c.awake;
      goes_on = c.goes_on;
      free = unblocked _ (free_all stuck) t _;
    }),
  )

pub rests : (p : Program) (s : PieceState) → IsHeldRight p s → ((t : ℕ) → CanTakePiece p s t → ⊥)
    → ((b : ℕ) → s.holder b ≡ None) × (whole p s ≡ s.base) × ((t : ℕ) → CanStep (whole p s) t → ⊥)
rests p s right = rests_so p s right

pub holders_go_on : (p : Program) (s : PieceState) (b u : ℕ) → IsHeldRight p s → s.holder b ≡ Some u
    → (t : ℕ) × IsWithin p s t × CanTakePiece p s t
holders_go_on p s b u right h = climb p s right s.buckets b u (omega arith) h

pub sleeps_so : (p : Program) (s : PieceState) (t a : ℕ) → s.base.asleep t ≡ Some a → (whole p s).asleep t ≡ Some a
sleeps_so p s t a h = ap (λ o. either o (committed p s t)) h

-- what is unserved here is so in the whole, and back
unserved_there : (p : Program) (s : PieceState) (request : Request) → IsUnserved request s.base → IsUnserved request
    (whole p s)
unserved_there p s (AskLoad a) h = h
unserved_there p s request h = h

unserved_here : (p : Program) (s : PieceState) (request : Request) → IsUnserved request (whole p s) → IsUnserved request
    s.base
unserved_here p s (AskLoad a) h = h
unserved_here p s request h = h

broken_there : (p : Program) (s : PieceState) (l : Look) → IsBroken s.base l → IsBroken (whole p s) l
broken_there p s (Asks request go) h = unserved_there p s request h
broken_there p s l h = h

broken_here : (p : Program) (s : PieceState) (l : Look) → IsBroken (whole p s) l → IsBroken s.base l
broken_here p s (Asks request go) h = unserved_here p s request h
broken_here p s l h = h

lies_served : (s : State) (call : FutexCall) → LiesIn s.size call → IsUnserved (request_of call) s → ⊥
lies_served s (Wait a expected) lies h = h lies
lies_served s (Wake a n) lies h = h lies
lies_served s (Requeue a b n m expected) lies h = h lies

-- a thread that hasn't committed stands in the whole as here
plain_there : (ph : FutexPhase) (call : FutexCall) (go : ℕ → Thread) (x : Thread) → committed_at ph (Some call) ≡ None
    → behind ph (Asks (request_of call) go) x ≡ x
plain_there Act (Wait a expected) go x h = absurd cc
plain_there Act (Wake a n) go x h = refl
plain_there Act (Requeue a b n m expected) go x h = refl
plain_there First call go x h = refl
plain_there Second call go x h = refl
plain_there Compare call go x h = refl

breaks_back : (p : Program) (s : PieceState) (t : ℕ) → IsHeldRight p s → NextIsBroken p (whole p s) t
    → NextPieceIsBroken p s t
breaks_back p s t right broken = elim (right.apart t) [
  | inl first ↦ (
    first,
    record {
      thread = broken.thread;
      stands = whole_first p s right t broken.thread first broken.stands;
      awake = awake_first p s right t broken.awake;
      breaks = broken_here p s _ broken.breaks;
    },
  )
  | inr w ↦ absurd (
      let free : committed_at (s.phase t) (Some w.call) ≡ None =
      sym (ap (committed_at (s.phase t)) (call_within p s right t w))
      ∙ sym (ap (λ o. either o (committed p s t)) w.awake) ∙ broken.awake in
      let is : Some w.thread ≡ Some broken.thread =
      sym (ap (λ y. Some y) (plain_there (s.phase t) w.call w.go w.thread free))
      ∙ sym (ap (λ l. Some (behind (s.phase t) l w.thread)) w.asks)
      ∙ sym (ap (whole_at p t (s.phase t)) w.stands) ∙ broken.stands in
      let same : w.thread ≡ broken.thread = cc in
      let unserved : IsBroken (whole p s) (Asks (request_of w.call) w.go) =
      subst (IsBroken (whole p s)) (ap (look p t) (sym same) ∙ w.asks) broken.breaks in
      lies_served (whole p s) w.call w.lies unserved)
]

pub breaks_both : (p : Program) (s : PieceState) (t : ℕ) → IsHeldRight p s
    → (NextPieceIsBroken p s t → NextIsBroken p (whole p s) t)
    × (NextIsBroken p (whole p s) t → NextPieceIsBroken p s t)
breaks_both p s t right = (
  λ h. record {
    thread = h.1.thread;
    stands = ap (λ f. whole_at p t f (s.base.thread t)) h.0 ∙ ap (whole_at p t First) h.1.stands;
    awake = ap (λ o. either o (committed p s t)) h.1.awake
        ∙ ap (λ f. committed_at f (called p t (s.base.thread t))) h.0;
    breaks = broken_there p s _ h.1.breaks;
  },
  breaks_back p s t right,
)
