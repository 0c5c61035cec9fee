-- Each step of a thread's own keeps that buckets are held as the phases say.
use Rattle.std.proofs.Common.{◌≡◌, ◌≢◌, ◌∙◌, ℕ, suc, ◌+◌, ◌%◌, ◌<◌, ◌≤◌, ◌==◌, ◌⊎◌, ◌||◌, inl, inr, Option, Some, None}
use Rattle.std.proofs.Common.{List, [], ◌∷◌, refl, sym, ap, subst, Bool, true, false, arith}
use Rattle.std.specs.Prelude.{if◌then◌else◌, nat_le}
use Rattle.std.proofs.lemmas.Bool.{eqb-true, eqb-false, eq-eqb, cases_eq, cases_Bool, both_ways, or_cases, or_left}
use Rattle.std.proofs.lemmas.Bool.{or_right}
use Rattle.isa.specs.Programs.{Program}
use Rattle.words.specs.Updates.{put}
use Rattle.buckets.specs.Places.{names, with_place}
use Rattle.futexcalls.specs.FutexCalls.{Wakes}
use Rattle.futexcalls.specs.declared.pieces.FutexCall.{FutexCall}
use Rattle.futexcalls.specs.declared.pieces.FutexCall.TheVariants.{Wait, Wake, Requeue}
use Rattle.futexcalls.specs.declared.pieces.FutexPhase.{FutexPhase}
use Rattle.futexcalls.specs.declared.pieces.FutexPhase.TheVariants.{First, Second, Compare, Act}
use Rattle.futexcalls.specs.Pieces.{lesser, greater, buckets_of, takes_at, after_lock, IsPhase, LiesIn}
use Rattle.futexcalls.specs.Pieces.{RequeuesCompared}
use Rattle.futexcalls.specs.Pieces.{Acts}
use Rattle.robustexit.specs.RobustExit.{Shared, ExitStep, EntryStep, PendingStep, IsPending, IsForeign, IsPassed, IsOwned}
use Rattle.robustexit.specs.RobustExit.{NoEntry}
use Rattle.robustexit.specs.RobustExit.{IsIdle}
use Rattle.robustexit.specs.declared.phase.ExitPhase.{ExitPhase}
use Rattle.robustexit.specs.declared.phase.ExitPhase.TheVariants.{Entry, Pending, ClearId, LastWake, Ended}
use Rattle.locals.specs.Threads.{Thread, Exits, opening_thread}
use Rattle.locals.specs.Looks.{Request, AskLoad, AskStore, AskSwap, AskCompareSwap, AskOr, AskAdd, AskFork, AskPrint}
use Rattle.locals.specs.Looks.{AskWait, AskWake, AskRequeue, AskReturn, AskReturnValue, AskFault, Asks, look}
use Rattle.machine.specs.States.{State, with_sleepers, with_word}
use Rattle.machine.specs.AbstractServing.{Serves, shared_of, with_shared, with_child}
use Rattle.machine.specs.PieceStates.{PieceState, request_of, call_of, called, held, IsHeldRight}
use Rattle.futexcalls.specs.Pieces.{held_at}
use Rattle.machine.specs.PieceSteps.{goes_outside, Piece, IsLocal, IsPlain, IsExit, IsLock, IsEqual, IsAgain, IsAct}
use Rattle.machine.proofs.Placing.{put-here, put-there}
use Rattle.machine.proofs.Sleeping.{placed, unplaced}
use Rattle.proof_pieces.proofs.Calls.{called_is}
use Rattle.proof_pieces.proofs.Wholly.{unmade_first}
use Rattle.robustexit.specs.ExitRules.{exit_of}
use Rattle.robustexit.specs.declared.rule.ExitRule.{ExitRule}

-- what a step leaves as it was: sizes, threads outside it, who is awake
pub record Keeps (s : PieceState) (t : ℕ) (mid : State) : Type 0 where
  pub size : mid.size ≡ s.base.size
  pub more : s.base.made ≤ mid.made
  pub few : (u : ℕ) (z : Thread) → mid.thread u ≡ Some z → u < mid.made + 1
  pub same : (u : ℕ) → (mid.thread u ≡ s.base.thread u) ⊎ (s.phase u ≡ First)
  pub awake : (u : ℕ) → u ≢ t → s.base.asleep u ≡ None → mid.asleep u ≡ None

pub kept_on : (p : Program) (s : PieceState) (t : ℕ) (mid : State) (bs : List ℕ) (y x : Thread) → IsHeldRight p s
    → s.base.thread t ≡ Some x → bs ≡ held p s t → Keeps s t mid → IsHeldRight p (goes_outside s t mid bs y)
kept_on p s t mid bs y x right stands gives keeps = record {
  some = right.some;
  few = λ u z e. elim (cases_eq u t) [
    | inl q ↦ let less : t < s.base.made + 1 = right.few t x stands in omega (arith, less, q, keeps.more)
    | inr ne ↦ keeps.few u z (sym (put-there mid.thread t (Some y) u ne) ∙ e)
  ];
  apart = λ u. elim (cases_eq u t) [
    | inl q ↦ inl (put-here s.phase t First u q)
    | inr ne ↦ elim (right.apart u) [
      | inl f ↦ inl (put-there s.phase t First u ne ∙ f)
      | inr w ↦ elim (keeps.same u) [
        | inr f ↦ inl (put-there s.phase t First u ne ∙ f)
        | inl e ↦ inr (record {
          thread = w.thread;
          call = w.call;
          go = w.go;
          stands = put-there mid.thread t (Some y) u ne ∙ e ∙ w.stands;
          asks = w.asks;
          there = subst (λ f. IsPhase s.buckets f w.call) (sym (put-there s.phase t First u ne)) w.there;
          lies = subst (λ z. LiesIn z w.call) (sym keeps.size) w.lies;
          awake = keeps.awake u ne w.awake;
        })
      ]
    ]
  ];
  right = λ b u h. elim (cases_Bool (names bs b)) [
    | inl q ↦ absurd (let none : None ≡ Some u = sym (placed s.holder bs None b q) ∙ h in cc)
    | inr out ↦ let hold : s.holder b ≡ Some u = sym (unplaced s.holder bs None b out) ∙ h in
        elim (cases_eq u t) [
          | inl q ↦ absurd (both_ways _ out (ap (λ l. names l b) gives ∙ ap (λ j. names (held p s j) b) (sym q)
              ∙ right.right b u hold))
          | inr ne ↦ ap (λ l. names l b) (other u ne) ∙ right.right b u hold
        ]
  ];
  all = λ b u h. elim (cases_eq u t) [
    | inl q ↦ absurd (both_ways _ (ap (λ g. names (held_at s.buckets g (called p u (put mid.thread t (Some y) u))) b)
        (put-here s.phase t First u q)) h)
    | inr ne ↦ let hold : s.holder b ≡ Some u = right.all b u (ap (λ l. names l b) (sym (other u ne)) ∙ h) in
        elim (cases_Bool (names bs b)) [
          | inl q ↦ absurd (ne (let mine : s.holder b ≡ Some t = right.all b t (ap (λ l. names l b) (sym gives) ∙ q) in
              let e : Some u ≡ Some t = sym hold ∙ mine in cc))
          | inr out ↦ unplaced s.holder bs None b out ∙ hold
        ]
  ];
}
  where
    other : (u : ℕ) → u ≢ t → held p (goes_outside s t mid bs y) u ≡ held p s u
    other u ne = elim (keeps.same u) [
      | inl e ↦ ap (λ f. held_at s.buckets f (called p u (put mid.thread t (Some y) u)))
          (put-there s.phase t First u ne)
          ∙ ap (λ o. held_at s.buckets (s.phase u) (called p u o)) (put-there mid.thread t (Some y) u ne ∙ e)
      | inr f ↦ ap (λ g. held_at s.buckets g (called p u (put mid.thread t (Some y) u)))
          (put-there s.phase t First u ne ∙ f)
          ∙ sym (ap (λ g. held_at s.buckets g (called p u (s.base.thread u))) f)
    ]

-- the threads stay and nobody falls asleep
plainly : (p : Program) (s : PieceState) (t : ℕ) (mid : State) → IsHeldRight p s → mid.size ≡ s.base.size → mid.made
    ≡ s.base.made
    → mid.thread ≡ s.base.thread → ((u : ℕ) → u ≢ t → s.base.asleep u ≡ None → mid.asleep u ≡ None) → Keeps s t mid
plainly p s t mid right size made threads awake = record {
  size = size;
  more = omega (arith, made);
  few = λ u z e. let less : u < s.base.made + 1 = right.few u z (sym (ap (λ f. f u) threads) ∙ e) in omega
      (arith, less, made);
  same = λ u. inl (ap (λ f. f u) threads);
  awake = awake;
}

keeps_child : (p : Program) (s : PieceState) (t entry : ℕ) (arguments : List ℕ) → IsHeldRight p s
    → Keeps s t (with_child s.base entry arguments)
keeps_child p s t entry arguments right = record {
  size = refl;
  more = omega arith;
  few = λ u z e. elim (cases_eq u (suc s.base.made)) [
    | inl q ↦ omega (arith, q)
    | inr ne ↦ let less : u < s.base.made + 1 = right.few u z
        (sym (put-there s.base.thread (suc s.base.made) (Some (opening_thread entry arguments)) u ne) ∙ e) in
        omega (arith, less)
  ];
  same = λ u. elim (cases_eq u (suc s.base.made)) [
    | inl q ↦ inr (ap s.phase q ∙ unmade_first p s right)
    | inr ne ↦ inl (put-there s.base.thread (suc s.base.made) (Some (opening_thread entry arguments)) u ne)
  ];
  awake = λ u ne h. h;
}

module _ (p : Program) (s : PieceState) (t : ℕ) (right : IsHeldRight p s) where
  keeps_base : Keeps s t s.base
  keeps_base = plainly p s t s.base right refl refl refl (λ u ne h. h)

  keeps_word : (a v : ℕ) → Keeps s t (with_word s.base a v)
  keeps_word a v = plainly p s t (with_word s.base a v) right refl refl refl (λ u ne h. h)

  keeps_if : (b : Bool) (a v : ℕ) → Keeps s t (if b then with_word s.base a v else s.base)
  keeps_if true a v = keeps_word a v
  keeps_if false a v = keeps_base

  keeps_plain : (request : Request) (woken : List ℕ) (answer : ℕ) (mid : State) → call_of request ≡ None
      → Serves t request s.base woken answer mid → Keeps s t mid
  keeps_plain (AskLoad a) woken answer mid own h = subst (Keeps s t) (sym h.1.1.1) keeps_base
  keeps_plain (AskStore a v) woken answer mid own h = subst (Keeps s t) (sym h.1.1.1) (keeps_word _ _)
  keeps_plain (AskSwap a v) woken answer mid own h = subst (Keeps s t) (sym h.1.1.1) (keeps_word _ _)
  keeps_plain (AskCompareSwap a expected new) woken answer mid own h =
      subst (Keeps s t) (sym h.1.1.1) (keeps_if (s.base.word a == expected) a new)
  keeps_plain (AskOr a v) woken answer mid own h = subst (Keeps s t) (sym h.1.1.1) (keeps_word _ _)
  keeps_plain (AskAdd a v) woken answer mid own h = subst (Keeps s t) (sym h.1.1.1) (keeps_word _ _)
  keeps_plain (AskFork entry arguments has_room) woken answer mid own h = elim h.1 [
    | inl r ↦ subst (Keeps s t) (sym r.2) keeps_base
    | inr m ↦ subst (Keeps s t) (sym m.3) (keeps_child p s t entry arguments right)
  ]
  keeps_plain (AskPrint number) woken answer mid own h =
      subst (Keeps s t) (sym h.1.1) (plainly p s t _ right refl refl refl (λ u ne e. e))
  keeps_plain AskReturn woken answer mid own h = subst (Keeps s t) (sym h.1.1) (keeps_word _ _)
  keeps_plain (AskReturnValue v) woken answer mid own h =
      subst (Keeps s t) (sym h.1.1) (plainly p s t _ right refl refl refl (λ u ne e. e))
  keeps_plain (AskFault cause) woken answer mid own h = subst (Keeps s t) (sym h.1.1) (keeps_word _ _)
  keeps_plain (AskWait a expected) woken answer mid own h = absurd cc
  keeps_plain (AskWake a n) woken answer mid own h = absurd cc
  keeps_plain (AskRequeue a b n m expected) woken answer mid own h = absurd cc

  pub keeps_sleepers : (after : ℕ → Option ℕ) → ((u : ℕ) → u ≢ t → s.base.asleep u ≡ None → after u ≡ None)
      → Keeps s t (with_sleepers s.base after)
  keeps_sleepers after awake = plainly p s t (with_sleepers s.base after) right refl refl refl awake

if_awake : (b : Bool) (o : Option ℕ) → o ≡ None → (if b then None else o) ≡ None
if_awake true o h = refl
if_awake false o h = h

wakes_awake : (z after : ℕ → Option ℕ) (a n : ℕ) (xs : List ℕ) → Wakes z a n xs after → (u : ℕ) → z u ≡ None → after u
    ≡ None
wakes_awake z after a n xs h u none = ap (λ f. f u) h.awake ∙ if_awake (names xs u) (z u) none

-- whoever a requeue moves slept
requeue_awake : (z after : ℕ → Option ℕ) (a b n m : ℕ) (woken moved : List ℕ) → RequeuesCompared z a b n m woken moved
    after
    → (u : ℕ) → z u ≡ None → after u ≡ None
requeue_awake z after a b n m woken moved h u none = ap (λ f. f u) h.moves.goes ∙ by_test (names moved u) refl
  where
    awake : with_place z woken None u ≡ None
    awake = if_awake (names woken u) (z u) none

    by_test : (q : Bool) → names moved u ≡ q → (if q then Some b else with_place z woken None u) ≡ None
    by_test false q = awake
    by_test true q = elim (cases_eq a b) [
      | inl e ↦ absurd (let nobody : names [] u ≡ true = ap (λ xs. names xs u) (sym (h.moves.none e)) ∙ q in cc)
      | inr ne ↦ absurd (let slept : None ≡ Some a = sym awake ∙ (h.moves.choice ne).slept u q in cc)
    ]

exit_awake : (rule : ExitRule) (size t : ℕ) (phase next : ExitPhase) (sh after : Shared) (woken : List ℕ)
    → ExitStep rule size t phase sh woken after next → (u : ℕ) → sh.asleep u ≡ None → after.asleep u ≡ None
exit_awake rule size t phase next sh after woken h u none = by_phase phase h
  where
    idle : IsIdle sh woken after → after.asleep u ≡ None
    idle i = ap (λ (x : Shared). x.asleep u) i.same ∙ none

    entry : (e : ℕ) → EntryStep size t e sh woken after → after.asleep u ≡ None
    entry e (IsPending q i) = idle i
    entry e (IsForeign q i) = idle i
    entry e (IsOwned q a) = wakes_awake _ _ _ _ _ a.wakes u none

    pending : (e : ℕ) → PendingStep rule size t e sh woken after → after.asleep u ≡ None
    pending e (NoEntry q i) = idle i
    pending e (IsForeign q o r w) = wakes_awake _ _ _ _ _ w.wakes u none
    pending e (IsPassed q o r i) = idle i
    pending e (IsOwned q a) = wakes_awake _ _ _ _ _ a.wakes u none

    by_phase : (ph : ExitPhase) → ExitStep rule size t ph sh woken after next → after.asleep u ≡ None
    by_phase (Entry e n) h = elim h [ inl r ↦ entry e.0 r.1 | inr i ↦ idle i.1 ]
    by_phase Pending h = pending _ h.0
    by_phase ClearId h = ap (λ (x : Shared). x.asleep u) h.1 ∙ none
    by_phase LastWake h = wakes_awake _ _ _ _ _ h.0.wakes u none
    by_phase Ended h = absurd h

-- a bucket taken is held besides those held before
or_swap : (a b : Bool) → (a || (b || false)) ≡ (b || (a || false))
or_swap true true = refl
or_swap true false = refl
or_swap false true = refl
or_swap false false = refl

same_two : (i j c : ℕ) → (i == j) ≡ true → (b : Bool)
    → names ((if b then i else j) ∷ (if b then j else i) ∷ []) c ≡ ((c == (if b then i else j)) || false)
same_two i j c e true = rw (sym (eqb-true i j e)) (twice (c == i))
  where
    twice : (b : Bool) → (b || (b || false)) ≡ (b || false)
    twice true = refl
    twice false = refl
same_two i j c e false = rw (eqb-true i j e) (twice (c == j))
  where
    twice : (b : Bool) → (b || (b || false)) ≡ (b || false)
    twice true = refl
    twice false = refl

lock_names : (n : ℕ) (ph : FutexPhase) (call : FutexCall) (b c : ℕ) → takes_at n ph call ≡ Some b
    → names (held_at n (after_lock n ph call) (Some call)) c ≡ ((c == b) || names (held_at n ph (Some call)) c)
lock_names n First (Wait a expected) b c h = let e : a.0 % n ≡ b = cc in ap (λ x. names (x ∷ []) c) e
lock_names n First (Wake a wakes) b c h = let e : a.0 % n ≡ b = cc in ap (λ x. names (x ∷ []) c) e
lock_names n First (Requeue x y wakes moves expected) b c h =
    let e : lesser (x.0 % n) (y.0 % n) ≡ b = cc in by_test (x.0 % n == y.0 % n) refl ∙ ap (λ l. (c == l) || false) e
  where
    by_test : (q : Bool) → (x.0 % n == y.0 % n) ≡ q
        → names (held_at n (if q then Compare else Second) (Some (Requeue x y wakes moves expected))) c
        ≡ ((c == lesser (x.0 % n) (y.0 % n)) || false)
    by_test true q = same_two (x.0 % n) (y.0 % n) c q (nat_le (x.0 % n) (y.0 % n))
    by_test false q = refl
lock_names n Second (Wait a expected) b c h = absurd cc
lock_names n Second (Wake a wakes) b c h = absurd cc
lock_names n Second (Requeue x y wakes moves expected) b c h =
    let e : greater (x.0 % n) (y.0 % n) ≡ b = cc in
    or_swap (c == lesser (x.0 % n) (y.0 % n)) (c == greater (x.0 % n) (y.0 % n))
    ∙ ap (λ l. (c == l) || ((c == lesser (x.0 % n) (y.0 % n)) || false)) e
lock_names n Compare call b c h = absurd cc
lock_names n Act call b c h = absurd cc

lock_phase : (n : ℕ) (ph : FutexPhase) (call : FutexCall) (b : ℕ) → takes_at n ph call ≡ Some b
    → IsPhase n (after_lock n ph call) call
lock_phase n First (Wait a expected) b h = tt
lock_phase n First (Wake a wakes) b h = tt
lock_phase n First (Requeue x y wakes moves expected) b h = by_test (x.0 % n == y.0 % n) refl
  where
    by_test : (q : Bool) → (x.0 % n == y.0 % n) ≡ q
        → IsPhase n (if q then Compare else Second) (Requeue x y wakes moves expected)
    by_test true q = tt
    by_test false q = eqb-false (x.0 % n) (y.0 % n) q
lock_phase n Second (Wait a expected) b h = absurd cc
lock_phase n Second (Wake a wakes) b h = absurd cc
lock_phase n Second (Requeue x y wakes moves expected) b h = tt
lock_phase n Compare call b h = absurd cc
lock_phase n Act call b h = absurd cc

kept_lock : (p : Program) (s : PieceState) (t b : ℕ) (x : Thread) (call : FutexCall) (go : ℕ → Thread)
    → IsHeldRight p s → s.base.thread t ≡ Some x → s.base.asleep t ≡ None → look p t x ≡ Asks (request_of call) go
    → LiesIn s.base.size call → takes_at s.buckets (s.phase t) call ≡ Some b → s.holder b ≡ None
    → IsHeldRight p (record s {
      phase = put s.phase t (after_lock s.buckets (s.phase t) call);
      holder = put s.holder b (Some t);
    })
kept_lock p s t b x call go right stands awake looks lies takes free = record {
  some = right.some;
  few = right.few;
  apart = λ u. elim (cases_eq u t) [
    | inl q ↦ inr (record {
      thread = x;
      call = call;
      go = go;
      stands = ap s.base.thread q ∙ stands;
      asks = ap (λ j. look p j x) q ∙ looks;
      there = subst (λ f. IsPhase s.buckets f call) (sym (put-here s.phase t after u q))
          (lock_phase s.buckets (s.phase t) call b takes);
      lies = lies;
      awake = ap s.base.asleep q ∙ awake;
    })
    | inr ne ↦ elim (right.apart u) [
      | inl f ↦ inl (put-there s.phase t after u ne ∙ f)
      | inr w ↦ inr (record {
        thread = w.thread;
        call = w.call;
        go = w.go;
        stands = w.stands;
        asks = w.asks;
        there = subst (λ f. IsPhase s.buckets f w.call) (sym (put-there s.phase t after u ne)) w.there;
        lies = w.lies;
        awake = w.awake;
      })
    ]
  ];
  right = λ c u h. elim (cases_eq c b) [
    | inl q ↦ let e : Some t ≡ Some u = sym (put-here s.holder b (Some t) c q) ∙ h in
        let is : t ≡ u = cc in
        ap (λ j. names (late j) c) (sym is) ∙ mine c ∙ or_left (c == b) _ (eq-eqb c b q)
    | inr apart ↦ let hold : s.holder c ≡ Some u = sym (put-there s.holder b (Some t) c apart) ∙ h in
        elim (cases_eq u t) [
          | inl q ↦ ap (λ j. names (late j) c) q ∙ mine c
              ∙ or_right (c == b) _ (ap (λ j. names (held p s j) c) (sym q) ∙ right.right c u hold)
          | inr ne ↦ ap (λ l. names l c) (other u ne) ∙ right.right c u hold
        ]
  ];
  all = λ c u h. elim (cases_eq u t) [
    | inl q ↦ elim (or_cases (c == b) _ (sym (mine c) ∙ ap (λ j. names (late j) c) (sym q) ∙ h)) [
      | inl e ↦ put-here s.holder b (Some t) c (eqb-true c b e) ∙ ap (λ j. Some j) (sym q)
      | inr e ↦ keeps_hold c u (right.all c t e ∙ ap (λ j. Some j) (sym q))
    ]
    | inr ne ↦ keeps_hold c u (right.all c u (ap (λ l. names l c) (sym (other u ne)) ∙ h))
  ];
}
  where
    after : FutexPhase
    after = after_lock s.buckets (s.phase t) call

    late : ℕ → List ℕ
    late u = held_at s.buckets (put s.phase t (after_lock s.buckets (s.phase t) call) u) (called p u (s.base.thread u))

    mine : (c : ℕ) → names (late t) c ≡ ((c == b) || names (held p s t) c)
    mine c = ap (λ f. names (held_at s.buckets f (called p t (s.base.thread t))) c)
        (put-here s.phase t (after_lock s.buckets (s.phase t) call) t refl)
        ∙ ap (λ o. names (held_at s.buckets (after_lock s.buckets (s.phase t) call) o) c)
        (called_is p t x call go (s.base.thread t) stands looks)
        ∙ lock_names s.buckets (s.phase t) call b c takes
        ∙ ap (λ o. (c == b) || names (held_at s.buckets (s.phase t) o) c)
        (sym (called_is p t x call go (s.base.thread t) stands looks))

    other : (u : ℕ) → u ≢ t → late u ≡ held p s u
    other u ne = ap (λ f. held_at s.buckets f (called p u (s.base.thread u)))
        (put-there s.phase t (after_lock s.buckets (s.phase t) call) u ne)

    keeps_hold : (c u : ℕ) → s.holder c ≡ Some u → put s.holder b (Some t) c ≡ Some u
    keeps_hold c u hold = elim (cases_eq c b) [
      | inl q ↦ absurd (let e : None ≡ Some u = sym free ∙ ap s.holder (sym q) ∙ hold in cc)
      | inr apart ↦ put-there s.holder b (Some t) c apart ∙ hold
    ]

act_phase : (n : ℕ) (call : FutexCall) → IsPhase n Act call
act_phase n (Wait a expected) = tt
act_phase n (Wake a wakes) = tt
act_phase n (Requeue a b wakes moves expected) = tt

kept_equal : (p : Program) (s : PieceState) (t : ℕ) → IsHeldRight p s → s.phase t ≡ Compare
    → IsHeldRight p (record s { phase = put s.phase t Act })
kept_equal p s t right at = record {
  some = right.some;
  few = right.few;
  apart = λ u. elim (right.apart u) [
    | inl f ↦ inl (put-there s.phase t Act u (λ q. absurd (let e : First ≡ Compare = sym f ∙ ap s.phase q ∙ at in cc))
        ∙ f)
    | inr w ↦ inr (record {
      thread = w.thread;
      call = w.call;
      go = w.go;
      stands = w.stands;
      asks = w.asks;
      there = elim (cases_eq u t) [
        | inl q ↦ subst (λ f. IsPhase s.buckets f w.call) (sym (put-here s.phase t Act u q))
            (act_phase s.buckets w.call)
        | inr ne ↦ subst (λ f. IsPhase s.buckets f w.call) (sym (put-there s.phase t Act u ne)) w.there
      ];
      lies = w.lies;
      awake = w.awake;
    })
  ];
  right = λ c u h. ap (λ l. names l c) (same u) ∙ right.right c u h;
  all = λ c u h. right.all c u (ap (λ l. names l c) (sym (same u)) ∙ h);
}
  where
    same : (u : ℕ) → held_at s.buckets (put s.phase t Act u) (called p u (s.base.thread u)) ≡ held p s u
    same u = elim (cases_eq u t) [
      | inl q ↦ ap (λ f. held_at s.buckets f (called p u (s.base.thread u))) (put-here s.phase t Act u q)
          ∙ sym (ap (λ f. held_at s.buckets f (called p u (s.base.thread u))) (ap s.phase q ∙ at))
      | inr ne ↦ ap (λ f. held_at s.buckets f (called p u (s.base.thread u))) (put-there s.phase t Act u ne)
    ]

module _ (p : Program) (s s' : PieceState) (t : ℕ) (x : Thread) (woken : List ℕ) (right : IsHeldRight p s)
    (stands : s.base.thread t ≡ Some x) (awake : s.base.asleep t ≡ None) where
  outside : s.phase t ≡ First → [] ≡ held p s t
  outside first = sym (ap (λ f. held_at s.buckets f (called p t (s.base.thread t))) first)

  held_so : (call : FutexCall) (go : ℕ → Thread) (ph : FutexPhase) → look p t x ≡ Asks (request_of call) go
      → s.phase t ≡ ph → held_at s.buckets ph (Some call) ≡ held p s t
  held_so call go ph looks at = sym (ap (held_at s.buckets (s.phase t))
      (called_is p t x call go (s.base.thread t) stands looks)
      ∙ ap (λ f. held_at s.buckets f (Some call)) at)

  act_keeps : (call : FutexCall) (moved : List ℕ) (after : ℕ → Option ℕ) → Acts t call s.base.asleep woken moved after
      → Keeps s t (with_sleepers s.base after)
  act_keeps (Wait a expected) moved after h = keeps_sleepers p s t right after
      (λ u ne none. ap (λ f. f u) h.2 ∙ alone u ne ∙ none)
    where
      alone : (u : ℕ) → u ≢ t → with_place s.base.asleep (t ∷ []) (Some a.0) u ≡ s.base.asleep u
      alone u ne = by_test (u == t) refl
        where
          by_test : (b : Bool) → (u == t) ≡ b → (if b || false then Some a.0 else s.base.asleep u) ≡ s.base.asleep u
          by_test true q = absurd (ne (eqb-true u t q))
          by_test false q = refl
  act_keeps (Wake a n) moved after h = keeps_sleepers p s t right after (λ u ne none. wakes_awake _ _ _ _ _ h.1 u none)
  act_keeps (Requeue a b n m expected) moved after h =
      keeps_sleepers p s t right after (λ u ne none. requeue_awake _ _ _ _ _ _ _ _ h u none)

  pub piece_kept : Piece p s t x woken s' → IsHeldRight p s'
  piece_kept (IsLocal y looks first nobody e) = subst (IsHeldRight p) (sym e)
      (kept_on p s t s.base [] y x right stands (outside first) (keeps_base p s t right))
  piece_kept (IsPlain request go answer mid looks isnt first serves e) = subst (IsHeldRight p) (sym e)
      (kept_on p s t mid [] (go answer) x right stands (outside first)
      (keeps_plain p s t right request woken answer mid isnt serves))
  piece_kept (IsExit phase after next looks first step free e) = subst (IsHeldRight p) (sym e)
      (kept_on p s t (with_shared s.base after) [] (Exits next) x right stands (outside first)
      (plainly p s t (with_shared s.base after) right refl refl refl
      (λ u ne none. exit_awake (exit_of p.version) s.base.size t phase next (shared_of s.base) after woken step u none)))
  piece_kept (IsLock call go b looks lies takes free nobody e) = subst (IsHeldRight p) (sym e)
      (kept_lock p s t b x call go right stands awake looks lies takes free)
  piece_kept (IsEqual call go a v looks is at equal nobody e) = subst (IsHeldRight p) (sym e)
      (kept_equal p s t right at)
  piece_kept (IsAgain call go a v looks is at differs nobody e) = subst (IsHeldRight p) (sym e)
      (kept_on p s t s.base (buckets_of s.buckets call) _ x right stands (held_so call go Compare looks at)
      (keeps_base p s t right))
  piece_kept (IsAct call go moved after looks act h e) = subst (IsHeldRight p) (sym e)
      (kept_on p s t (with_sleepers s.base after) (buckets_of s.buckets call) _ x right stands
      (held_so call go Act looks act)
      (act_keeps call moved after h))
