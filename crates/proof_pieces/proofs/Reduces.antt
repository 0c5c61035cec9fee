-- Each step of a thread's own is silent or one whole step.
use Rattle.std.proofs.Common.{◌≡◌, ◌≢◌, ◌∙◌, ℕ, ◌+◌, ◌%◌, ◌==◌, ◌⊎◌, ◌||◌, inl, inr, Option, Some, None, List, [], ◌∷◌}
use Rattle.std.proofs.Common.{length, refl, sym, ap, subst, Bool, true, false, arith, suc, ◌<◌, ◌≤◌, is_some, not}
use Rattle.std.specs.Prelude.{if◌then◌else◌, MatchBool}
use Rattle.std.proofs.lemmas.Bool.{eqb-true, both_ways}
use Rattle.isa.specs.Programs.{Program}
use Rattle.words.specs.Updates.{put}
use Rattle.buckets.specs.Places.{names, with_place}
use Rattle.futexcalls.specs.declared.pieces.FutexCall.{FutexCall}
use Rattle.futexcalls.specs.declared.pieces.FutexCall.TheVariants.{Wait, Wake, Requeue}
use Rattle.futexcalls.specs.declared.pieces.FutexPhase.{FutexPhase}
use Rattle.futexcalls.specs.declared.pieces.FutexPhase.TheVariants.{First, Second, Compare, Act}
use Rattle.futexcalls.specs.Pieces.{buckets_of, takes_at, after_lock, IsPhase, LiesIn, Compares, Acts}
use Rattle.locals.specs.Threads.{Thread, Exits}
use Rattle.locals.specs.Looks.{AskWait, Look, Goes, Asks, Leaves, look}
use Rattle.machine.proofs.Placing.{put-here}
use Rattle.machine.proofs.Sleeping.{placed}
use Rattle.machine.specs.States.{State, with_thread, with_sleepers}
use Rattle.machine.specs.AbstractServing.{shared_of, with_shared}
use Rattle.machine.specs.Runs.{Step, Own, has_ended, is_paused}
use Rattle.machine.specs.PieceStates.{PieceState, request_of, call_at, called, held, committed, committed_at}
use Rattle.futexcalls.specs.Pieces.{held_at}
use Rattle.machine.specs.PieceStates.{waits_at, IsHeldRight}
use Rattle.machine.specs.PieceSteps.{goes_outside, again_of, Piece, IsLocal, IsPlain, IsExit, IsLock, IsEqual, IsAgain}
use Rattle.machine.specs.PieceSteps.{IsAct}
use Rattle.proof_pieces.specs.Whole.{either, behind, resumed, whole_at, whole}
use Rattle.proof_pieces.specs.Silence.{MovesAnswered, IsHushed, IsHeard, is_wait, is_silent, piece_answer}
use Rattle.proof_pieces.specs.WholeCalls.{ServesWhole}
use Rattle.proof_pieces.specs.Traces.{pieces_before, pieces_of, TakesPiece, taken_at, taken}
use Rattle.proof_pieces.proofs.Calls.{called_is}
use Rattle.proof_pieces.proofs.Reading.{seen, seen_first, unput}
use Rattle.proof_pieces.proofs.Sleepers.{joined, wakes_both, requeued_both}
use Rattle.proof_pieces.proofs.Times.{lock_few, lock_more, phase_few, equal_few, equal_more, outside_paused}
use Rattle.proof_pieces.proofs.Wholly.{wholly, whole_on, stands_whole, awake_whole, loud, first_same, first_free}
use Rattle.proof_pieces.proofs.Wholly.{first_none, plain_served, silent}
use Rattle.proof_pieces.proofs.Exits.{apart_so, nobody_free, nobody_mine, joins_shared, exit_both}
use Rattle.robustexit.specs.ExitRules.{exit_of}

-- a thread in such a phase looks in the whole as it looks here
record IsSame (ph : FutexPhase) (l : Look) (x : Thread) : Type 0 where
  pub same : behind ph l x ≡ x
  pub free : committed_at ph (call_at l) ≡ None

early_same : (ph : FutexPhase) (l : Look) (x : Thread) → ph ≢ Act → IsSame ph l x
early_same First l x isnt = record { same = refl; free = refl }
early_same Second l x isnt = record { same = refl; free = refl }
early_same Compare l x isnt = record { same = refl; free = refl }
early_same Act l x isnt = absurd (isnt refl)

takes_early : (n : ℕ) (ph : FutexPhase) (call : FutexCall) (b : ℕ) → takes_at n ph call ≡ Some b → ph ≢ Act
takes_early n First call b h = λ e. absurd cc
takes_early n Second call b h = λ e. absurd cc
takes_early n Compare call b h = λ e. absurd cc
takes_early n Act call b h = absurd cc

locked_same : (n : ℕ) (ph : FutexPhase) (call : FutexCall) (go : ℕ → Thread) (x : Thread) (b : ℕ)
    → takes_at n ph call ≡ Some b → IsSame (after_lock n ph call) (Asks (request_of call) go) x
locked_same n First (Wake a wakes) go x b h = record { same = refl; free = refl }
locked_same n First (Wait a expected) go x b h = record { same = refl; free = refl }
locked_same n First (Requeue c d wakes moves expected) go x b h = by_test (c.0 % n == d.0 % n)
  where
    by_test : (q : Bool)
        → IsSame (if q then Compare else Second) (Asks (request_of (Requeue c d wakes moves expected)) go) x
    by_test true = record { same = refl; free = refl }
    by_test false = record { same = refl; free = refl }
locked_same n Second call go x b h = record { same = refl; free = refl }
locked_same n Compare call go x b h = absurd cc
locked_same n Act call go x b h = absurd cc

-- the wait that finds its word equal
module _ (p : Program) (s : PieceState) (t : ℕ) (x : Thread) (a expected : ℕ) (go : ℕ → Thread)
    (stands : s.base.thread t ≡ Some x) (awake : s.base.asleep t ≡ None)
    (looks : look p t x ≡ Asks (AskWait a expected) go) where
  pub acts_whole : whole_at p t Act (s.base.thread t) ≡ Some (go 0)
  acts_whole = ap (whole_at p t Act) stands ∙ ap (λ m. Some (resumed m x)) looks

  acts_committed : committed_at Act (called p t (s.base.thread t)) ≡ Some a
  acts_committed = ap (λ o. waits_at (called p t o)) stands ∙ ap (λ m. waits_at (call_at m)) looks

  pub commits : whole p (record s { phase = put s.phase t Act })
      ≡ with_thread (with_sleepers (whole p s) (with_place (whole p s).asleep (t ∷ []) (Some a))) t (go 0)
  commits = λ k. record (whole p s) { thread = λ u. threads u k; asleep = λ u. sleepers u k }
    where
      threads : (u : ℕ) → whole_at p u (put s.phase t Act u) (s.base.thread u)
          ≡ put (λ j. whole_at p j (s.phase j) (s.base.thread j)) t (Some (go 0)) u
      threads = seen_first (whole_at p) s.phase s.base.thread t Act (Some (go 0)) acts_whole

      sleepers : (u : ℕ) → either (s.base.asleep u) (committed_at (put s.phase t Act u) (called p u (s.base.thread u)))
          ≡ with_place (whole p s).asleep (t ∷ []) (Some a) u
      sleepers u = by_test (u == t) refl
        where
          by_test : (b : Bool) → (u == t) ≡ b
              → either (s.base.asleep u) (committed_at (if b then Act else s.phase u) (called p u (s.base.thread u)))
              ≡ (if b || false then Some a else either (s.base.asleep u) (committed p s u))
          by_test true q =
              ap (λ j. either (s.base.asleep j) (committed_at Act (called p j (s.base.thread j)))) (eqb-true u t q)
              ∙ ap (λ o. either o (committed_at Act (called p t (s.base.thread t)))) awake ∙ acts_committed
          by_test false q = refl

  joins_silent : (bs : List ℕ) → s.phase t ≡ Act
      → whole p (goes_outside s t (with_sleepers s.base (with_place s.base.asleep (t ∷ []) (Some a))) bs (go 0))
      ≡ whole p s
  joins_silent bs act = λ k. record (whole p s) { thread = λ u. threads u k; asleep = λ u. sleepers u k }
    where
      threads : (u : ℕ) → whole_at p u (put s.phase t First u) (put s.base.thread t (Some (go 0)) u)
          ≡ whole_at p u (s.phase u) (s.base.thread u)
      threads u = seen (whole_at p) s.phase s.base.thread t First (Some (go 0)) (Some (go 0)) refl u
          ∙ unput (λ j. whole_at p j (s.phase j) (s.base.thread j)) t (Some (go 0))
          (sym (ap (λ f. whole_at p t f (s.base.thread t)) act ∙ acts_whole)) u

      sleepers : (u : ℕ) → either (with_place s.base.asleep (t ∷ []) (Some a) u)
          (committed_at (put s.phase t First u) (called p u (put s.base.thread t (Some (go 0)) u)))
          ≡ either (s.base.asleep u) (committed p s u)
      sleepers u = by_test (u == t) refl
        where
          by_test : (b : Bool) → (u == t) ≡ b
              → either (if b || false then Some a else s.base.asleep u)
              (committed_at (if b then First else s.phase u) (called p u (if b then Some (go 0) else s.base.thread u)))
              ≡ either (s.base.asleep u) (committed p s u)
          by_test true q =
              sym (ap (λ j. either (s.base.asleep j) (committed p s j)) (eqb-true u t q)
              ∙ ap (λ o. either o (committed p s t)) awake
              ∙ ap (λ f. committed_at f (called p t (s.base.thread t))) act ∙ acts_committed)
          by_test false q = refl

-- a call whose thread stands past First lies in the memory, at one of its phases
within_so : (p : Program) (s : PieceState) (t : ℕ) (x : Thread) (call : FutexCall) (go : ℕ → Thread)
    → IsHeldRight p s → s.phase t ≢ First → s.base.thread t ≡ Some x → look p t x ≡ Asks (request_of call) go
    → LiesIn s.base.size call × IsPhase s.buckets (s.phase t) call
within_so p s t x call go right past stands looks = elim (right.apart t) [
  | inl first ↦ absurd (past first)
  | inr w ↦
      let both : Some w.call ≡ Some call = sym (called_is p t w.thread w.call w.go (s.base.thread t) w.stands w.asks)
      ∙ called_is p t x call go (s.base.thread t) stands looks in
      let is : w.call ≡ call = cc in
      (subst (LiesIn s.base.size) is w.lies, subst (IsPhase s.buckets (s.phase t)) is w.there)
]

past_so : (ph f : FutexPhase) → ph ≡ f → f ≢ First → ph ≢ First
past_so ph f e isnt h = isnt (sym e ∙ h)

act_past : Act ≢ First
act_past e = absurd cc

compare_past : Compare ≢ First
compare_past e = absurd cc

-- a step of thread t's own
abbrev pub own_step : ℕ → List ℕ → Bool → Step
own_step t woken pauses = record { thread = t; woken = woken; pauses = pauses; doing = Own }

-- silent, or one step with whole calls, with this answer
abbrev pub Reduced : Program → PieceState → ℕ → Thread → List ℕ → Bool → PieceState → (silent : Bool) → (answer : ℕ)
    → Type 0
Reduced p s t x woken pauses s' silent answer = MatchBool silent (IsHushed p s (own_step t woken pauses) s')
    (IsHeard p s (own_step t woken pauses) x answer s')

one_named : (i : ℕ) → names (i ∷ []) i ≡ true
one_named i = grind arith

first_named : (i j : ℕ) → names (i ∷ j ∷ []) i ≡ true
first_named i j = grind arith

second_named : (i j : ℕ) → names (j ∷ i ∷ []) i ≡ true
second_named i j = grind arith

ordered_named : (i j : ℕ) (b : Bool) → names ((if b then i else j) ∷ (if b then j else i) ∷ []) i ≡ true
ordered_named i j true = first_named i j
ordered_named i j false = second_named i j

no_more : (woken moved : List ℕ) → moved ≡ [] → length woken + length moved ≡ length woken
no_more woken moved e = let none : length moved ≡ 0 = ap length e in omega (arith, none)

module _ (p : Program) (s s' : PieceState) (t : ℕ) (x : Thread) (woken : List ℕ) (right : IsHeldRight p s)
    (stands : s.base.thread t ≡ Some x) (awake : s.base.asleep t ≡ None) (pauses : Bool)
    (paused : pauses ≡ is_paused s'.base t) where
  held_act : (call : FutexCall) (go : ℕ → Thread) → look p t x ≡ Asks (request_of call) go → s.phase t ≡ Act
      → held p s t ≡ buckets_of s.buckets call
  held_act call go looks act = ap (held_at s.buckets (s.phase t))
      (called_is p t x call go (s.base.thread t) stands looks)
      ∙ ap (λ f. held_at s.buckets f (Some call)) act

  committed_look : (call : FutexCall) (go : ℕ → Thread) (ph : FutexPhase) → look p t x ≡ Asks (request_of call) go
      → s.phase t ≡ ph → committed p s t ≡ committed_at ph (Some call)
  committed_look call go ph looks at =
      ap (committed_at (s.phase t)) (called_is p t x call go (s.base.thread t) stands looks)
      ∙ ap (λ f. committed_at f (Some call)) at

  -- the pieces before the call of a thread that stands in the whole as here
  pieces_at : (l : Look) → look p t x ≡ l → behind (s.phase t) l x ≡ x
      → pieces_of p t ((whole p s).thread t) ≡ pieces_before l
  pieces_at l looks same = ap (pieces_of p t) (stands_whole p s t x l stands looks same) ∙ ap pieces_before looks

  taken_is : (call : FutexCall) (go : ℕ → Thread) → look p t x ≡ Asks (request_of call) go
      → taken p s t ≡ taken_at s.buckets (s.phase t) (Some call)
  taken_is call go looks =
      ap (taken_at s.buckets (s.phase t)) (called_is p t x call go (s.base.thread t) stands looks)

  few_call : (call : FutexCall) (go : ℕ → Thread) → look p t x ≡ Asks (request_of call) go
      → IsPhase s.buckets (s.phase t) call → taken p s t ≤ pieces_before (Asks (request_of call) go)
  few_call call go looks there = subst (λ m. m ≤ pieces_before (Asks (request_of call) go))
      (sym (taken_is call go looks))
      (phase_few s.buckets (s.phase t) call go there)

  few_first : (l : Look) → s.phase t ≡ First → taken p s t ≤ pieces_before l
  few_first l first =
      let none : taken p s t ≡ 0 = ap (λ f. taken_at s.buckets f (called p t (s.base.thread t))) first in
      omega (arith, none)

  first_after : (mid : State) (bs : List ℕ) (y : Thread) → s' ≡ goes_outside s t mid bs y → s'.phase t ≡ First
  first_after mid bs y e = ap (λ (z : PieceState). z.phase t) e ∙ put-here s.phase t First t refl

  -- a loud step behind which the thread is outside calls
  loud_so : (answer : ℕ) (l : Look) → look p t x ≡ l → behind (s.phase t) l x ≡ x
      → committed_at (s.phase t) (call_at l) ≡ None
      → taken p s t ≤ pieces_before l → s'.phase t ≡ First → MovesAnswered (exit_of p.version) (whole p s) t woken answer l (whole p s')
      → IsHeard p s (own_step t woken pauses) x answer s'
  loud_so answer l looks same free few first moves = (
    loud p s t x woken answer l (whole p s') stands awake looks same free moves,
    record {
      few = subst (λ n. taken p s t ≤ n) (sym (pieces_at l looks same)) few;
      goes_on = λ q. inl (outside_paused p s' t first ∙ sym paused ∙ q);
    },
  )

  -- a silent step by which the thread takes a piece
  piece_taken : (l : Look) → look p t x ≡ l → behind (s.phase t) l x ≡ x → committed_at (s.phase t) (call_at l) ≡ None
      → taken p s t < pieces_before l → taken p s' t ≡ suc (taken p s t)
      → TakesPiece p (whole p s) (taken p s) (own_step t woken pauses) (taken p s')
  piece_taken l looks same free few more = record {
    awake = awake_whole p s t x l stands awake looks free;
    few = subst (λ n. taken p s t < n) (sym (pieces_at l looks same)) few;
    more = more;
  }

  -- an act that isn't a wait's
  act_loud : (call : FutexCall) (go : ℕ → Thread) (answer : ℕ) (after : ℕ → Option ℕ)
      → look p t x ≡ Asks (request_of call) go → s.phase t ≡ Act → behind Act (Asks (request_of call) go) x ≡ x
      → waits_at (Some call) ≡ None → waits_at (call_at (Asks (request_of call) go)) ≡ None
      → ServesWhole t (request_of call) (whole p s) woken answer
      (with_sleepers (whole p s) (joined after (committed p s)))
      → s' ≡ goes_outside s t (with_sleepers s.base after) (buckets_of s.buckets call) (go answer)
      → IsHeard p s (own_step t woken pauses) x answer s'
  act_loud call go answer after looks act same none none' serves e = loud_so answer (Asks (request_of call) go) looks
      (ap (λ f. behind f (Asks (request_of call) go) x) act ∙ same)
      (ap (λ f. committed_at f (call_at (Asks (request_of call) go))) act ∙ none')
      (few_call call go looks (within_so p s t x call go right (past_so _ _ act act_past) stands looks).1)
      (first_after (with_sleepers s.base after) (buckets_of s.buckets call) (go answer) e) (
        with_sleepers (whole p s) (joined after (committed p s)),
        serves,
        ap (whole p) e ∙ whole_on p s t (with_sleepers s.base after) (buckets_of s.buckets call) (go answer)
            (committed_look call go Act looks act ∙ none),
      )

  act_so : (call : FutexCall) (go : ℕ → Thread) (moved : List ℕ) (after : ℕ → Option ℕ)
      → look p t x ≡ Asks (request_of call) go → s.phase t ≡ Act → Acts t call s.base.asleep woken moved after
      → s' ≡ goes_outside s t (with_sleepers s.base after) (buckets_of s.buckets call)
      (go (length woken + length moved))
      → Reduced p s t x woken pauses s' (is_wait call) (length woken + length moved)
  act_so (Wait a expected) go moved after looks act h e = (
    h.0,
    ap (whole p) e
        ∙ ap (λ z. whole p (goes_outside s t (with_sleepers s.base z) (a.0 % s.buckets ∷ [])
        (go (length woken + length moved)))) h.2
        ∙ ap (λ n. whole p (goes_outside s t (with_sleepers s.base (with_place s.base.asleep (t ∷ []) (Some a.0)))
        (a.0 % s.buckets ∷ []) (go n))) (no_more woken moved h.1 ∙ ap length h.0)
        ∙ joins_silent p s t x a.0 expected go stands awake looks (a.0 % s.buckets ∷ []) act,
    λ q.
        let sleeps : s'.base.asleep t ≡ Some a.0 = ap (λ (z : PieceState). z.base.asleep t) e ∙ ap (λ f. f t) h.2
        ∙ placed s.base.asleep (t ∷ []) (Some a.0) t (one_named t) in
        let stops : is_paused s'.base t ≡ true = ap (λ o. is_some o || has_ended (s'.base.thread t)) sleeps in
        absurd (both_ways pauses q (paused ∙ stops)),
  )
  act_so (Wake a n) go moved after looks act h e =
      let mine : s.holder (a.0 % s.buckets) ≡ Some t = right.all (a.0 % s.buckets) t
      (ap (λ l. names l (a.0 % s.buckets)) (held_act (Wake a n) go looks act) ∙ one_named (a.0 % s.buckets)) in
      let none : committed p s t ≡ None = committed_look (Wake a n) go Act looks act in
      act_loud (Wake a n) go (length woken + length moved) after looks act refl refl refl (
        (within_so p s t x (Wake a n) go right (past_so _ _ act act_past) stands looks).0,
        joined after (committed p s),
        wakes_both s.base.asleep (committed p s) a.0 n woken after (apart_so p s right)
            (λ l. nobody_mine p s right a.0 t mine none) h.1,
        no_more woken moved h.0,
        refl,
      ) e
  act_so (Requeue a b n m expected) go moved after looks act h e =
      let mine : s.holder (a.0 % s.buckets) ≡ Some t = right.all (a.0 % s.buckets) t
      (ap (λ l. names l (a.0 % s.buckets)) (held_act (Requeue a b n m expected) go looks act)
      ∙ ordered_named (a.0 % s.buckets) (b.0 % s.buckets) _) in
      let none : committed p s t ≡ None = committed_look (Requeue a b n m expected) go Act looks act in
      let lies = (within_so p s t x (Requeue a b n m expected) go right (past_so _ _ act act_past) stands looks).0 in
      act_loud (Requeue a b n m expected) go (length woken + length moved) after looks act refl refl refl (
        lies.0,
        lies.1,
        inl (
          moved,
          joined after (committed p s),
          requeued_both s.base.asleep (committed p s) a.0 b.0 n m woken moved after (apart_so p s right)
              (nobody_mine p s right a.0 t mine none) h,
          refl,
          refl,
        ),
      ) e

  again_so : (call : FutexCall) (go : ℕ → Thread) (a v : ℕ) → look p t x ≡ Asks (request_of call) go
      → Compares call a v → s.phase t ≡ Compare → s.base.word a ≢ v → woken ≡ []
      → s' ≡ goes_outside s t s.base (buckets_of s.buckets call) (go (again_of call))
      → IsHeard p s (own_step t woken pauses) x (again_of call) s'
  again_so (Wait c expected) go a v looks is at differs nobody e = loud_so 1 (Asks (AskWait c.0 expected) go) looks
      (ap (λ f. behind f (Asks (AskWait c.0 expected) go) x) at)
      (ap (λ f. committed_at f (call_at (Asks (AskWait c.0 expected) go))) at)
      (few_call (Wait c expected) go looks
      (within_so p s t x (Wait c expected) go right (past_so _ _ at compare_past) stands looks).1)
      (first_after s.base (c.0 % s.buckets ∷ []) (go 1) e) (
        whole p s,
        (
          (within_so p s t x (Wait c expected) go right (past_so _ _ at compare_past) stands looks).0,
          (nobody, inr ((λ q. differs (ap s.base.word (sym is.0) ∙ q ∙ is.1)), refl, refl)),
        ),
        ap (whole p) e ∙ whole_on p s t s.base (c.0 % s.buckets ∷ []) (go 1)
            (ap (λ f. committed_at f (called p t (s.base.thread t))) at),
      )
  again_so (Wake c n) go a v looks is at differs nobody e = absurd is
  again_so (Requeue c d n m expected) go a v looks is at differs nobody e =
      let w = within_so p s t x (Requeue c d n m expected) go right (past_so _ _ at compare_past) stands looks in
      loud_so 4294967295 (Asks (request_of (Requeue c d n m expected)) go) looks
      (ap (λ f. behind f (Asks (request_of (Requeue c d n m expected)) go) x) at)
      (ap (λ f. committed_at f (call_at (Asks (request_of (Requeue c d n m expected)) go))) at)
      (few_call (Requeue c d n m expected) go looks w.1)
      (first_after s.base (buckets_of s.buckets (Requeue c d n m expected)) (go 4294967295) e) (
        whole p s,
        (
          w.0.0,
          w.0.1,
          inr ((λ q. differs (ap s.base.word (sym is.0) ∙ q ∙ is.1)), nobody, refl, refl),
        ),
        ap (whole p) e ∙ whole_on p s t s.base (buckets_of s.buckets (Requeue c d n m expected)) (go 4294967295)
            (ap (λ f. committed_at f (called p t (s.base.thread t))) at),
      )

  equal_so : (call : FutexCall) (go : ℕ → Thread) (a v : ℕ) → look p t x ≡ Asks (request_of call) go
      → Compares call a v → s.phase t ≡ Compare → s.base.word a ≡ v → woken ≡ []
      → s' ≡ record s { phase = put s.phase t Act } → Reduced p s t x woken pauses s' (not (is_wait call)) 0
  equal_so (Wait c expected) go a v looks is at equal nobody e =
      let same = ap (λ f. behind f (Asks (AskWait c.0 expected) go) x) at in
      let w = within_so p s t x (Wait c expected) go right (past_so _ _ at compare_past) stands looks in
      let after = ap (whole p) e ∙ commits p s t x c.0 expected go stands awake looks in (
        loud p s t x woken 0 (Asks (AskWait c.0 expected) go) (whole p s') stands awake looks same
            (ap (λ f. committed_at f (call_at (Asks (AskWait c.0 expected) go))) at) (
              with_sleepers (whole p s) (with_place (whole p s).asleep (t ∷ []) (Some c.0)),
              (
                w.0,
                (
                  nobody,
                  inl (
                    with_place (whole p s).asleep (t ∷ []) (Some c.0),
                    record { equal = ap s.base.word is.0 ∙ equal ∙ sym is.1; joins = refl },
                    refl,
                    refl,
                  ),
                ),
              ),
              after,
            ),
        record {
          few = subst (λ n. taken p s t ≤ n) (sym (pieces_at (Asks (AskWait c.0 expected) go) looks same))
              (few_call (Wait c expected) go looks w.1);
          goes_on = λ q. inr (
            subst (λ n. 0 < n) (sym (pieces_at (Asks (AskWait c.0 expected) go) looks same)) (omega arith),
            c.0,
            ap (λ (z : State). z.asleep t) after
                ∙ placed (whole p s).asleep (t ∷ []) (Some c.0) t (one_named t),
          );
        },
      )
  equal_so (Wake c n) go a v looks is at equal nobody e = absurd is
  equal_so (Requeue c d n m expected) go a v looks is at equal nobody e =
      let same = ap (λ f. behind f (Asks (request_of (Requeue c d n m expected)) go) x) at in
      let free = ap (λ f. committed_at f (call_at (Asks (request_of (Requeue c d n m expected)) go))) at in
      let before : taken p s t ≡ taken_at s.buckets Compare (Some (Requeue c d n m expected)) =
      taken_is (Requeue c d n m expected) go looks
      ∙ ap (λ f. taken_at s.buckets f (Some (Requeue c d n m expected))) at in (
        nobody,
        ap (whole p) e
            ∙ silent p s t x (Asks (request_of (Requeue c d n m expected)) go) Act s.holder stands looks refl same refl
            free,
        λ q. piece_taken (Asks (request_of (Requeue c d n m expected)) go) looks same free
            (subst (λ k. k < 3) (sym before) (equal_few (c.0 % s.buckets == d.0 % s.buckets)))
            (ap (λ (z : PieceState). taken p z t) e
            ∙ ap (λ f. taken_at s.buckets f (called p t (s.base.thread t))) (put-here s.phase t Act t refl)
            ∙ ap (taken_at s.buckets Act)
            (called_is p t x (Requeue c d n m expected) go (s.base.thread t) stands looks)
            ∙ equal_more (c.0 % s.buckets == d.0 % s.buckets) ∙ sym (ap suc before)),
      )

  -- outside calls, or at one of its call's phases
  stood : (call : FutexCall) (go : ℕ → Thread) → look p t x ≡ Asks (request_of call) go
      → (s.phase t ≡ First) ⊎ IsPhase s.buckets (s.phase t) call
  stood call go looks = elim (right.apart t) [
    | inl first ↦ inl first
    | inr w ↦
        let both : Some w.call ≡ Some call = sym (called_is p t w.thread w.call w.go (s.base.thread t) w.stands w.asks)
        ∙ called_is p t x call go (s.base.thread t) stands looks in
        let is : w.call ≡ call = cc in
        inr (subst (IsPhase s.buckets (s.phase t)) is w.there)
  ]

  pub piece_so : (piece : Piece p s t x woken s')
      → Reduced p s t x woken pauses s' (is_silent p s t x woken s' piece) (piece_answer p s t x woken s' piece)
  piece_so (IsLocal y looks first nobody e) = loud_so 0 (Goes y) looks (first_same (s.phase t) (Goes y) x first)
      (first_none (s.phase t) (Goes y) first) (few_first (Goes y) first) (first_after s.base [] y e) (
        nobody,
        ap (whole p) e ∙ whole_on p s t s.base [] y (first_free p (s.phase t) t (s.base.thread t) first),
      )
  piece_so (IsPlain request go answer mid looks isnt first serves e) = loud_so answer (Asks request go) looks
      (first_same (s.phase t) (Asks request go) x first) (first_none (s.phase t) (Asks request go) first)
      (few_first (Asks request go) first) (first_after mid [] (go answer) e) (
        wholly p s mid,
        plain_served p s right t request woken answer mid isnt serves,
        ap (whole p) e ∙ whole_on p s t mid [] (go answer) (first_free p (s.phase t) t (mid.thread t) first),
      )
  piece_so (IsExit phase after next looks first step free e) = loud_so 0 (Leaves phase) looks
      (first_same (s.phase t) (Leaves phase) x first) (first_none (s.phase t) (Leaves phase) first)
      (few_first (Leaves phase) first) (first_after (with_shared s.base after) [] (Exits next) e) (
        joins_shared (committed p s) after,
        next,
        exit_both (exit_of p.version) s.base.size t (shared_of s.base) (committed p s) woken after (apart_so p s right)
            phase next
            (λ a w. nobody_free p s right a (free a w)) step,
        ap (whole p) e ∙ whole_on p s t (with_shared s.base after) [] (Exits next)
            (first_free p (s.phase t) t (s.base.thread t) first),
      )
  piece_so (IsLock call go b looks lies takes free nobody e) =
      let late = locked_same s.buckets (s.phase t) call go x b takes in
      let early = early_same (s.phase t) (Asks (request_of call) go) x
      (takes_early s.buckets (s.phase t) call b takes) in (
        nobody,
        ap (whole p) e
            ∙ silent p s t x (Asks (request_of call) go) (after_lock s.buckets (s.phase t) call)
            (put s.holder b (Some t)) stands looks late.same early.same late.free early.free,
        λ q. piece_taken (Asks (request_of call) go) looks early.same early.free
            (subst (λ k. k < pieces_before (Asks (request_of call) go)) (sym (taken_is call go looks))
            (lock_few s.buckets (s.phase t) call go b takes))
            (ap (λ (z : PieceState). taken p z t) e
            ∙ ap (λ f. taken_at s.buckets f (called p t (s.base.thread t)))
            (put-here s.phase t (after_lock s.buckets (s.phase t) call) t refl)
            ∙ ap (taken_at s.buckets (after_lock s.buckets (s.phase t) call))
            (called_is p t x call go (s.base.thread t) stands looks)
            ∙ lock_more s.buckets (s.phase t) call b (stood call go looks) takes ∙ sym
            (ap suc (taken_is call go looks))),
      )
  piece_so (IsEqual call go a v looks is at equal nobody e) = equal_so call go a v looks is at equal nobody e
  piece_so (IsAgain call go a v looks is at differs nobody e) = again_so call go a v looks is at differs nobody e
  piece_so (IsAct call go moved after looks act h e) = act_so call go moved after looks act h e
