-- The state of the whole calls behind one step of a thread in pieces.
use Rattle.std.proofs.Common.{◌≡◌, ◌∙◌, ℕ, suc, ◌+◌, ◌<◌, ◌==◌, inl, inr, Option, Some, None, List, refl}
use Rattle.std.proofs.Common.{sym, ap, subst, Bool, true, false, arith}
use Rattle.std.specs.Prelude.{if◌then◌else◌}
use Rattle.isa.specs.Programs.{Program}
use Rattle.words.specs.Updates.{put}
use Rattle.futexcalls.specs.declared.pieces.FutexPhase.{FutexPhase}
use Rattle.futexcalls.specs.declared.pieces.FutexPhase.TheVariants.{First}
use Rattle.locals.specs.Threads.{Thread, opening_thread}
use Rattle.locals.specs.Looks.{Request, AskLoad, AskStore, AskSwap, AskCompareSwap, AskOr, AskAdd, AskFork, AskPrint}
use Rattle.locals.specs.Looks.{AskWait, AskWake, AskRequeue, AskReturn, AskReturnValue, AskFault, Look, look}
use Rattle.machine.specs.States.{State, with_thread, with_word}
use Rattle.machine.specs.AbstractServing.{Serves, with_child}
use Rattle.machine.specs.PieceStates.{PieceState, call_of, call_at, called, committed, committed_at, IsHeldRight}
use Rattle.machine.specs.PieceSteps.{goes_outside}
use Rattle.proof_pieces.specs.Whole.{either, behind, whole_at, whole}
use Rattle.proof_pieces.specs.WholeCalls.{ServesWhole}
use Rattle.robustexit.specs.ExitRules.{exit_of}
use Rattle.proof_pieces.specs.Silence.{MovesAnswered, IsAnswered}
use Rattle.proof_pieces.proofs.Reading.{seen, seen_first, seen_second, unput}

-- a state of the machine with the threads and the sleepers of the whole
abbrev pub wholly : Program → PieceState → State → State
wholly p s mid = record mid {
  thread = λ u. whole_at p u (s.phase u) (mid.thread u);
  asleep = λ u. either (mid.asleep u) (committed_at (s.phase u) (called p u (mid.thread u)));
}

-- where t goes on outside calls, and had not committed
pub whole_on : (p : Program) (s : PieceState) (t : ℕ) (mid : State) (bs : List ℕ) (y : Thread)
    → committed_at (s.phase t) (called p t (mid.thread t)) ≡ None
    → whole p (goes_outside s t mid bs y) ≡ with_thread (wholly p s mid) t y
whole_on p s t mid bs y free = λ k. record {
  most = mid.most;
  word = mid.word;
  size = mid.size;
  made = mid.made;
  output = mid.output;
  thread = λ u. seen (whole_at p) s.phase mid.thread t First (Some y) (Some y) refl u k;
  asleep = λ u. either (mid.asleep u) (committeds u k);
}
  where
    committeds : (u : ℕ) → committed_at (put s.phase t First u) (called p u (put mid.thread t (Some y) u))
        ≡ committed_at (s.phase u) (called p u (mid.thread u))
    committeds u = seen (λ j ph x. committed_at ph (called p j x)) s.phase mid.thread t First (Some y) None refl u
        ∙ unput (λ j. committed_at (s.phase j) (called p j (mid.thread j))) t None (sym free) u

-- a thread that stands in the whole as it stands here
pub stands_whole : (p : Program) (s : PieceState) (t : ℕ) (x : Thread) (l : Look) → s.base.thread t ≡ Some x
    → look p t x ≡ l → behind (s.phase t) l x ≡ x → (whole p s).thread t ≡ Some x
stands_whole p s t x l stands looks same =
    ap (whole_at p t (s.phase t)) stands ∙ ap (λ m. Some (behind (s.phase t) m x)) looks ∙ ap (λ y. Some y) same

pub awake_whole : (p : Program) (s : PieceState) (t : ℕ) (x : Thread) (l : Look) → s.base.thread t ≡ Some x
    → s.base.asleep t ≡ None → look p t x ≡ l → committed_at (s.phase t) (call_at l) ≡ None
    → (whole p s).asleep t ≡ None
awake_whole p s t x l stands awake looks free = ap (λ o. either o (committed p s t)) awake
    ∙ ap (λ o. committed_at (s.phase t) (called p t o)) stands
    ∙ ap (λ m. committed_at (s.phase t) (call_at m)) looks ∙ free

-- a step of such a thread
pub loud : (p : Program) (s : PieceState) (t : ℕ) (x : Thread) (woken : List ℕ) (answer : ℕ) (l : Look) (after : State)
    → s.base.thread t ≡ Some x → s.base.asleep t ≡ None → look p t x ≡ l → behind (s.phase t) l x ≡ x
    → committed_at (s.phase t) (call_at l) ≡ None → MovesAnswered (exit_of p.version) (whole p s) t woken answer l after
    → IsAnswered p (whole p s) t x woken answer after
loud p s t x woken answer l after stands awake looks same free moves = record {
  stands = stands_whole p s t x l stands looks same;
  awake = awake_whole p s t x l stands awake looks free;
  moves = subst (λ m. MovesAnswered (exit_of p.version) (whole p s) t woken answer m after) (sym looks) moves;
}

pub first_same : (ph : FutexPhase) (l : Look) (x : Thread) → ph ≡ First → behind ph l x ≡ x
first_same ph l x e = ap (λ f. behind f l x) e

pub first_free : (p : Program) (ph : FutexPhase) (t : ℕ) (o : Option Thread) → ph ≡ First
    → committed_at ph (called p t o) ≡ None
first_free p ph t o e = ap (λ f. committed_at f (called p t o)) e

pub first_none : (ph : FutexPhase) (l : Look) → ph ≡ First → committed_at ph (call_at l) ≡ None
first_none ph l e = ap (λ f. committed_at f (call_at l)) e

if_wholly : (p : Program) (s : PieceState) (b : Bool) (x y : State) → wholly p s (if b then x else y)
    ≡ (if b then wholly p s x else wholly p s y)
if_wholly p s true x y = refl
if_wholly p s false x y = refl

-- a thread that was not made is in no call
pub unmade_first : (p : Program) (s : PieceState) → IsHeldRight p s → s.phase (suc s.base.made) ≡ First
unmade_first p s right = elim (right.apart (suc s.base.made)) [
  | inl e ↦ e
  | inr w ↦ absurd (let less : suc s.base.made < s.base.made + 1 = right.few _ w.thread w.stands in omega (arith, less))
]

whole_child : (p : Program) (s : PieceState) → IsHeldRight p s → (entry : ℕ) (arguments : List ℕ)
    → wholly p s (with_child s.base entry arguments) ≡ with_child (whole p s) entry arguments
whole_child p s right entry arguments = λ k. record (with_child (whole p s) entry arguments) {
  thread = λ u. threads u k;
  asleep = λ u. either (s.base.asleep u) (committeds u k);
}
  where
    first : s.phase (suc s.base.made) ≡ First
    first = unmade_first p s right

    threads : (u : ℕ) → whole_at p u (s.phase u) (put s.base.thread (suc s.base.made)
        (Some (opening_thread entry arguments)) u)
        ≡ put (λ j. whole_at p j (s.phase j) (s.base.thread j)) (suc s.base.made)
        (Some (opening_thread entry arguments)) u
    threads = seen_second (whole_at p) s.phase s.base.thread (suc s.base.made) (Some (opening_thread entry arguments)) _
        (ap (λ f. whole_at p (suc s.base.made) f (Some (opening_thread entry arguments))) first)

    committeds : (u : ℕ) → committed_at (s.phase u)
        (called p u (put s.base.thread (suc s.base.made) (Some (opening_thread entry arguments)) u))
        ≡ committed p s u
    committeds u = seen_second (λ j ph x. committed_at ph (called p j x)) s.phase s.base.thread (suc s.base.made)
        (Some (opening_thread entry arguments)) None
        (first_free p (s.phase (suc s.base.made)) (suc s.base.made) (Some (opening_thread entry arguments)) first) u
        ∙ unput (committed p s) (suc s.base.made) None
        (sym (first_free p (s.phase (suc s.base.made)) (suc s.base.made) (s.base.thread (suc s.base.made)) first)) u

-- what is no call is served in the whole as here
pub plain_served : (p : Program) (s : PieceState) → IsHeldRight p s → (t : ℕ) (request : Request) (woken : List ℕ)
    (answer : ℕ) (mid : State) → call_of request ≡ None → Serves t request s.base woken answer mid
    → ServesWhole t request (whole p s) woken answer (wholly p s mid)
plain_served p s right t (AskLoad a) woken answer mid isnt h = (h.0, (h.1.0, (h.1.1.0, ap (wholly p s) h.1.1.1)))
plain_served p s right t (AskStore a v) woken answer mid isnt h = (h.0, (h.1.0, (h.1.1.0, ap (wholly p s) h.1.1.1)))
plain_served p s right t (AskSwap a v) woken answer mid isnt h = (h.0, (h.1.0, (h.1.1.0, ap (wholly p s) h.1.1.1)))
plain_served p s right t (AskCompareSwap a expected new) woken answer mid isnt h = (
  h.0,
  (
    h.1.0,
    (
      h.1.1.0,
      ap (wholly p s) h.1.1.1
          ∙ if_wholly p s (s.base.word a == expected) (with_word s.base a new) s.base,
    ),
  ),
)
plain_served p s right t (AskOr a v) woken answer mid isnt h = (h.0, (h.1.0, (h.1.1.0, ap (wholly p s) h.1.1.1)))
plain_served p s right t (AskAdd a v) woken answer mid isnt h = (h.0, (h.1.0, (h.1.1.0, ap (wholly p s) h.1.1.1)))
plain_served p s right t (AskFork entry arguments has_room) woken answer mid isnt h = (
  h.0,
  elim h.1 [
    | inl r ↦ inl (r.0, r.1, ap (wholly p s) r.2)
    | inr m ↦ inr (m.0, m.1, m.2, ap (wholly p s) m.3 ∙ whole_child p s right entry arguments)
  ],
)
plain_served p s right t (AskPrint number) woken answer mid isnt h = (h.0, (h.1.0, ap (wholly p s) h.1.1))
plain_served p s right t (AskWait a expected) woken answer mid isnt h = absurd cc
plain_served p s right t (AskWake a n) woken answer mid isnt h = absurd cc
plain_served p s right t (AskRequeue a b n m expected) woken answer mid isnt h = absurd cc
plain_served p s right t AskReturn woken answer mid isnt h = (h.0, (h.1.0, ap (wholly p s) h.1.1))
plain_served p s right t (AskReturnValue v) woken answer mid isnt h = (h.0, (h.1.0, ap (wholly p s) h.1.1))
plain_served p s right t (AskFault cause) woken answer mid isnt h = (h.0, (h.1.0, ap (wholly p s) h.1.1))

-- the phase alone changes, and it is not seen
pub silent : (p : Program) (s : PieceState) (t : ℕ) (x : Thread) (l : Look) (ph : FutexPhase) (holder : ℕ → Option ℕ)
    → s.base.thread t ≡ Some x → look p t x ≡ l → behind ph l x ≡ x → behind (s.phase t) l x ≡ x
    → committed_at ph (call_at l) ≡ None → committed_at (s.phase t) (call_at l) ≡ None
    → whole p (record s { phase = put s.phase t ph; holder = holder }) ≡ whole p s
silent p s t x l ph holder stands looks late early after before = λ k. record (whole p s) {
  thread = λ u. threads u k;
  asleep = λ u. either (s.base.asleep u) (committeds u k);
}
  where
    at : (f : FutexPhase) → behind f l x ≡ x → whole_at p t f (s.base.thread t) ≡ Some x
    at f e = ap (whole_at p t f) stands ∙ ap (λ m. Some (behind f m x)) looks ∙ ap (λ y. Some y) e

    threads : (u : ℕ) → whole_at p u (put s.phase t ph u) (s.base.thread u) ≡ whole_at p u (s.phase u) (s.base.thread u)
    threads u = seen_first (whole_at p) s.phase s.base.thread t ph (Some x) (at ph late) u
        ∙ unput (λ j. whole_at p j (s.phase j) (s.base.thread j)) t (Some x) (sym (at (s.phase t) early)) u

    none_at : (f : FutexPhase) → committed_at f (call_at l) ≡ None → committed_at f (called p t (s.base.thread t))
        ≡ None
    none_at f e = ap (λ o. committed_at f (called p t o)) stands ∙ ap (λ m. committed_at f (call_at m)) looks ∙ e

    committeds : (u : ℕ) → committed_at (put s.phase t ph u) (called p u (s.base.thread u)) ≡ committed p s u
    committeds u = seen_first (λ j f y. committed_at f (called p j y)) s.phase s.base.thread t ph None
        (none_at ph after) u
        ∙ unput (committed p s) t None (sym (none_at (s.phase t) before)) u
