-- What comes from outside, in pieces and in the whole: a wake that nobody called for, of a thread that sleeps and so
-- holds nothing; and a kill, by which a thread gives up the buckets that it holds.
use Rattle.std.proofs.Common.{◌≡◌, ◌∙◌, ℕ, ◌==◌, Option, Some, None, refl, sym, ap, subst, Bool, true, false}
use Rattle.std.proofs.Common.{not, inl, inr}
use Rattle.std.specs.Prelude.{if◌then◌else◌}
use Rattle.std.proofs.lemmas.Bool.{eqb-true}
use Rattle.words.specs.declared.outcome.Cause.TheVariants.{Killed as Killed'}
use Rattle.words.specs.Updates.{put}
use Rattle.isa.specs.Programs.{Program}
use Rattle.futexcalls.specs.declared.pieces.FutexCall.TheVariants.{Wait}
use Rattle.futexcalls.specs.declared.pieces.FutexPhase.{FutexPhase}
use Rattle.futexcalls.specs.declared.pieces.FutexPhase.TheVariants.{First, Second, Compare, Act}
use Rattle.locals.specs.Threads.{Thread, Dies, is_dying}
use Rattle.locals.specs.Looks.{AskWait, Look, Asks, look}
use Rattle.machine.specs.States.{State, with_sleepers}
use Rattle.machine.specs.Runs.{Step, IsStrayStep, IsKillStep, killed_to}
use Rattle.machine.specs.PieceStates.{PieceState, called, committed, committed_at, held, IsHeldRight}
use Rattle.machine.specs.PieceSteps.{IsPieceStray, IsPieceKill, killed_piece}
use Rattle.machine.proofs.Placing.{put-there}
use Rattle.proof_pieces.specs.Whole.{either, behind, resumed, whole_at, whole}
use Rattle.proof_pieces.proofs.Calls.{asks_alive, waits_alive}
use Rattle.proof_pieces.proofs.Exits.{apart_so}
use Rattle.proof_pieces.proofs.Held.{kept_on, keeps_sleepers}
use Rattle.proof_pieces.proofs.Reading.{seen}

still_awake : (z : ℕ → Option ℕ) (t u : ℕ) → z u ≡ None → put z t None u ≡ None
still_awake z t u none = by_test (u == t)
  where
    by_test : (b : Bool) → (if b then None else z u) ≡ None
    by_test true = refl
    by_test false = none

-- a state in which t is woken from outside
abbrev strayed : PieceState → ℕ → PieceState
strayed s t = record s { base = with_sleepers s.base (put s.base.asleep t None) }

stray_kept : (p : Program) (s : PieceState) (t : ℕ) → IsHeldRight p s → IsHeldRight p (strayed s t)
stray_kept p s t right = record {
  some = right.some;
  few = right.few;
  apart = λ u. elim (right.apart u) [
    | inl first ↦ inl first
    | inr w ↦ inr (record {
      thread = w.thread;
      call = w.call;
      go = w.go;
      stands = w.stands;
      asks = w.asks;
      there = w.there;
      lies = w.lies;
      awake = still_awake s.base.asleep t u w.awake;
    })
  ];
  right = right.right;
  all = right.all;
}

stray_whole : (p : Program) (s : PieceState) (t : ℕ) → committed p s t ≡ None
    → whole p (strayed s t) ≡ with_sleepers (whole p s) (put (whole p s).asleep t None)
stray_whole p s t free = λ k. record (whole p s) { asleep = λ u. sleepers u k }
  where
    sleepers : (u : ℕ) → either (put s.base.asleep t None u) (committed p s u)
        ≡ put (λ j. either (s.base.asleep j) (committed p s j)) t None u
    sleepers u = by_test (u == t) refl
      where
        by_test : (b : Bool) → (u == t) ≡ b → either (if b then None else s.base.asleep u) (committed p s u)
            ≡ (if b then None else either (s.base.asleep u) (committed p s u))
        by_test true q = ap (committed p s) (eqb-true u t q) ∙ free
        by_test false q = refl

stray_is : (a : ℕ) (s s' : PieceState) (step : Step) → IsPieceStray a s step s' → s' ≡ strayed s step.thread
stray_is a s s' step h = h.others ∙ ap (λ (b : State). record s { base = b }) h.strays.after

pub strays_kept : (p : Program) (a : ℕ) (s s' : PieceState) (step : Step) → IsHeldRight p s → IsPieceStray a s step s'
    → IsHeldRight p s'
strays_kept p a s s' step right h =
    subst (IsHeldRight p) (sym (stray_is a s s' step h)) (stray_kept p s step.thread right)

pub strays_both : (p : Program) (a : ℕ) (s s' : PieceState) (step : Step) → IsHeldRight p s → IsPieceStray a s step s'
    → IsStrayStep a (whole p s) step (whole p s')
strays_both p a s s' step right h = record {
  sleeps = ap (λ o. either o (committed p s step.thread)) h.strays.sleeps;
  woken = h.strays.woken;
  after = ap (whole p) (stray_is a s s' step h)
      ∙ stray_whole p s step.thread (apart_so p s right step.thread a h.strays.sleeps);
  pauses = h.strays.pauses;
}

kill_whole : (p : Program) (s : PieceState) (t : ℕ) → whole p (killed_piece p true s t) ≡ killed_to true (whole p s) t
kill_whole p s t = λ k. record (whole p s) { thread = λ u. threads u k; asleep = λ u. sleepers u k }
  where
    threads : (u : ℕ) → whole_at p u (put s.phase t First u) (put s.base.thread t (Some (Dies Killed')) u)
        ≡ put (λ j. whole_at p j (s.phase j) (s.base.thread j)) t (Some (Dies Killed')) u
    threads = seen (whole_at p) s.phase s.base.thread t First (Some (Dies Killed')) (Some (Dies Killed')) refl

    sleepers : (u : ℕ) → either (put s.base.asleep t None u)
        (committed_at (put s.phase t First u) (called p u (put s.base.thread t (Some (Dies Killed')) u)))
        ≡ put (λ j. either (s.base.asleep j) (committed p s j)) t None u
    sleepers u = by_test (u == t)
      where
        by_test : (b : Bool) → either (if b then None else s.base.asleep u)
            (committed_at (if b then First else s.phase u) (called p u
            (if b then Some (Dies Killed') else s.base.thread u)))
            ≡ (if b then None else either (s.base.asleep u) (committed p s u))
        by_test true = refl
        by_test false = refl

resumed_dying : (p : Program) (t : ℕ) (x : Thread) (l : Look) → look p t x ≡ l → is_dying (resumed l x) ≡ is_dying x
resumed_dying p t x (Asks (AskWait a expected) go) looks = waits_alive p t x a expected go looks
    ∙ sym (asks_alive p t x (Wait (record { 0 = a }) expected) go looks)
resumed_dying p t x l looks = refl

-- a thread is dying in the whole just where it is here
behind_dying : (p : Program) (t : ℕ) (x : Thread) (ph : FutexPhase)
    → is_dying (behind ph (look p t x) x) ≡ is_dying x
behind_dying p t x First = refl
behind_dying p t x Second = refl
behind_dying p t x Compare = refl
behind_dying p t x Act = resumed_dying p t x (look p t x) refl

pub kills_kept : (p : Program) (begins : Bool) (s s' : PieceState) (step : Step) → IsHeldRight p s
    → IsPieceKill p begins s step s' → IsHeldRight p s'
kills_kept p begins s s' step right h = by_case begins h.after
  where
    by_case : (b : Bool) → s' ≡ killed_piece p b s step.thread → IsHeldRight p s'
    by_case true e = subst (IsHeldRight p) (sym e) (kept_on p s step.thread
        (with_sleepers s.base (put s.base.asleep step.thread None)) (held p s step.thread) (Dies Killed') h.kills.thread
        right h.kills.stands refl (keeps_sleepers p s step.thread right (put s.base.asleep step.thread None)
        (λ u ne none. put-there s.base.asleep step.thread None u ne ∙ none)))
    by_case false e = subst (IsHeldRight p) (sym e) right

pub kills_both : (p : Program) (begins : Bool) (s s' : PieceState) (step : Step) → IsPieceKill p begins s step s'
    → IsKillStep begins (whole p s) step (whole p s')
kills_both p begins s s' step h = record {
  thread = behind (s.phase step.thread) (look p step.thread h.kills.thread) h.kills.thread;
  stands = ap (whole_at p step.thread (s.phase step.thread)) h.kills.stands;
  begins_so = h.kills.begins_so
      ∙ ap (λ b. not b) (sym (behind_dying p step.thread h.kills.thread (s.phase step.thread)));
  woken = h.kills.woken;
  after = by_case begins h.after;
  pauses = h.kills.pauses;
}
  where
    by_case : (b : Bool) → s' ≡ killed_piece p b s step.thread → whole p s' ≡ killed_to b (whole p s) step.thread
    by_case true e = ap (whole p) e ∙ kill_whole p s step.thread
    by_case false e = ap (whole p) e
