-- Nobody has committed on a word whose bucket is free, or held by a thread that has not committed; and a step of an
-- exit that wakes on such a word wakes in the whole as here.
use Rattle.std.proofs.Common.{◌≡◌, ◌≢◌, ◌∙◌, ℕ, ◌+◌, ◌%◌, ◌<◌, ◌⊎◌, inl, inr, Option, Some, None, List, [], ◌∷◌, length}
use Rattle.std.proofs.Common.{refl, sym, ap, Bool, true, false, arith}
use Rattle.std.specs.Prelude.{if◌then◌else◌}
use Rattle.isa.specs.Programs.{Program}
use Rattle.words.specs.LockWord.{owner_of, waiters_of}
use Rattle.words.specs.Process.{process_word}
use Rattle.buckets.specs.Places.{names}
use Rattle.futexcalls.specs.declared.pieces.FutexCall.{FutexCall}
use Rattle.futexcalls.specs.declared.pieces.FutexCall.TheVariants.{Wait, Wake, Requeue}
use Rattle.futexcalls.specs.declared.pieces.FutexPhase.{FutexPhase}
use Rattle.futexcalls.specs.declared.pieces.FutexPhase.TheVariants.{First, Second, Compare, Act}
use Rattle.robustexit.specs.RobustExit.{Shared, ExitStep, EntryStep, PendingStep, IsPending, IsForeign, IsPassed, IsOwned}
use Rattle.robustexit.specs.RobustExit.{NoEntry}
use Rattle.robustexit.specs.RobustExit.{IsIdle, Abandons, WakesOne, IsEntry}
use Rattle.robustexit.specs.Waking.{WakesOn}
use Rattle.robustexit.specs.declared.phase.ExitPhase.{ExitPhase}
use Rattle.robustexit.specs.declared.phase.ExitPhase.TheVariants.{Entry, Pending, ClearId, LastWake, Ended}
use Rattle.machine.specs.PieceStates.{PieceState, committed, committed_at, IsHeldRight}
use Rattle.futexcalls.specs.Pieces.{held_at}
use Rattle.proof_pieces.proofs.Sleepers.{joined, wakes_both}
use Rattle.proof_pieces.proofs.Wholly.{first_free}
use Rattle.robustexit.specs.ExitRules.{wakes}
use Rattle.robustexit.specs.declared.rule.ExitRule.{ExitRule}

-- who sleeps has not committed
abbrev Apart : Program → PieceState → Type 0
Apart p s = (u b : ℕ) → s.base.asleep u ≡ Some b → committed p s u ≡ None

pub apart_so : (p : Program) (s : PieceState) → IsHeldRight p s → Apart p s
apart_so p s right u b slept = elim (right.apart u) [
  | inl first ↦ first_free p _ _ _ first
  | inr w ↦ absurd (let none : None ≡ Some b = sym w.awake ∙ slept in cc)
]

one_held : (i : ℕ) → names (i ∷ []) i ≡ true
one_held i = grind arith

-- who has committed on a holds its bucket
holds_when : (n a : ℕ) (ph : FutexPhase) (o : Option FutexCall) → committed_at ph o ≡ Some a
    → names (held_at n ph o) (a % n) ≡ true
holds_when n a Act (Some (Wait b expected)) h =
    ap (λ c. names (c % n ∷ []) (a % n)) (let e : b.0 ≡ a = cc in e) ∙ one_held (a % n)
holds_when n a Act (Some (Wake b wakes)) h = absurd cc
holds_when n a Act (Some (Requeue b d wakes moves expected)) h = absurd cc
holds_when n a Act None h = absurd cc
holds_when n a First o h = absurd cc
holds_when n a Second o h = absurd cc
holds_when n a Compare o h = absurd cc

holder_is : (p : Program) (s : PieceState) → IsHeldRight p s → (u a : ℕ) → committed p s u ≡ Some a
    → s.holder (a % s.buckets) ≡ Some u
holder_is p s right u a h = right.all (a % s.buckets) u (holds_when s.buckets a (s.phase u) _ h)

pub nobody_free : (p : Program) (s : PieceState) → IsHeldRight p s → (a : ℕ) → s.holder (a % s.buckets) ≡ None
    → (u : ℕ) → committed p s u ≢ Some a
nobody_free p s right a free u h = let e : None ≡ Some u = sym free ∙ holder_is p s right u a h in absurd cc

pub nobody_mine : (p : Program) (s : PieceState) → IsHeldRight p s → (a t : ℕ) → s.holder (a % s.buckets) ≡ Some t
    → committed p s t ≡ None → (u : ℕ) → committed p s u ≢ Some a
nobody_mine p s right a t mine isnt u h =
    let e : Some t ≡ Some u = sym mine ∙ holder_is p s right u a h in
    let same : t ≡ u = cc in
    let e' : None ≡ Some a = sym isnt ∙ ap (committed p s) same ∙ h in absurd cc

abbrev pub joins_shared : (ℕ → Option ℕ) → Shared → Shared
joins_shared c sh = record sh { asleep = joined sh.asleep c }

-- a step of an exit, where nobody has committed on the word on which it wakes
module _ (rule : ExitRule) (size t : ℕ) (sh : Shared) (c : ℕ → Option ℕ) (woken : List ℕ) (after : Shared)
    (apart : (u b : ℕ) → sh.asleep u ≡ Some b → c u ≡ None) where
  idle_both : IsIdle sh woken after → IsIdle (joins_shared c sh) woken (joins_shared c after)
  idle_both h = record { nobody = h.nobody; same = ap (joins_shared c) h.same }

  abandons_both : (l : ℕ) → (waiters_of (sh.word l) ≡ true → (u : ℕ) → c u ≢ Some l) → Abandons t l sh woken after
      → Abandons t l (joins_shared c sh) woken (joins_shared c after)
  abandons_both l free h = record {
    owned = h.owned;
    marks = h.marks;
    wakes = wakes_both sh.asleep c l (if waiters_of (sh.word l) then 1 else 0) woken after.asleep apart
        (by_test (waiters_of (sh.word l)) refl) h.wakes;
  }
    where
      by_test : (b : Bool) → waiters_of (sh.word l) ≡ b → length woken < (if b then 1 else 0) → (u : ℕ) → c u ≢ Some l
      by_test true q less = free q
      by_test false q less = absurd (omega (arith, less))

  one_both : (a : ℕ) → ((u : ℕ) → c u ≢ Some a) → WakesOne a sh woken after
      → WakesOne a (joins_shared c sh) woken (joins_shared c after)
  one_both a free h = record {
    same = h.same;
    wakes = wakes_both sh.asleep c a 1 woken after.asleep apart (λ l. free) h.wakes;
  }

  entry_both : (e : ℕ) → (sh.word (process_word t 1) ≢ e → (owner_of (sh.word (e + 1)) ≡ t)
      × (waiters_of (sh.word (e + 1)) ≡ true) → (u : ℕ) → c u ≢ Some (e + 1))
      → EntryStep size t e sh woken after → EntryStep size t e (joins_shared c sh) woken (joins_shared c after)
  entry_both e free (IsPending q i) = IsPending q (idle_both i)
  entry_both e free (IsForeign q i) = IsForeign q (idle_both i)
  entry_both e free (IsOwned q a) = IsOwned q (abandons_both (e + 1) (λ w. free q (a.owned, w)) a)

  pending_both : (e : ℕ) → (IsEntry size e → (((owner_of (sh.word (e + 1)) ≢ t)
      × (wakes rule (sh.word (e + 1)) ≡ true))
      ⊎ ((owner_of (sh.word (e + 1)) ≡ t) × (waiters_of (sh.word (e + 1)) ≡ true))) → (u : ℕ) → c u ≢ Some (e + 1))
      → PendingStep rule size t e sh woken after → PendingStep rule size t e (joins_shared c sh) woken (joins_shared c after)
  pending_both e free (NoEntry q i) = NoEntry q (idle_both i)
  pending_both e free (IsForeign q o r w) = IsForeign q o r (one_both (e + 1) (free q (inl (o, r))) w)
  pending_both e free (IsPassed q o r i) = IsPassed q o r (idle_both i)
  pending_both e free (IsOwned q a) = IsOwned q (abandons_both (e + 1) (λ w. free q (inr (a.owned, w))) a)

  pub exit_both : (phase next : ExitPhase) → ((a : ℕ) → WakesOn rule size t phase sh.word a → (u : ℕ) → c u ≢ Some a)
      → ExitStep rule size t phase sh woken after next
      → ExitStep rule size t phase (joins_shared c sh) woken (joins_shared c after) next
  exit_both (Entry e n) next free h = elim h [
    | inl r ↦ inl (r.0, entry_both e.0 (λ q o. free (e.0 + 1) (r.0, q, o.0, o.1, refl)) r.1, r.2)
    | inr i ↦ inr (i.0, idle_both i.1, i.2)
  ]
  exit_both Pending next free h =
      (pending_both (sh.word (process_word t 1)) (λ q o. free (sh.word (process_word t 1) + 1) (q, refl, o)) h.0, h.1)
  exit_both ClearId next free h = (h.0, ap (joins_shared c) h.1, h.2)
  exit_both LastWake next free h = (one_both (process_word t 2) (free (process_word t 2) refl) h.0, h.1)
  exit_both Ended next free h = h
