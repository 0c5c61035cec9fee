-- What the rules of releases keep: the points of another rule's release are never come to; and where the waiters bit is
-- kept for good, the word has it while anybody sleeps there.
use Rattle.std.proofs.Common.{◌≡◌, ◌≢◌, ℕ, Option, Some, inl, inr, subst, sym, refl, ◌∙◌, arith}
use Rattle.words.specs.Updates.{put}
use Rattle.program.specs.declared.kinds.Member.{Member}
use Rattle.meaning.specs.Table.{Hold, Free}
use Rattle.protocol.specs.Word.{owner, waiters, owner_died_bit}
use Rattle.protocol.specs.Rules.{ExitRule, WakesAlways, WakesUnowned, WakesUncovered, SafeExit, Passes, ReleaseRule, ClearsWord, KeepsWaiters, TidiesWaiters, Clears, Keeps, Tidies}
use Rattle.protocol.specs.Points.{Spot, OnLock, Thread, Point, LeaveSwaps, LeaveLoads, LeaveKeeps, LeaveClears}
use Rattle.protocol.specs.World.{requeued_sleep}
use Rattle.words.proofs.Updates.{at_put, at_put2}
use Rattle.protocol.proofs.Sleeps.{requeue_lock}
use Rattle.protocol.specs.Rules.{DropsOwner, Swaps, KeepsBit, left_by}
use Rattle.protocol.proofs.Words.{waiters_full, waiters-waiters, owner-waiters, died-waiters, owner-small, died-small}

-- ---- the points of a release
abbrev pub StyleAt : ReleaseRule → Point → Type 0
StyleAt rule (LeaveSwaps m r) = Swaps rule
StyleAt rule (LeaveLoads m r) = Keeps rule
StyleAt rule (LeaveKeeps m v r) = Keeps rule
StyleAt rule (LeaveClears m r) = Tidies rule
StyleAt rule p = Unit {0}

pub record Styles (rule : ReleaseRule) (at : ℕ → Thread) : Type 0 where
  pub style : (t : ℕ) → StyleAt rule (at t).point

pub styled : (rule : ReleaseRule) (at : ℕ → Thread) (t : ℕ) (p' : Thread) → Styles rule at → StyleAt rule p'.point
    → Styles rule (put at t p')
styled rule at t p' inv mine = record {
  style = λ u. at_put at t p' u (λ y. StyleAt rule y.point) (λ h. mine) (λ h. inv.style u);
}

-- ---- the waiters bit
pub record Bits (rule : ReleaseRule) (lock : ℕ → ℕ) (asleep : ℕ → Option Spot) : Type 0 where
  pub bit : KeepsBit rule → (e t : ℕ) → asleep t ≡ Some (OnLock e) → waiters (lock e) ≡ 2147483648

-- nobody falls asleep on a lock
pub bits_less : (rule : ReleaseRule) (lock : ℕ → ℕ) (asleep asleep' : ℕ → Option Spot) → Bits rule lock asleep
    → ((u e : ℕ) → asleep' u ≡ Some (OnLock e) → asleep u ≡ Some (OnLock e)) → Bits rule lock asleep'
bits_less rule lock asleep asleep' inv less = record { bit = λ k e u h. inv.bit k e u (less u e h) }

-- a word changes, and keeps its bit
pub bits_put : (rule : ReleaseRule) (lock : ℕ → ℕ) (asleep : ℕ → Option Spot) (e v : ℕ) → Bits rule lock asleep
    → (KeepsBit rule → waiters (lock e) ≡ 2147483648 → waiters v ≡ 2147483648) → Bits rule (put lock e v) asleep
bits_put rule lock asleep e v inv why = record {
  bit = λ k x u h. at_put lock e v x (λ y. waiters y ≡ 2147483648)
      (λ q. why k (subst (λ y. waiters (lock y) ≡ 2147483648) q (inv.bit k x u h))) (λ n. inv.bit k x u h);
}

-- a thread falls asleep on a marked word
pub bits_slept : (rule : ReleaseRule) (lock : ℕ → ℕ) (asleep : ℕ → Option Spot) (t e : ℕ) → Bits rule lock asleep
    → waiters (lock e) ≡ 2147483648 → Bits rule lock (put asleep t (Some (OnLock e)))
bits_slept rule lock asleep t e inv mark = record {
  bit = λ k x u. at_put asleep t (Some (OnLock e)) u (λ y. y ≡ Some (OnLock x) → waiters (lock x) ≡ 2147483648)
      (λ q h. let z : e ≡ x = cc in subst (λ y. waiters (lock y) ≡ 2147483648) z mark) (λ n h. inv.bit k x u h);
}

-- sleepers of a condition go to its monitor's lock, which is marked
pub bits_moved : (rule : ReleaseRule) (lock : ℕ → ℕ) (asleep : ℕ → Option Spot) (c : Member) → Bits rule lock asleep
    → waiters (lock c.monitor) ≡ 2147483648 → Bits rule lock (requeued_sleep asleep c)
bits_moved rule lock asleep c inv mark = record {
  bit = λ k x u h. elim (requeue_lock asleep c u x h) [ inl a ↦ inv.bit k x u a | inr b ↦ rw b.1 mark ];
}

-- ---- exits
pub passes_owned : (x : ExitRule) (v : ℕ) → Passes x v → owner v ≢ 0
passes_owned WakesAlways v h = absurd h
passes_owned WakesUnowned v h = h
passes_owned WakesUncovered v h = h.0

pub passes_marked : (x : ExitRule) (v : ℕ) → SafeExit x → Passes x v → waiters v ≡ 2147483648
passes_marked WakesAlways v e h = absurd h
passes_marked WakesUnowned v e h = absurd e
passes_marked WakesUncovered v e h = waiters_full v h.1

-- what is left of a word that is given up in one step
pub left_bit : (r : ReleaseRule) (v : ℕ) → KeepsBit r → waiters v ≡ 2147483648 → waiters (left_by r v) ≡ 2147483648
left_bit ClearsWord v k h = absurd k
left_bit KeepsWaiters v k h = waiters-waiters v ∙ h
left_bit TidiesWaiters v k h = absurd k
left_bit DropsOwner v k h = waiters-waiters v ∙ h

pub left_plain : (r : ReleaseRule) (v : ℕ) → Clears r → left_by r v ≡ 0
left_plain ClearsWord v k = refl
left_plain KeepsWaiters v k = absurd k
left_plain TidiesWaiters v k = absurd k
left_plain DropsOwner v k = absurd k

pub left_owner : (r : ReleaseRule) (v : ℕ) → owner (left_by r v) ≡ 0
left_owner ClearsWord v = owner-small 0 (omega arith)
left_owner KeepsWaiters v = owner-waiters v
left_owner TidiesWaiters v = owner-waiters v
left_owner DropsOwner v = owner-waiters v

pub left_died : (r : ReleaseRule) (v : ℕ) → owner_died_bit (left_by r v) ≡ 0
left_died ClearsWord v = died-small 0 (omega arith)
left_died KeepsWaiters v = died-waiters v
left_died TidiesWaiters v = died-waiters v
left_died DropsOwner v = died-waiters v

pub keeps_not_tidies : (r : ReleaseRule) → KeepsBit r → Tidies r → ⊥
keeps_not_tidies ClearsWord k h = h
keeps_not_tidies KeepsWaiters k h = h
keeps_not_tidies TidiesWaiters k h = k
keeps_not_tidies DropsOwner k h = h

-- ---- the word of a free monitor, where a release clears it
abbrev pub IsPlain : Hold → ℕ → Type 0
IsPlain h v = h ≡ Free → v ≡ 0

pub record Plain (rule : ReleaseRule) (lock : ℕ → ℕ) (hold : ℕ → Hold) : Type 0 where
  pub word : Clears rule → (e : ℕ) → IsPlain (hold e) (lock e)

-- a monitor's word and state change
pub plain_put : (rule : ReleaseRule) (lock : ℕ → ℕ) (hold : ℕ → Hold) (e v : ℕ) (h : Hold) → Plain rule lock hold
    → (Clears rule → IsPlain h v) → Plain rule (put lock e v) (put hold e h)
plain_put rule lock hold e v h inv mine = record {
  word = λ k x. at_put2 hold lock e h v x IsPlain (λ q. mine k) (λ n. inv.word k x);
}

-- its word alone
pub plain_word : (rule : ReleaseRule) (lock : ℕ → ℕ) (hold : ℕ → Hold) (e v : ℕ) → Plain rule lock hold
    → IsPlain (hold e) v → Plain rule (put lock e v) hold
plain_word rule lock hold e v inv mine = record {
  word = λ k x. at_put lock e v x (IsPlain (hold x)) (λ q. subst (λ y. IsPlain (hold y) v) (sym q) mine)
      (λ n. inv.word k x);
}

pub keeps_or_clears : (r : ReleaseRule) → Keeps r → Clears r → ⊥
keeps_or_clears ClearsWord h k = h
keeps_or_clears KeepsWaiters h k = k
keeps_or_clears TidiesWaiters h k = k
keeps_or_clears DropsOwner h k = k
