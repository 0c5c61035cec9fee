-- Which number a thread has that can move.
use Rattle.std.proofs.Common.{◌≡◌, ℕ, zero, suc, ◌<◌, ◌≤◌, true, false, length, Option, Some, None, IfSome, refl, ap, arith}
use Rattle.std.proofs.lemmas.Option.{slice_get_past}
use Rattle.words.specs.Limits.{most_threads}
use Rattle.machine.specs.States.{ConcreteState}
use Rattle.machine.specs.ConcreteSteps.{can_move, thread_can_move}
use Rattle.machine.specs.ThreadSets.{IsLeastFrom, IsThread}
use Rattle.runner.proofs.Passing.{made_within}

pub none_past : (k : ConcreteState) (t : ℕ) → length k.threads < t → can_move k t ≡ false
none_past k zero past = refl
none_past k (suc n) past =
    ap (thread_can_move (k.common.asleep (suc n))) (slice_get_past k.threads n (omega (arith, past)))

pub one_at_least : (k : ConcreteState) (t : ℕ) → can_move k t ≡ true → 1 ≤ t
one_at_least k zero h = absurd cc
one_at_least k (suc n) h = omega arith

-- the first from a number on that can move, if there is one
pub next_is_thread : (k : ConcreteState) (from : ℕ) (o : Option ℕ) → length k.threads ≤ most_threads
    → IsLeastFrom (can_move k) from o → IfSome o (λ t. IsThread t)
next_is_thread k from None few least = tt
next_is_thread k from (Some t) few least =
    let made = made_within k t least.1 in
    (one_at_least k t least.1, omega (arith, made, few))
