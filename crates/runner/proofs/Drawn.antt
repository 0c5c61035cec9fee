-- What comes of an entry that was drawn: a run of such entries comes to its end.
use Rattle.std.proofs.Common.{◌≡◌, ◌≢◌, ◌≤◌, ◌<◌, ◌+◌, ℕ, zero, suc, Bool, true, false, List, [], ◌∷◌}
use Rattle.std.proofs.Common.{Some, None, Result, Ok, Err, OnOk, IfErr, slice_get, slice_set, ap, sym, subst, arith, ◌∙◌}
use Rattle.std.proofs.Common.{inl, inr}
use Rattle.std.proofs.lemmas.Bool.{cases_eq}
use Rattle.isa.specs.Programs.{Program}
use Rattle.machine.specs.States.{thread_of}
use Rattle.machine.proofs.Placing.{get_set_other}
use Rattle.runner.specs.declared.fault.RunFault.{RunFault}
use Rattle.runner.specs.declared.fault.RunFault.TheVariants.{Stray, CannotMove, Broken, Limit, Memory}
use Rattle.runner.specs.Entries.{RefusesKill, RefusesOutside, TakesKill, TakesOutside}
use Rattle.runner.specs.Logs.{Outside, cost}
use Rattle.runner.specs.Reports.{CanFail, IsStopped}
use Rattle.runner.specs.Rounds.{AllPast, AllStopped, Idle, IsAsleep, NoneLeft, left}
use Rattle.runner.specs.Views.{LogState}
use Rattle.runner.proofs.Growing.{cost_more}
use Rattle.runner.proofs.Passing.{stops}

-- one fewer
pub one_fewer : (xs : List Bool) (t : ℕ) → slice_get xs t ≡ Some false → suc (left (slice_set xs t true)) ≡ left xs
one_fewer [] t is = absurd cc
one_fewer (true ∷ xs) zero is = absurd cc
one_fewer (false ∷ xs) zero is = omega arith
one_fewer (true ∷ xs) (suc t) is = one_fewer xs t is
one_fewer (false ∷ xs) (suc t) is = let less = one_fewer xs t is in omega (arith, less)

-- a thread that was drawn and can make no entry is passed over
pub one_stopped : (p : Program) (limit : ℕ) (h : LogState) (t : ℕ) (passed : List Bool)
    → IsStopped p limit h.log h.concrete t → AllStopped p limit h passed → AllStopped p limit h (slice_set passed t true)
one_stopped p limit h t passed now stopped u is =
    elim (cases_eq u t) [
      | inl e ↦ subst (λ (v : ℕ). IsStopped p limit h.log h.concrete v) (sym e) now
      | inr other ↦ stopped u (sym (get_set_other passed t u true other) ∙ is)
    ]

-- where each thread that can move was refused or is passed over, none can make its next entry
pub idle_so : (p : Program) (limit : ℕ) (h : LogState) (refused passed : List Bool) → AllPast p limit h refused
    → AllStopped p limit h passed → NoneLeft h.concrete.concrete refused passed → Idle p limit h
idle_so p limit h refused passed past stopped none t moves =
    elim (none t moves) [
      | inl was ↦ stops p limit h t (past t was)
      | inr is ↦ stopped t is
    ]

-- a wake from outside was made
pub wake_more : (limit : ℕ) (old new : LogState) (t : ℕ) → TakesOutside limit old t new
    → (cost old.log < cost new.log) × (cost new.log ≤ limit)
wake_more limit old new t takes =
    let more : cost new.log ≡ cost old.log + (0 + 1) = ap cost takes.log
    ∙ cost_more old.log t 0 (Some takes.event) in
    (omega (arith, more), takes.within)

-- a kill was made
pub kill_more : (p : Program) (limit : ℕ) (old new : LogState) (t : ℕ) → TakesKill p limit old t new
    → (cost old.log < cost new.log) × (cost new.log ≤ limit)
kill_more p limit old new t takes =
    let more : cost new.log ≡ cost old.log + (0 + 1) = ap cost takes.log
    ∙ cost_more old.log t 0 (Some takes.event) in
    (omega (arith, more), takes.within)

-- what comes of a thing that was done comes of it where it was done
pub if_made : {T E P Q : Type 0} → (r : Result T E) → (P → Q) → OnOk r P → OnOk r Q
if_made (Ok x) so h = so h
if_made (Err e) so h = h

fails_by : (p : Program) (may : Outside) (limit : ℕ) (h : LogState) (t : ℕ) (fault : RunFault)
    → IsAsleep h.concrete.concrete t → cost h.log < limit → RefusesOutside limit h t fault → CanFail p may limit fault
fails_by p may limit h t Stray sleeps room refuses = refuses
fails_by p may limit h t CannotMove sleeps room refuses = absurd (sleeps refuses)
fails_by p may limit h t Broken sleeps room refuses = absurd refuses
fails_by p may limit h t Limit sleeps room refuses =
    let full = refuses.1 in absurd (omega (arith, full, room))
fails_by p may limit h t Memory sleeps room refuses = tt

-- where a thread sleeps and the limit leaves room, its wake is refused for want of memory alone
pub wake_fails : {T : Type 0} → (A B : Type 0) (p : Program) (may : Outside) (limit : ℕ) (h : LogState) (t : ℕ)
    (r : Result T RunFault) → IsAsleep h.concrete.concrete t → cost h.log < limit
    → IfErr r (λ fault. A × B × RefusesOutside limit h t fault) → IfErr r (λ fault. CanFail p may limit fault)
wake_fails A B p may limit h t (Ok x) sleeps room refuses = refuses
wake_fails A B p may limit h t (Err fault) sleeps room refuses =
    fails_by p may limit h t fault sleeps room refuses.2

kill_fails_by : (p : Program) (may : Outside) (limit : ℕ) (h : LogState) (t : ℕ) (fault : RunFault)
    → thread_of h.concrete.concrete t ≢ None → cost h.log < limit → RefusesKill limit h t fault → CanFail p may limit fault
kill_fails_by p may limit h t Stray made room refuses = refuses
kill_fails_by p may limit h t CannotMove made room refuses = absurd (made refuses)
kill_fails_by p may limit h t Broken made room refuses = absurd refuses
kill_fails_by p may limit h t Limit made room refuses =
    let full = refuses.1 in absurd (omega (arith, full, room))
kill_fails_by p may limit h t Memory made room refuses = tt

-- where a thread was made and the limit leaves room, its kill is refused for want of memory alone
pub kill_fails : {T : Type 0} → (A B : Type 0) (p : Program) (may : Outside) (limit : ℕ) (h : LogState) (t : ℕ)
    (r : Result T RunFault) → thread_of h.concrete.concrete t ≢ None → cost h.log < limit
    → IfErr r (λ fault. A × B × RefusesKill limit h t fault) → IfErr r (λ fault. CanFail p may limit fault)
kill_fails A B p may limit h t (Ok x) made room refuses = refuses
kill_fails A B p may limit h t (Err fault) made room refuses =
    kill_fails_by p may limit h t fault made room refuses.2
