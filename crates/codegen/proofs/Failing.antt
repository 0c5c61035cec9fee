-- A refusal passed on.
use Rattle.std.proofs.Common.{◌≡◌, ◌≤◌, ℕ, Result, Ok, Err, subst, sym, inl, inr, arith}
use Rattle.std.specs.Prelude.{MatchResult, IsErr, IsErrAnd}
use Rattle.scanner.specs.declared.refusal.Refusal.{Refusal}
use Rattle.scanner.specs.Refusals.{out_of_memory}
use Rattle.codegen.specs.Failures.{Fails}

-- what is too long with fewer instructions is too long with more
pub fails_more : (e : Refusal) (n m : ℕ) → n ≤ m → Fails e n → Fails e m
fails_more e n m le (inl memory) = inl memory
fails_more e n m le (inr long) = inr (long.0, (let over = long.1 in omega arith))

-- an error passed on is the same error
pub failed : {T : Type 0} (r : Result T Refusal) (e : Refusal) (P : T → Type 0) (n m : ℕ)
    → IsErr r × IsErrAnd r (λ x. x ≡ e) → Fails e n → n ≤ m → MatchResult r P (λ x. Fails x m)
failed (Ok t) e P n m h f le = absurd h.1
failed (Err x) e P n m h f le = subst (λ y. Fails y m) (sym h.1) (fails_more e n m le f)

-- an allocation that failed, passed on
pub no_memory : {T : Type 0} (r : Result T Refusal) (P : T → Type 0) (m : ℕ)
    → IsErr r × IsErrAnd r (λ x. x ≡ out_of_memory) → MatchResult r P (λ x. Fails x m)
no_memory (Ok t) P m h = absurd h.1
no_memory (Err x) P m h = inl h.1
