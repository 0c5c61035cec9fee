-- Who waits behind a notify or broadcast depends on the set of those that it resumes alone.
use Rattle.std.proofs.Common.{◌≡◌, ◌⊎◌, ℕ, zero, suc, ◌<◌, List, [], ◌∷◌, length, Option, None, Contains, refl}
use Rattle.std.proofs.Common.{sym, ◌∙◌, arith, inl, inr}
use Rattle.std.proofs.lemmas.Bool.{cases_eq}
use Rattle.program.specs.declared.kinds.Member.{Member}
use Rattle.meaning.specs.Table.{without_waiters}
use Rattle.words.proofs.Updates.{at_put}
use Rattle.proof_exploration.specs.Exploring.{SameMembers}
use Rattle.proof_exploration.proofs.Tables.{without_out}

pub within : (qs : List ℕ) (q : ℕ) → Contains qs q ⊎ (Contains qs q → ⊥)
within [] q = inr (λ c. (let less : c.0 < 0 = c.1 in absurd (omega (arith, less))))
within (r ∷ qs) q = elim (cases_eq r q) [
  | inl e ↦ inl (0, omega arith, e)
  | inr o ↦ elim (within qs q) [
    | inl c ↦ inl (suc c.0, (let less : c.0 < length qs = c.1 in omega (arith, less)), c.2)
    | inr out ↦ inr (λ c. out (later o c))
  ]
]
  where
    later : (r ≡ q → ⊥) → Contains (r ∷ qs) q → Contains qs q
    later o (zero, less, is) = absurd (o is)
    later o (suc k, less, is) = (k, omega (arith, less), is)

pub without_in : (qs : List ℕ) (w : ℕ → Option Member) (q : ℕ) → Contains qs q → without_waiters qs w q ≡ None
without_in [] w q (k, less, is) = absurd (omega (arith, less))
without_in (r ∷ qs) w q (zero, less, is) =
    at_put (without_waiters qs w) r None q (λ x. x ≡ None) (λ e. refl) (λ o. absurd (o (sym is)))
without_in (r ∷ qs) w q (suc k, less, is) =
    at_put (without_waiters qs w) r None q (λ x. x ≡ None) (λ e. refl)
    (λ o. without_in qs w q (k, omega (arith, less), is))

pub without_same : (qs rs : List ℕ) (w : ℕ → Option Member) (q : ℕ) → SameMembers qs rs
    → without_waiters qs w q ≡ without_waiters rs w q
without_same qs rs w q same = elim (within qs q) [
  | inl c ↦ without_in qs w q c ∙ sym (without_in rs w q ((same q).0 c))
  | inr out ↦ without_out qs w q out ∙ sym (without_out rs w q (λ c. out ((same q).1 c)))
]
