-- Waiting processes that are resumed.
use Rattle.std.proofs.Common.{◌≡◌, ℕ, zero, suc, List, [], ◌∷◌, Option, Some, None, Contains, refl, sym, ap, ◌∙◌, inl}
use Rattle.std.proofs.Common.{inr, arith}
use Rattle.std.proofs.lemmas.Bool.{cases_eq, eq-eqb, ne_eqb}
use Rattle.words.specs.Updates.{put}
use Rattle.program.specs.declared.kinds.Member.{Member}
use Rattle.meaning.specs.Labels.{Notifies, Broadcasts}
use Rattle.meaning.specs.Table.{Table, Allows, without_waiters}

pub put_none : (waits : ℕ → Option Member) (i j : ℕ) → waits j ≡ None → put waits i None j ≡ None
put_none waits i j none = elim (cases_eq j i) [
  | inl e ↦ rw (eq-eqb j i e) refl
  | inr ne ↦ rw (ne_eqb j i ne) none
]

put_at : (waits : ℕ → Option Member) (i j : ℕ) → j ≡ i → put waits i None j ≡ None
put_at waits i j e = rw (eq-eqb j i e) refl

resumed_waits : (qs : List ℕ) (waits : ℕ → Option Member) (q : ℕ) → Contains qs q → without_waiters qs waits q ≡ None
resumed_waits [] waits q (k, less, is) = absurd (omega (arith, less))
resumed_waits (r ∷ qs) waits q (zero, less, is) = put_at (without_waiters qs waits) r q (sym is)
resumed_waits (r ∷ qs) waits q (suc k, less, is) =
    put_none (without_waiters qs waits) r q (resumed_waits qs waits q (k, omega (arith, less), is))

-- who waits afterwards waited before
pub still_waits : (qs : List ℕ) (waits : ℕ → Option Member) (q : ℕ) (c : Member)
    → without_waiters qs waits q ≡ Some c → waits q ≡ Some c
still_waits [] waits q c w = w
still_waits (r ∷ qs) waits q c w = elim (cases_eq q r) [
  | inl e ↦ absurd (let n : None ≡ Some c = sym (put_at (without_waiters qs waits) r q e) ∙ w in cc)
  | inr ne ↦ still_waits qs waits q c (sym (ne_put (without_waiters qs waits) r q ne) ∙ w)
]
  where
    ne_put : (f : ℕ → Option Member) (i j : ℕ) → (j ≡ i → ⊥) → put f i None j ≡ f j
    ne_put f i j ne = rw (ne_eqb j i ne) refl

contains_first : (q : ℕ) (qs : List ℕ) → Contains (q ∷ qs) q
contains_first q qs = (0, omega arith, refl)

some_resumed : (qs : List ℕ) → (qs ≡ [] → ⊥) → (r : ℕ) × Contains qs r
some_resumed [] none = absurd (none refl)
some_resumed (q ∷ qs) none = (q, contains_first q qs)

pub notified : (p : ℕ) (c : Member) (resumed : List ℕ) (t t' : Table) (q : ℕ)
    → Allows p (Notifies c resumed) t t' → t.waits q ≡ Some c
    → (r : ℕ) × Contains resumed r × (t.waits r ≡ Some c) × (t'.waits r ≡ None)
notified p c resumed t t' q (is, after) w =
    let one : (r : ℕ) × Contains resumed r = some_resumed resumed (is.some q w) in (
      one.0,
      one.1,
      is.wait one.0 one.1,
      ap (λ (x : Table). x.waits one.0) after
          ∙ resumed_waits resumed t.waits one.0 one.1,
    )

pub broadcast : (p : ℕ) (c : Member) (resumed : List ℕ) (t t' : Table) (q : ℕ)
    → Allows p (Broadcasts c resumed) t t' → t'.waits q ≡ Some c → ⊥
broadcast p c resumed t t' q (is, after) w =
    let w' : without_waiters resumed t.waits q ≡ Some c = ap (λ (x : Table). x.waits q) (sym after) ∙ w in
    let n : None ≡ Some c = sym (resumed_waits resumed t.waits q (is.all q (still_waits resumed t.waits q c w')))
    ∙ w' in
    absurd (cc)
