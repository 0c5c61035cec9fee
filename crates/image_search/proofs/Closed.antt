-- Flagged states that are closed.
use Rattle.std.proofs.Common.{◌≡◌, ◌∙◌, ◌<◌, ℕ, zero, suc, Bool, Contains, List, [], ◌∷◌, Some, None, ap, arith}
use Rattle.std.proofs.Common.{false, inl, inr, length, refl, slice_get, sym, true}
use Rattle.std.proofs.lemmas.Bool.{cases_lt}
use Rattle.std.proofs.lemmas.Option.{slice_get_past}
use Rattle.isa.specs.Programs.{Program}
use Rattle.proof_image_search.specs.Searching.{Kept}
use Rattle.proof_image_liveness.specs.Sleeping.{AreAsleep}
use Rattle.image_states.specs.Packed.{kept_of, thread_at, local_in}
use Rattle.image_states.specs.declared.packed.Packed.{Packed as PackedOf}
use Rattle.image_search.specs.declared.kept.KeptStates.{KeptStates as KeptOf}
use Rattle.image_search.specs.Kept.{IsApartIn, IsSound, states_of}
use Rattle.image_search.specs.Living.{HoldsAt, IsClosed, IsStill, OwnLeads, SleepsAt, flagged}
use Rattle.image_search.proofs.Flagging.{holds_still, one_at, packed_at}

-- a flagged state is one of those that are flagged
pub flagged_in : (flags : List Bool) (rs : List Kept) (i : ℕ) (r : Kept) → slice_get flags i ≡ Some true
    → slice_get rs i ≡ Some r → Contains (flagged flags rs) r
flagged_in [] rs i r is at = absurd cc
flagged_in (b ∷ flags) [] i r is at = absurd cc
flagged_in (true ∷ flags) (x ∷ rs) zero r is at =
    let same : x ≡ r = let e : Some x ≡ Some r = at in cc in (0, omega arith, same)
flagged_in (false ∷ flags) (x ∷ rs) zero r is at = absurd (let e : Some false ≡ Some true = is in cc)
flagged_in (true ∷ flags) (x ∷ rs) (suc i) r is at =
    let rest = flagged_in flags rs i r is at in
    let less : rest.0 < length (flagged flags rs) = rest.1 in (suc rest.0, omega (arith, less), rest.2)
flagged_in (false ∷ flags) (x ∷ rs) (suc i) r is at = flagged_in flags rs i r is at

-- and each of those is flagged
flagged_at : (flags : List Bool) (rs : List Kept) (r : Kept) → Contains (flagged flags rs) r
    → (i : ℕ) × (slice_get flags i ≡ Some true) × (slice_get rs i ≡ Some r)
flagged_at [] rs r (k, less, e) = absurd (omega (arith, less))
flagged_at (true ∷ flags) [] r (k, less, e) = absurd (omega (arith, less))
flagged_at (false ∷ flags) [] r (k, less, e) = absurd (omega (arith, less))
flagged_at (true ∷ flags) (x ∷ rs) r (zero, less, e) = (0, refl, ap (λ q. Some q) e)
flagged_at (true ∷ flags) (x ∷ rs) r (suc k, less, e) =
    let rest = flagged_at flags rs r (k, omega (arith, less), e) in (suc rest.0, rest.1, rest.2)
flagged_at (false ∷ flags) (x ∷ rs) r (k, less, e) =
    let rest = flagged_at flags rs r (k, less, e) in (suc rest.0, rest.1, rest.2)

-- where each flagged state is closed
pub are_asleep : (p : Program) (t : ℕ) (kept : KeptOf) (flags : List Bool)
    → ((i : ℕ) → slice_get flags i ≡ Some true → HoldsAt p kept i (IsClosed p t kept flags))
    → AreAsleep p kept.parts.alone t (flagged flags (states_of p kept))
are_asleep p t kept flags closed = record {
  sleeps = λ r is. let at = flagged_at flags (states_of p kept) r is in (closed at.0 at.1 r at.2).sleeps;
  closed = λ r is u woken s step.
      let at = flagged_at flags (states_of p kept) r is in
      (closed at.0 at.1 r at.2).leads u (flagged flags (states_of p kept)) (flagged_in flags (states_of p kept)) woken s
      step;
  apart = λ f r is. let at = flagged_at flags (states_of p kept) r is in (closed at.0 at.1 r at.2).apart f;
}

-- a thread past those that were made takes no step
pub closed_of : (p : Program) (t : ℕ) (a kept : KeptOf) (flags : List Bool) (place count : ℕ) → IsSound a → IsStill a kept
    → HoldsAt p a place (λ (r : Kept). r.state.made ≡ count)
    → ((u : ℕ) → u < count → HoldsAt p kept place (OwnLeads p kept flags (suc u)))
    → HoldsAt p kept place (SleepsAt t) → HoldsAt p kept place (IsApartIn p kept.parts.alone)
    → HoldsAt p kept place (IsClosed p t kept flags)
closed_of p t a kept flags place count sound still made leads sleeps apart r at = record {
  sleeps = sleeps r at;
  leads = λ u. by_thread u;
  apart = apart r at;
}
  where
    x : (x : PackedOf) × (slice_get kept.states.items place ≡ Some x)
    x = packed_at p kept.parts kept.states.items place r at

    same : kept_of p kept.parts x.0 ≡ r
    same = one_at p kept place x.0 x.1 r at

    size : length x.0.parts.items ≡ count
    size = ap (λ (q : Kept). q.state.made) same
        ∙ holds_still p a kept place (λ (q : Kept). q.state.made ≡ count) sound still made r at

    never : (u : ℕ) → thread_at kept.parts.locals.items x.0.parts.items u ≡ None → OwnLeads p kept flags u r
    never u none lives are woken s step = absurd (let no' : None ≡ Some step.thread =
        sym none ∙ ap (λ (q : Kept). q.state.thread u) same ∙ step.stands in cc)

    by_thread : (u : ℕ) → OwnLeads p kept flags u r
    by_thread zero = never zero refl
    by_thread (suc u) = elim (cases_lt u count) [
      | inl less ↦ leads u less r at
      | inr most ↦ never (suc u)
          (ap (local_in kept.parts.locals.items) (slice_get_past x.0.parts.items u (omega (arith, most, size))))
    ]
